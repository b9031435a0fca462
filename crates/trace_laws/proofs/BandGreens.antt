-- A vehicle of an open time meets green.
use Rattle.std.proofs.Common.{◌≡◌, ◌⊎◌, inl, inr, ℕ, ◌+◌, ◌<◌, ◌≤◌, ◌==◌, Bool, true, false, if◌then◌else◌, List, [], ◌∷◌, length, Option, Some, None, refl, sym, ◌∙◌, ap, subst, arith}
use Rattle.std.proofs.lemmas.Bool.{cases_Bool, and_parts, false≢true, ltb-true}
use Rattle.sig_types.specs.declared.frame.Colour.TheVariants.{Green}
use Rattle.sig_types.specs.declared.frame.Mode.TheVariants.{Coord}
use Rattle.sig_types.specs.Colour.{colour_in, colour_of}
use Rattle.sig_tables.specs.declared.tables.Tables.{Tables}
use Rattle.sig_tables.specs.Slots.{is_defined, is_coordinated, coordinated_phase, force_point}
use Rattle.sig_tables.specs.Clock.{target_at}
use Rattle.sig_tables.specs.Past.{History, Moment}
use Rattle.sig_tables.specs.Looking.{last_frame}
use Rattle.sig_tables.specs.Decide.{frames, past_at, since_opening}
use Rattle.rule_book.specs.Rules.{Consistent}
use Rattle.rule_facts.proofs.Facts.{sound}
use Rattle.tick_laws.specs.InStep.{Coordinated, EachCoordinated}
use Rattle.safety_laws.specs.Safe.{Indications, dark, told, shown_at, intersection_of}
use Rattle.safety_laws.specs.Written.{shown_by, written, tables_of}
use Rattle.safety_laws.specs.CabinetTold.{told_in, history_told}
use Rattle.safety_laws.specs.TraceText.{AreLines}
use Rattle.safety_laws.proofs.CabinetTold.{shown-by-frames}
use Rattle.safety_laws.proofs.Shown.{lines-show}
use Rattle.safety_laws.proofs.Versions.{versions}
use Rattle.scenario_data.specs.Content.{CabinetContent, ScenarioContent}
use Rattle.scenario_data.specs.Opening.{opening_tables}
use Rattle.cabinet_history.specs.Coming.{history_of}
use Rattle.cabinet_history.specs.Frames.{has_line}
use Rattle.cabinet_laws.proofs.Admitting.{same-tables}
use Rattle.cabinet_laws.proofs.Changes.{tells}
use Rattle.cabinet_laws.proofs.Telling.{cabinet_history-tells}
use Rattle.runnable.specs.Cabinets.{IsNumbered, IsCabinet}
use Rattle.runnable.specs.Runnable.{CanOpen, AllOpen, Runnable}
use Rattle.run_definition.specs.CabinetState.{CabinetState, HasComeTo, opened_cabinet_states, cabinet_states_after}
use Rattle.run_definition.specs.Lines.{run_lines}
use Rattle.run_definition.specs.Orders.{AreJournals}
use Rattle.run_definition.specs.Safe.{Kept}
use Rattle.run_definition.proofs.Streets.{Ended, drift_in, run-ended}
use Rattle.trace_laws.specs.Laws.{TellsOfRun}
use Rattle.band_report.specs.Street.{Member, Passage, passed_after, ring_driven, members_from, members, passages_from, all_define, misfit_along}
use Rattle.band_report.specs.Bands.{finds_window, is_open}
use Rattle.band_report.specs.declared.misfit.Misfit.{Misfit}
use Rattle.band_report.specs.declared.misfit.Misfit.TheVariants.{Undefined}
use Rattle.trace_laws.specs.BandDriving.{IsAtTick, MeetsGreen, EachPassage, OpenIsGreen, BandIsGreen}
use Rattle.trace_laws.proofs.BandTargets.{each-target, same-target, newest, holds-at, opening-version}

-- the lines of each run are lines that a trace may have
abbrev pub Proper : Type 0
Proper = (s : ScenarioContent) → Runnable s → (journals : List (List (List ℕ))) → AreJournals s journals → AreLines (run_lines s journals)

-- ---- a passage is a cabinet that defines the pattern

-- a cabinet of the scenario, and that its opening tables define the pattern
record Drives (cabinets : List CabinetContent) (first n number : ℕ) (t : Tables) : Type 0 where
  cabinet : CabinetContent
  is : IsNumbered number cabinet first cabinets
  tables : opening_tables cabinet ≡ t
  defined : is_defined t n ≡ true

abbrev EachDrives : List CabinetContent → ℕ → ℕ → List Member → Type 0
EachDrives cabinets first n [] = Unit {0}
EachDrives cabinets first n (m ∷ more) = Drives cabinets first n m.number m.tables × EachDrives cabinets first n more

behind : (d : CabinetContent) (cabinets : List CabinetContent) (first n : ℕ) (ms : List Member) → EachDrives cabinets (first + 1) n ms
    → EachDrives (d ∷ cabinets) first n ms
behind d cabinets first n [] h = tt
behind d cabinets first n (m ∷ more) h = (
  record { cabinet = h.0.cabinet; is = inr h.0.is; tables = h.0.tables; defined = h.0.defined },
  behind d cabinets first n more h.1,
)

members-drive : (section n first : ℕ) (cabinets : List CabinetContent) → all_define n (members_from section first cabinets) ≡ true
    → EachDrives cabinets first n (members_from section first cabinets)
members-drive section n first [] h = tt
members-drive section n first (c ∷ cabinets) h = split (members-drive section n (first + 1) cabinets) (c.section == section) h
  where
    own : Member
    own = record { number = first; tables = opening_tables c }

    rest : List Member
    rest = members_from section (first + 1) cabinets

    split : (all_define n rest ≡ true → EachDrives cabinets (first + 1) n rest) → (b : Bool) → all_define n (if b then own ∷ rest else rest) ≡ true
        → EachDrives (c ∷ cabinets) first n (if b then own ∷ rest else rest)
    split later true k =
        let parts = and_parts (is_defined (opening_tables c) n) (all_define n rest) k in (
          record { cabinet = c; is = inl (refl, refl); tables = refl; defined = parts.0 },
          behind c cabinets first n rest (later parts.1),
        )
    split later false k = behind c cabinets first n rest (later k)

-- where nothing prevents a band each cabinet defines the pattern
all-defined : (n legs : ℕ) (ms : List Member) → misfit_along n legs ms ≡ None → all_define n ms ≡ true
all-defined n legs [] h = refl
all-defined n legs (m ∷ more) h = elim (cases_Bool (all_define n (m ∷ more))) [
  | inl all ↦ all
  | inr some ↦ absurd (some-none (rw some at h))
]
  where
    is-some : Option Misfit → Bool
    is-some None = false
    is-some (Some misfit) = true

    some-none : Some Undefined ≡ None → ⊥
    some-none e = false≢true (sym (ap is-some e))

-- ---- one passage

opens : (cab first : ℕ) (c : CabinetContent) (cabinets : List CabinetContent) → AllOpen cabinets → IsNumbered cab c first cabinets → CanOpen c
opens cab first c [] all is = absurd is
opens cab first c (d ∷ cabinets) all (inl here) = subst CanOpen (sym here.1) all.0
opens cab first c (d ∷ cabinets) all (inr later) = opens cab (first + 1) c cabinets all.1 later

come-late : (cab first : ℕ) (t : CabinetState) (ts : List CabinetState) → HasComeTo cab t first ts → first ≤ cab
come-late cab first t [] is = absurd is
come-late cab first t (u ∷ ts) (inl here) = let e : cab ≡ first = here.0 in omega (arith, e)
come-late cab first t (u ∷ ts) (inr later) = let l : first + 1 ≤ cab = come-late cab (first + 1) t ts later in omega (arith, l)

one-state : (cab first : ℕ) (t u : CabinetState) (ts : List CabinetState) → HasComeTo cab t first ts → HasComeTo cab u first ts → t ≡ u
one-state cab first t u [] a b = absurd a
one-state cab first t u (v ∷ ts) (inl a) (inl b) = a.1 ∙ sym b.1
one-state cab first t u (v ∷ ts) (inl a) (inr b) =
    let here : cab ≡ first = a.0 in
    let late : first + 1 ≤ cab = come-late cab (first + 1) u ts b in
    absurd (omega (arith, here, late))
one-state cab first t u (v ∷ ts) (inr a) (inl b) =
    let here : cab ≡ first = b.0 in
    let late : first + 1 ≤ cab = come-late cab (first + 1) t ts a in
    absurd (omega (arith, here, late))
one-state cab first t u (v ∷ ts) (inr a) (inr b) = one-state cab (first + 1) t u ts a b

-- which ring is driven
ring-is : (inbound : Bool) → (ring_driven inbound ≡ 1) ⊎ (ring_driven inbound ≡ 2)
ring-is true = inr refl
ring-is false = inl refl

module _ (proper : Proper) (text : List ℕ) (run : TellsOfRun text) where
  lines-are : run_lines run.scenario run.journals ≡ run.kept.lines
  lines-are =
      run.kept.its.only (run_lines run.scenario run.journals) (proper run.scenario run.runs run.journals run.are) run.text_is

  -- what the lines show at a tick is what the frame of its moment shows
  shown-is : (cab : ℕ) (c : CabinetContent) (end : CabinetState) (m : Moment) (tick : ℕ) → IsCabinet run.scenario cab c
      → HasComeTo cab end 1 (cabinet_states_after run.scenario (opened_cabinet_states run.scenario run.scenario.cabinets) run.journals)
      → IsAtTick m tick (past_at (history_of end.cabinet_history)).moments
      → (intersection_of cab (tables_of (history_of end.cabinet_history)) run.kept.lines).shown tick ≡ shown_by m.frame
  shown-is cab c end m tick is come at =
      let e : Ended run.scenario run.journals cab c = run-ended run.scenario run.journals cab c run.are is in
      let same : e.end ≡ end =
      one-state cab 1 e.end end (cabinet_states_after run.scenario (opened_cabinet_states run.scenario run.scenario.cabinets) run.journals) e.come come in
      let tells-it : told_in cab run.kept.lines ≡ history_told has_line (history_of e.end.cabinet_history) =
      ap (told_in cab) (sym lines-are) ∙ e.told ∙ cabinet_history-tells e.end.cabinet_history (opening_tables c) (drift_in c) e.opens in
      let h : History = history_of end.cabinet_history in
      let told-is : told cab run.kept.lines ≡ written has_line (frames h) =
      lines-show cab run.kept.lines h has_line
      (subst (λ (t : CabinetState). told_in cab run.kept.lines ≡ history_told has_line (history_of t.cabinet_history)) same tells-it) in
      ap (λ (x : List (ℕ × Indications)). shown_at tick dark x) told-is
      ∙ shown-by-frames has_line tells tick (past_at h).moments
      ∙ ap (λ (ms : List Moment). shown_by (last_frame ms)) (newest m tick (past_at h).moments at)

  -- the history that a cabinet has reached opened with its own tables
  opening-is : (cab : ℕ) (c : CabinetContent) (end : CabinetState) → IsCabinet run.scenario cab c
      → HasComeTo cab end 1 (cabinet_states_after run.scenario (opened_cabinet_states run.scenario run.scenario.cabinets) run.journals)
      → (history_of end.cabinet_history).tables ≡ opening_tables c
  opening-is cab c end is come =
      let e : Ended run.scenario run.journals cab c = run-ended run.scenario run.journals cab c run.are is in
      let same : e.end ≡ end =
      one-state cab 1 e.end end (cabinet_states_after run.scenario (opened_cabinet_states run.scenario run.scenario.cabinets) run.journals) e.come come in
      subst (λ (t : CabinetState). (history_of t.cabinet_history).tables ≡ opening_tables c) same
      (same-tables e.end.cabinet_history (opening_tables c) (drift_in c) e.opens)

  -- in each frame of a pattern the phases keep to the plan
  kept-at : (cab : ℕ) (c : CabinetContent) (end : CabinetState) (m : Moment) (tick n : ℕ) → IsCabinet run.scenario cab c
      → HasComeTo cab end 1 (cabinet_states_after run.scenario (opened_cabinet_states run.scenario run.scenario.cabinets) run.journals)
      → IsAtTick m tick (past_at (history_of end.cabinet_history)).moments → m.frame.mode ≡ Coord n → Coordinated m.tables n m
  kept-at cab c end m tick n is come at mode =
      let k : Kept run.scenario run.journals run.kept.lines cab c = run.kept.kept cab c is in
      let same : k.end ≡ end =
      one-state cab 1 k.end end (cabinet_states_after run.scenario (opened_cabinet_states run.scenario run.scenario.cabinets) run.journals) k.come come in
      holds-at (λ past x. (i : ℕ) → x.frame.mode ≡ Coord i → Coordinated x.tables i x) m tick (past_at (history_of end.cabinet_history)).moments at
      (subst (λ (t : CabinetState). EachCoordinated (past_at (history_of t.cabinet_history)).moments) same k.greens) n mode

  -- a frame of version 0 is of the opening tables
  tables-at : (cab : ℕ) (c : CabinetContent) (end : CabinetState) (m : Moment) (tick : ℕ) → IsCabinet run.scenario cab c
      → HasComeTo cab end 1 (cabinet_states_after run.scenario (opened_cabinet_states run.scenario run.scenario.cabinets) run.journals)
      → IsAtTick m tick (past_at (history_of end.cabinet_history)).moments → m.frame.version ≡ 0 → m.tables ≡ opening_tables c
  tables-at cab c end m tick is come at zero =
      let h : History = history_of end.cabinet_history in
      let each : tables_of h m.frame.version ≡ m.tables =
      holds-at (λ past x. tables_of h x.frame.version ≡ x.tables) m tick (past_at h).moments at (versions h.tables (since_opening h)).each in
      sym each ∙ ap (tables_of h) zero ∙ opening-version h.tables (since_opening h) ∙ opening-is cab c end is come

  meets : (n time : ℕ) (inbound : Bool) (c : Passage) → Drives run.scenario.cabinets 1 n c.number c.tables
      → finds_window n (ring_driven inbound) time c ≡ true
      → MeetsGreen run.scenario run.journals run.kept.lines n (ring_driven inbound) time c
  meets n time inbound c d found end tick in_step =
      ap (λ (x : Indications). colour_in x.colours q) shown ∙ green
    where
      m : Moment
      m = in_step.moment

      q : ℕ
      q = coordinated_phase c.tables n (ring_driven inbound)

      shown : (intersection_of c.number (tables_of (history_of end.cabinet_history)) run.kept.lines).shown tick ≡ shown_by m.frame
      shown = shown-is c.number d.cabinet end m tick d.is in_step.come in_step.given

      mode : m.frame.mode ≡ Coord n
      mode = ap (λ (x : Indications). x.mode) (sym shown) ∙ in_step.mode

      tables : m.tables ≡ c.tables
      tables =
          tables-at c.number d.cabinet end m tick d.is in_step.come in_step.given (ap (λ (x : Indications). x.version) (sym shown) ∙ in_step.opening)
          ∙ d.tables

      kept : Coordinated c.tables n m
      kept = subst (λ (t : Tables). Coordinated t n m) tables (kept-at c.number d.cabinet end m tick n d.is in_step.come in_step.given mode)

      consistent : Consistent c.tables
      consistent = subst Consistent d.tables (opens c.number 1 d.cabinet run.scenario.cabinets run.runs.can_open d.is).consistent

      held : is_coordinated c.tables n q ≡ true
      held = ((sound c.tables consistent).plans n d.defined).coordinates.coordinated (ring_driven inbound) (ring-is inbound)

      counter : m.frame.counter ≡ target_at c.tables n (time + c.after)
      counter =
          in_step.met
          ∙ holds-at (λ past x. (i : ℕ) → x.frame.mode ≡ Coord i → x.frame.target ≡ target_at x.tables i x.clock) m tick
          (past_at (history_of end.cabinet_history)).moments in_step.given
          (each-target (history_of end.cabinet_history).tables (since_opening (history_of end.cabinet_history))) n mode
          ∙ ap (λ (t : Tables). target_at t n m.clock) tables
          ∙ same-target c.tables n m.clock (time + c.after) in_step.clock

      green : colour_of m.frame q ≡ Green
      green = kept.held q held (subst (λ (x : ℕ). x < force_point c.tables n q) (sym counter) (ltb-true _ _ found))

  -- ---- the whole street

  along : (n time place : ℕ) (inbound : Bool) (travel : List ℕ) (ms : List Member) → EachDrives run.scenario.cabinets 1 n ms
      → is_open n (ring_driven inbound) (passages_from inbound travel place ms) time ≡ true
      → EachPassage (MeetsGreen run.scenario run.journals run.kept.lines n (ring_driven inbound) time) (passages_from inbound travel place ms)
  along n time place inbound travel [] d found = tt
  along n time place inbound travel (m ∷ more) d found =
      let c : Passage = record { number = m.number; tables = m.tables; after = passed_after inbound travel place } in
      let parts = and_parts (finds_window n (ring_driven inbound) time c)
      (is_open n (ring_driven inbound) (passages_from inbound travel (place + 1) more) time) found in
      (meets n time inbound c d.0 parts.0, along n time (place + 1) inbound travel more d.1 parts.1)

  pub open-green : OpenIsGreen text run
  open-green section n travel inbound time fits found =
      along n time 0 inbound travel (members run.scenario.cabinets section)
      (members-drive section n 1 run.scenario.cabinets (all-defined n (length travel) (members run.scenario.cabinets section) fits)) found

  pub band-green : BandIsGreen text run
  band-green section n travel inbound cycle start width tick fits band inside =
      open-green section n travel inbound (start + tick) fits (band.all_open tick inside)
