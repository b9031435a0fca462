-- The lines of a run are fine by the tables that they tell, as far as these are known.
use Rattle.std.proofs.Common.{◌≡◌, ◌≤◌, ◌∙◌, ◌+◌, ◌-◌, ◌==◌, if◌then◌else◌, ℕ, zero, suc, true, false, List, [], ◌∷◌, ◌++◌, length, drop, map, Option, Some, is_some, slice_get, refl, sym, ap, subst, arith, inl, inr, reverse}
use Rattle.std.specs.List.{AllByRecursion}
use Rattle.std.proofs.lemmas.Bool.{ne_eqb, eq-eqb}
use Rattle.std.proofs.lemmas.List.{reverse-append, reverse-reverse, length-map}
use Rattle.sig_tables.specs.declared.tables.Tables.{Tables}
use Rattle.sig_tables.specs.declared.cells.Cell.{Cell}
use Rattle.sig_tables.specs.Cells.{Content}
use Rattle.sig_tables.specs.Standard.{std8}
use Rattle.trace_text.specs.declared.lines.Line.{Line}
use Rattle.safety_laws.specs.Safe.{Indications, dark, told, shown_at, Intersection, Safe, intersection_of}
use Rattle.safety_laws.specs.Whole.{Whole}
use Rattle.safety_laws.specs.Written.{tables_of}
use Rattle.safety_laws.proofs.Shown.{lines-show}
use Rattle.scenario_data.specs.Content.{CabinetContent, ScenarioContent}
use Rattle.scenario_data.specs.Opening.{opening_tables}
use Rattle.cabinet_history.specs.Coming.{coming, history_of}
use Rattle.cabinet_history.specs.Downloads.{accepted_by, deeds_of, with_downloads}
use Rattle.cabinet_history.specs.Frames.{has_line}
use Rattle.stage_txn.specs.Answers.{answered}
use Rattle.cabinet_laws.proofs.Telling.{cabinet_history-tells}
use Rattle.runnable.specs.Cabinets.{IsNumbered, IsCabinet}
use Rattle.run_definition.specs.CabinetState.{CabinetState, HasComeTo, opened_cabinet_states, cabinet_states_after}
use Rattle.run_definition.specs.Lines.{run_lines}
use Rattle.run_definition.specs.Orders.{AreJournals}
use Rattle.run_definition.specs.Safe.{Kept, AllKept}
use Rattle.run_definition.proofs.Streets.{Ended, drift_in, run-ended}
use Rattle.judge_laws.specs.Breaches.{exact, breaches, Falls, Rising}
use Rattle.judge_laws.proofs.Parts.{AllFine}
use Rattle.judge_laws.proofs.Judged.{told-append, told-reverse, none-all, all-none, judged}
use Rattle.judge_laws.proofs.RunsRise.{runs-rise}
use Rattle.judge_session.specs.Told.{load_told, opening_or, opening_at, is_known, tables_before}
use Rattle.judged_runs.specs.Loads.{brought_to, IsLoadIfAny, LoadsAreOwn, AllAreLoads}
use Rattle.judged_runs.proofs.Ids.{ids_told, ids-reverse, no-ids, nothing-told}
use Rattle.judged_runs.proofs.Brought.{ids-brought, cells-brought}
use Rattle.judged_runs.proofs.Rounds.{come-late, run-ids}
use Rattle.judged_runs.proofs.Others.{is-cabinet, others-none, none-whole}
use Rattle.judged_runs.proofs.Versions.{made_by, told-made, all-made}
use Rattle.judged_runs.proofs.Shown.{Made, made-before, whole-back, told-fine}

-- ---- the tables of the history of each cabinet

abbrev tables_among : ℕ → List CabinetState → ℕ → (ℕ → Tables)
tables_among first [] cab = λ version. std8
tables_among first (t ∷ ts) cab = if cab == first then tables_of (history_of t.cabinet_history) else tables_among (first + 1) ts cab

among : (cab first : ℕ) (t : CabinetState) (ts : List CabinetState) → HasComeTo cab t first ts → tables_among first ts cab ≡ tables_of (history_of t.cabinet_history)
among cab first t [] is = absurd is
among cab first t (u ∷ ts) (inl here) =
    let e : (cab == first) ≡ true = eq-eqb cab first here.0 in
    rw e (ap (λ (x : CabinetState). tables_of (history_of x.cabinet_history)) (sym here.1))
among cab first t (u ∷ ts) (inr later) =
    let high : first + 1 ≤ cab = come-late cab (first + 1) t ts later in
    let e : (cab == first) ≡ false = ne_eqb cab first (λ f. absurd (omega (arith, high, f))) in
    rw e (among cab (first + 1) t ts later)

numbered-late : (cab first : ℕ) (c : CabinetContent) (cabinets : List CabinetContent) → IsNumbered cab c first cabinets → first ≤ cab
numbered-late cab first c [] is = absurd is
numbered-late cab first c (d ∷ cabinets) (inl here) = let e : cab ≡ first = here.0 in omega (arith, e)
numbered-late cab first c (d ∷ cabinets) (inr later) = let l : first + 1 ≤ cab = numbered-late cab (first + 1) c cabinets later in omega (arith, l)

opening-found : (cab first : ℕ) (c : CabinetContent) (cabinets : List CabinetContent) → IsNumbered cab c first cabinets → slice_get cabinets (cab - first) ≡ Some c
opening-found cab first c [] is = absurd is
opening-found cab first c (d ∷ cabinets) (inl here) =
    let e : cab - first ≡ zero = let same : cab ≡ first = here.0 in omega (arith, same) in
    rw e (ap (λ (x : CabinetContent). Some x) (sym here.1))
opening-found cab first c (d ∷ cabinets) (inr later) =
    let high : first + 1 ≤ cab = numbered-late cab (first + 1) c cabinets later in
    let e : cab - first ≡ suc (cab - (first + 1)) = omega (arith, high) in
    rw e (opening-found cab (first + 1) c cabinets later)

opening-is : (s : ScenarioContent) (cab : ℕ) (c : CabinetContent) → IsCabinet s cab c → opening_at s cab ≡ opening_tables c
opening-is s cab c is = ap opening_or (opening-found cab 1 c s.cabinets is)

-- ---- a cabinet that is dark at all ticks

abbrev dark_street : (ℕ → Tables) → List (ℕ × Indications) → Intersection
dark_street tables lines = record { tables = tables; shown = λ tick. shown_at tick dark lines }

dark-safe : (tables : ℕ → Tables) (cab : ℕ) (lines : List Line) → told cab lines ≡ [] → Safe (intersection_of cab tables lines)
dark-safe tables cab lines e =
    subst (λ (x : List (ℕ × Indications)). Safe (dark_street tables x)) (sym e) ((judged (λ n. tables) [] (λ n. tt)).0 refl cab)

no-more : (x : ℕ × Indications) (older : List (ℕ × Indications)) → x ∷ older ≡ [] → older ≡ []
no-more x older e = absurd (let n : length (x ∷ older) ≡ 0 = ap length e in omega (arith, n))

-- what holds of a cabinet's lines, and of what is left without the newest, holds without the newer ones
fewer : (P : List (ℕ × Indications) → Type 0) → ((x : ℕ × Indications) (older : List (ℕ × Indications)) → P (x ∷ older) → P older)
    → (xs ys : List (ℕ × Indications)) → P (xs ++ ys) → P ys
fewer P less [] ys h = h
fewer P less (x ∷ xs) ys h = fewer P less xs ys (less x (xs ++ ys) h)

all-own : (load : ℕ → Option (List (Cell × Content))) (ds : List (ℕ × List (Cell × Content))) → AllByRecursion (λ d. load d.0 ≡ Some d.1) ds
    → AllByRecursion (λ d. IsLoadIfAny (load d.0) d.1) ds
all-own load [] all = tt
all-own load (d ∷ ds) all = (subst (λ (x : Option (List (Cell × Content))). IsLoadIfAny x d.1) (sym all.0) refl, all-own load ds all.1)

pub loads-own : (s : ScenarioContent) (journals : List (List (List ℕ))) → AllAreLoads s journals → LoadsAreOwn s journals
loads-own s journals all cab end come = all-own (load_told s cab) (brought_to end.cabinet_history) (all cab end come)

module _ (s : ScenarioContent) (journals : List (List (List ℕ))) (are : AreJournals s journals) where
  abbrev lines : List Line
  lines = run_lines s journals

  abbrev back : List Line
  back = reverse lines

  abbrev ended : List CabinetState
  ended = cabinet_states_after s (opened_cabinet_states s s.cabinets) journals

  abbrev tables : ℕ → ℕ → Tables
  tables cab = tables_among 1 ended cab

  abbrev Absent : ℕ → Type 0
  Absent cab = (c : CabinetContent) → IsCabinet s cab c → ⊥

  none-told : (cab : ℕ) → Absent cab → told cab lines ≡ []
  none-told cab none = nothing-told cab lines (others-none s journals cab none)

  pub none-back : (cab : ℕ) → Absent cab → told cab back ≡ []
  none-back cab none = told-reverse cab lines ∙ ap reverse (none-told cab none)

  pub none-ids : (cab : ℕ) → Absent cab → ids_told cab back ≡ []
  none-ids cab none = ids-reverse cab lines ∙ ap reverse (no-ids cab lines (others-none s journals cab none))

  pub rises : (cab : ℕ) → Rising cab lines
  rises cab = elim (is-cabinet s cab) [
    | inl found ↦
        let e : Ended s journals cab found.0 = run-ended s journals cab found.0 are found.1 in
        runs-rise (history_of e.end.cabinet_history) has_line cab lines
        (lines-show cab lines (history_of e.end.cabinet_history) has_line
        (e.told ∙ cabinet_history-tells e.end.cabinet_history (opening_tables found.0) (drift_in found.0) e.opens))
    | inr none ↦ subst Falls (sym (none-back cab none)) tt
  ]

  -- the numbers that the lines tell are those of what a cabinet put in force
  back-ids : (cab : ℕ) (end : CabinetState) → HasComeTo cab end 1 ended → ids_told cab back ≡ map (λ d. d.0) (brought_to end.cabinet_history)
  back-ids cab end come =
      ids-reverse cab lines ∙ ap reverse (run-ids s journals cab end come ∙ ids-brought (answered (coming end.cabinet_history).calls))
      ∙ reverse-reverse (map (λ d. d.0) (brought_to end.cabinet_history))

  module _ (kept : AllKept s journals lines) where
    safe-tables : (cab : ℕ) → Safe (intersection_of cab (tables cab) lines)
    safe-tables cab = elim (is-cabinet s cab) [
      | inl found ↦
          let k : Kept s journals lines cab found.0 = kept cab found.0 found.1 in
          subst (λ (t : ℕ → Tables). Safe (intersection_of cab t lines)) (sym (among cab 1 k.end ended k.come)) k.safe
      | inr none ↦ dark-safe (tables cab) cab lines (none-told cab none)
    ]

    fine : (cab : ℕ) → AllFine (tables cab) (told cab back)
    fine cab = none-all tables back ((judged tables lines rises).1 safe-tables) cab

    made : (cab : ℕ) (c : CabinetContent) → IsCabinet s cab c → LoadsAreOwn s journals → Made (load_told s cab) (opening_at s cab) cab back (tables cab)
    made cab c is own =
        let k : Kept s journals lines cab c = kept cab c is in
        let ds : List (ℕ × List (Cell × Content)) = brought_to k.end.cabinet_history in
        let accepted : map (λ d. d.1) ds ≡ accepted_by (deeds_of (coming k.end.cabinet_history)) = cells-brought (answered (coming k.end.cabinet_history).calls) in
        let count : length ds ≡ length (accepted_by (deeds_of (coming k.end.cabinet_history))) = sym (length-map ds (λ d. d.1)) ∙ ap length accepted in
        record {
          ds = ds;
          own = own cab k.end k.come;
          ids = back-ids cab k.end k.come;
          made = λ version later sum.
              ap (λ (t : ℕ → Tables). t version) (among cab 1 k.end ended k.come)
              ∙ k.tables version later (sum ∙ count)
              ∙ ap (λ (t : Tables). with_downloads t (drop later (accepted_by (deeds_of (coming k.end.cabinet_history))))) (sym (opening-is s cab c is))
              ∙ ap (λ (x : List (List (Cell × Content))). with_downloads (opening_at s cab) (drop later x)) (sym accepted);
        }

    pub whole-lines : (cab : ℕ) → Whole cab lines
    whole-lines cab = elim (is-cabinet s cab) [
      | inl found ↦ (kept cab found.0 found.1).whole
      | inr none ↦ none-whole cab lines (others-none s journals cab none)
    ]

    -- the older lines of a cabinet whose tables are known are fine by the tables that they tell
    pub known-fine : LoadsAreOwn s journals → (cab : ℕ) (newer before : List Line) → newer ++ before ≡ back → is_known s cab before ≡ true
        → AllFine (tables_before s before cab) (told cab before)
    known-fine own cab newer before e known =
        let split : told cab back ≡ told cab newer ++ told cab before = ap (told cab) (sym e) ∙ told-append cab newer before in
        elim (is-cabinet s cab) [
          | inl found ↦
              told-fine (load_told s cab) (opening_at s cab) cab before (tables cab)
              (made-before (load_told s cab) (opening_at s cab) cab (tables cab) newer before
              (subst (λ (x : List Line). Made (load_told s cab) (opening_at s cab) cab x (tables cab)) (sym e) (made cab found.0 found.1 own)))
              (whole-back cab lines (whole-lines cab) before (reverse newer)
              (sym (reverse-append newer before) ∙ ap reverse e ∙ reverse-reverse lines))
              known
              (fewer Falls (λ x older h. h.1) (told cab newer) (told cab before) (subst Falls split (rises cab)))
              (fewer (AllFine (tables cab)) (λ x older h. h.0) (told cab newer) (told cab before) (subst (AllFine (tables cab)) split (fine cab)))
          | inr none ↦
              subst (AllFine (tables_before s before cab))
              (sym (fewer (λ x. x ≡ []) no-more (told cab newer) (told cab before) (sym split ∙ none-back cab none))) tt
        ]

    -- where each download is a load, all tables are known
    pub knows : AllAreLoads s journals → (cab : ℕ) → is_known s cab back ≡ true
    knows all cab = elim (is-cabinet s cab) [
      | inl found ↦
          let k : Kept s journals lines cab found.0 = kept cab found.0 found.1 in
          ap is_some
          (told-made (load_told s cab) (opening_at s cab) cab back
          ∙ ap (made_by (load_told s cab) (opening_at s cab)) (back-ids cab k.end k.come)
          ∙ all-made (load_told s cab) (opening_at s cab) cab (brought_to k.end.cabinet_history) (all cab k.end k.come))
      | inr none ↦
          ap is_some
          (told-made (load_told s cab) (opening_at s cab) cab back ∙ ap (made_by (load_told s cab) (opening_at s cab)) (none-ids cab none))
    ]

    pub shows-none : AllAreLoads s journals → breaches exact (tables_before s back) lines ≡ []
    shows-none all = all-none (tables_before s back) back (λ cab. known-fine (loads-own s journals all) cab [] back refl (knows all cab))
