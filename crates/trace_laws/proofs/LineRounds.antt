-- Round by round each line of a run is a line of a trace: by what each cabinet has reached.
use Rattle.std.proofs.Common.{◌≡◌, ◌<◌, ◌≤◌, ◌+◌, ◌*◌, ◌^◌, ◌∷◌, [], inr, mul-le-mul, ℕ, zero, suc, List, length, map, get_or, refl, ap, arith}
use Rattle.std.specs.List.{AllByRecursion}
use Rattle.sig_types.specs.declared.notes.MasterNote.{MasterNote}
use Rattle.trace_text.specs.declared.lines.Line.{Line}
use Rattle.trace_text.specs.declared.lines.Line.TheVariants.{M, Z}
use Rattle.trace_text.specs.IsLine.{FitsNote}
use Rattle.safety_laws.specs.TraceText.{AreLines}
use Rattle.scenario_data.specs.Content.{CabinetContent, ScenarioContent}
use Rattle.scenario_data.specs.Inputs.{inputs_of}
use Rattle.scenario_data.specs.Opening.{opening_tables}
use Rattle.sig_types.specs.Items.{Item, Ticked}
use Rattle.sig_types.specs.Replies.{Reply}
use Rattle.cabinet_history.specs.CabinetHistory.{CabinetHistory, with_item, after}
use Rattle.cabinet_history.specs.Journals.{Act, times, IsMerge, acts_from, items_in}
use Rattle.master_rounds.specs.Rounds.{arrivals, delivered, noted}
use Rattle.master_rounds.specs.Served.{CanBeServed}
use Rattle.master_rounds.specs.Bounds.{RoundIsShort}
use Rattle.std.proofs.Math.Nat.{le_refl}
use Rattle.std.proofs.lemmas.List.{length-replicate}
use Rattle.sig_tables.specs.Past.{first_frame}
use Rattle.runnable.specs.Octets.{PutOctets}
use Rattle.runnable.specs.Runnable.{CanOpen, AllOpen, Runnable}
use Rattle.run_definition.specs.CabinetState.{CabinetState, opened_cabinet_state, opened_cabinet_states, coming_streams, round_acts, next_cabinet_state, each_cabinet_state}
use Rattle.run_definition.specs.Lines.{cabinet_lines, each_lines, notes_lines, head_lines, round_lines, rounds_lines, opening_lines, front_lines, run_lines}
use Rattle.run_definition.specs.Orders.{EachMerges, AreMerges, AreJournals}
use Rattle.run_definition.proofs.Streets.{after-opening, drift_in, opening-fits}
use Rattle.trace_laws.specs.Items.{IsOctetItem, AreOctetItems}
use Rattle.trace_laws.specs.Rounds.{RepliesAre}
use Rattle.trace_laws.proofs.Tables.{opening-holds}
use Rattle.trace_laws.proofs.OctetRounds.{streams-octets, arrivals-octets}
use Rattle.trace_laws.proofs.Notes.{notes-fit}
use Rattle.trace_laws.proofs.LineJournals.{CanBeTold, AllEarly, all-early, journal-line}
use Rattle.trace_laws.proofs.Ticks.{ticks_in, ticks-after, only-last, journal-ticks}
use Rattle.trace_laws.proofs.LineCabinetHistories.{CabinetHistoryLaws, IsTold, ActFits, all-lines, frame-line, acts-are-lines, acts-answers}

-- the laws on which the lines rest
pub record LineLaws : Type 0 where
  pub cabinet_histories : CabinetHistoryLaws
  pub short : (s : ScenarioContent) (cab : ℕ) (c : CabinetContent) (answered : List (List Reply)) → RoundIsShort s cab c answered

-- what a cabinet with this number has reached after that many rounds
record IsCabinetState (s : ScenarioContent) (cab done : ℕ) (t : CabinetState) : Type 0 where
  told : IsTold (opening_tables t.cabinet) (drift_in t.cabinet) t.cabinet_history
  answered : RepliesAre t.answered
  ticks : ticks_in t.cabinet_history.items ≤ done * s.ticks

-- all cabinets, counted from a first number
abbrev AllStand : ScenarioContent → ℕ → ℕ → List CabinetState → Type 0
AllStand s first done [] = Unit {0}
AllStand s first done (t ∷ ts) = IsCabinetState s first done t × AllStand s (first + 1) done ts

served : (s : ScenarioContent) → Runnable s → CanBeServed s
served s run = record {
  run = record { cabinets = run.few_cabinets; few = (let few : length s.loads ≤ 6400 = run.few_loads in omega (arith, few)); loads = run.loads };
  few_ticks = run.few_ticks;
  few_inputs = run.few_inputs;
  few_requests = run.few_priority;
  few_frames = run.few_frames;
  few_faults = run.few_faults;
}

-- ---- acts

-- an item at a place of octets is octets
at-place : (items : List Item) (k : ℕ) → AreOctetItems items → IsOctetItem (get_or items k Ticked)
at-place [] k all = tt
at-place (item ∷ items) zero all = all.0
at-place (item ∷ items) (suc k) all = at-place items k all.1

at-pass : (streams : List (List Item)) (p : ℕ) → AllByRecursion AreOctetItems streams → AreOctetItems (get_or streams p [])
at-pass [] p all = tt
at-pass (items ∷ streams) zero all = all.0
at-pass (items ∷ streams) (suc p) all = at-pass streams p all.1

acts-fit : (streams : List (List Item)) (before journal : List ℕ) → AllByRecursion AreOctetItems streams → AllEarly journal
    → AllByRecursion ActFits (acts_from streams before journal)
acts-fit streams before [] all early = tt
acts-fit streams before (p ∷ journal) all early = (
  record { pass = early.0; item = at-place (get_or streams p []) (times p before) (at-pass streams p all) },
  acts-fit streams (p ∷ before) journal all early.1,
)

acts-items : (acts : List Act) → AllByRecursion ActFits acts → AreOctetItems (items_in acts)
acts-items [] all = tt
acts-items (act ∷ acts) all = (all.0.item, acts-items acts all.1)

after-items : (cabinet_history : CabinetHistory) (items : List Item) → AreOctetItems cabinet_history.items → AreOctetItems items → AreOctetItems (after cabinet_history items).items
after-items cabinet_history [] own more = own
after-items cabinet_history (item ∷ items) own more = after-items (with_item cabinet_history item) items (more.0, own) more.1

-- ---- a cabinet's round

can-tell : (laws : LineLaws) (s : ScenarioContent) (cab : ℕ) (t : CabinetState) → Runnable s → CanBeTold (coming_streams s cab t)
can-tell laws s cab t run =
    let short = laws.short s cab t.cabinet t.answered (served s run) in
    record {
      five = refl;
      few = short.few;
      some_ticks = (let e = length-replicate s.ticks Ticked in let some : 1 ≤ s.ticks = run.some_ticks in omega (arith, e, some));
      few_ticks = short.few_ticks;
    }

round-acts-fit : (s : ScenarioContent) (cab : ℕ) (t : CabinetState) (journal : List ℕ) → Runnable s → IsMerge (coming_streams s cab t) journal
    → AllByRecursion ActFits (round_acts s cab t journal)
round-acts-fit s cab t journal run is =
    acts-fit (coming_streams s cab t) [] journal (streams-octets s cab t.cabinet t.answered run.octets run.loads)
    (all-early (coming_streams s cab t) journal refl (λ p. let e = is p in omega (arith, e)))

round-ticks : (s : ScenarioContent) (cab : ℕ) (t : CabinetState) (journal : List ℕ) → IsMerge (coming_streams s cab t) journal
    → ticks_in (items_in (round_acts s cab t journal)) ≤ s.ticks
round-ticks s cab t journal is =
    let only = only-last (inputs_of (length t.answered + 1) cab s.inputs) (delivered s cab t.cabinet t.answered 1)
    (delivered s cab t.cabinet t.answered 2) (delivered s cab t.cabinet t.answered 3) s.ticks in
    let few = journal-ticks (coming_streams s cab t) journal only is in
    let e = length-replicate s.ticks Ticked in
    omega (arith, few, e)

next-is : (s : ScenarioContent) (cab done : ℕ) (t : CabinetState) (journal : List ℕ) → Runnable s → IsMerge (coming_streams s cab t) journal
    → IsCabinetState s cab done t → IsCabinetState s cab (done + 1) (next_cabinet_state s cab t journal)
next-is s cab done t journal run is own =
    let acts : List Act = round_acts s cab t journal in
    let fit = round-acts-fit s cab t journal run is in
    let e = ticks-after t.cabinet_history (items_in acts) in
    let few = round-ticks s cab t journal is in
    let product : (done + 1) * s.ticks ≡ done * s.ticks + s.ticks = grind arith in
    record {
      told = record {
        opens = rw (after-opening t.cabinet_history (items_in acts)) own.told.opens;
        consistent = own.told.consistent;
        fits = own.told.fits;
        holds = own.told.holds;
        items = after-items t.cabinet_history (items_in acts) own.told.items (acts-items acts fit);
      };
      answered = (acts-answers (opening_tables t.cabinet) (drift_in t.cabinet) t.cabinet_history acts own.told fit, own.answered);
      ticks = omega (arith, e, few, product, own.ticks);
    }

cabinet-are : (laws : LineLaws) (s : ScenarioContent) (cab done : ℕ) (t : CabinetState) (journal : List ℕ) → Runnable s → cab < 2 ^ 32
    → (done + 1) * s.ticks ≤ 55296000 → IsMerge (coming_streams s cab t) journal → IsCabinetState s cab done t → AreLines (cabinet_lines s cab t journal)
cabinet-are laws s cab done t journal run small few is own =
    let acts : List Act = round_acts s cab t journal in
    let ticks = round-ticks s cab t journal is in
    let product : (done + 1) * s.ticks ≡ done * s.ticks + s.ticks = grind arith in (
      journal-line cab (coming_streams s cab t) journal small (can-tell laws s cab t run) is,
      acts-are-lines laws.cabinet_histories cab (opening_tables t.cabinet) (drift_in t.cabinet) t.cabinet_history acts small own.told
          (round-acts-fit s cab t journal run is) (omega (arith, ticks, product, few, own.ticks)),
    )

-- ---- the cabinets of a round

each-next : (s : ScenarioContent) (first done : ℕ) (ts : List CabinetState) (js : List (List ℕ)) → Runnable s → EachMerges s first ts js → AllStand s first done ts
    → AllStand s first (done + 1) (each_cabinet_state s first ts js)
each-next s first done [] js run are all = tt
each-next s first done (t ∷ ts) [] run are all = absurd are
each-next s first done (t ∷ ts) (j ∷ js) run are all =
    (next-is s first done t j run are.0 all.0, each-next s (first + 1) done ts js run are.1 all.1)

each-length : (s : ScenarioContent) (first : ℕ) (ts : List CabinetState) (js : List (List ℕ)) → EachMerges s first ts js
    → length (each_cabinet_state s first ts js) ≡ length ts
each-length s first [] [] are = refl
each-length s first [] (j ∷ js) are = absurd are
each-length s first (t ∷ ts) [] are = absurd are
each-length s first (t ∷ ts) (j ∷ js) are = ap suc (each-length s (first + 1) ts js are.1)

each-are : (laws : LineLaws) (s : ScenarioContent) (first done : ℕ) (ts : List CabinetState) (js : List (List ℕ)) → Runnable s → first + length ts ≤ 65
    → (done + 1) * s.ticks ≤ 55296000 → EachMerges s first ts js → AllStand s first done ts → AreLines (each_lines s first ts js)
each-are laws s first done [] js run few low are all = tt
each-are laws s first done (t ∷ ts) [] run few low are all = absurd are
each-are laws s first done (t ∷ ts) (j ∷ js) run few low are all =
    all-lines (cabinet_lines s first t j) (each_lines s (first + 1) ts js)
    (cabinet-are laws s first done t j run (omega (arith, few)) low are.0 all.0)
    (each-are laws s (first + 1) done ts js run (omega (arith, few)) low are.1 all.1)

-- ---- notes

note-lines : (notes : List MasterNote) → AllByRecursion FitsNote notes → AreLines (map M notes)
note-lines [] all = tt
note-lines (note ∷ notes) all = ((tt, all.0), note-lines notes all.1)

notes-are : (s : ScenarioContent) (first done : ℕ) (ts : List CabinetState) → Runnable s → first + length ts ≤ 65 → AllStand s first done ts
    → AreLines (notes_lines s first ts)
notes-are s first done [] run few all = tt
notes-are s first done (t ∷ ts) run few all =
    all-lines (map M (noted s first t.cabinet t.answered)) (notes_lines s (first + 1) ts)
    (note-lines (noted s first t.cabinet t.answered)
    (notes-fit s first t.cabinet (arrivals s first t.answered) (omega (arith, few)) run.patterns run.few_loads
    (arrivals-octets s first t.answered run.octets all.0.answered)))
    (notes-are s (first + 1) done ts run (omega (arith, few)) all.1)

-- ---- rounds

rounds-are : (laws : LineLaws) (s : ScenarioContent) (done : ℕ) (ts : List CabinetState) (journals : List (List (List ℕ))) → Runnable s → 1 + length ts ≤ 65
    → done + length journals ≡ s.rounds → s.rounds * s.ticks ≤ 55296000 → AreMerges s ts journals → AllStand s 1 done ts
    → AreLines (rounds_lines s (done + 1) ts journals)
rounds-are laws s done ts [] run few many low are all = tt
rounds-are laws s done ts (js ∷ later) run few many low are all =
    let within : done + 1 ≤ s.rounds = omega (arith, many) in
    let rounds : s.rounds ≤ 86400 = run.few_rounds in
    let product : (done + 1) * s.ticks ≤ s.rounds * s.ticks = mul-le-mul within (le_refl s.ticks) in
    let next : List CabinetState = each_cabinet_state s 1 ts js in
    let same : length next ≡ length ts = each-length s 1 ts js are.0 in
    all-lines (round_lines s (done + 1) ts js) (rounds_lines s (done + 1 + 1) next later)
    (all-lines (head_lines s (done + 1) ts) (each_lines s 1 ts js)
    ((tt, omega (arith, within, rounds)), notes-are s 1 done ts run few all)
    (each-are laws s 1 done ts js run few (omega (arith, product, low)) are.0 all))
    (rounds-are laws s (done + 1) next later run (omega (arith, few, same)) (omega (arith, many)) low are.1 (each-next s 1 done ts js run are.0 all))

-- ---- the opening

opened-is : (s : ScenarioContent) (cab : ℕ) (c : CabinetContent) → CanOpen c → PutOctets c.cells → IsCabinetState s cab 0 (opened_cabinet_state s c)
opened-is s cab c can puts = record {
  told = record {
    opens = (c.pattern, c.clock, inr refl);
    consistent = can.consistent;
    fits = opening-fits c;
    holds = opening-holds c puts;
    items = tt;
  };
  answered = tt;
  ticks = omega arith;
}

all-opened : (s : ScenarioContent) (first : ℕ) (cabinets : List CabinetContent) → AllOpen cabinets → AllByRecursion (λ c. PutOctets c.cells) cabinets
    → AllStand s first 0 (opened_cabinet_states s cabinets)
all-opened s first [] all puts = tt
all-opened s first (c ∷ cabinets) all puts = (opened-is s first c all.0 puts.0, all-opened s (first + 1) cabinets all.1 puts.1)

opening-are : (s : ScenarioContent) (first : ℕ) (cabinets : List CabinetContent) → first + length cabinets ≤ 65
    → AreLines (opening_lines first (opened_cabinet_states s cabinets))
opening-are s first [] few = tt
opening-are s first (c ∷ cabinets) few = (
  frame-line first 0 first_frame (omega (arith, few)) (omega arith)
      (record { veh = refl; ped = refl; mode = tt; counter = omega arith; target = omega arith }) (omega arith),
  opening-are s (first + 1) cabinets (omega (arith, few)),
)

opened-length : (s : ScenarioContent) (cabinets : List CabinetContent) → length (opened_cabinet_states s cabinets) ≡ length cabinets
opened-length s [] = refl
opened-length s (c ∷ cabinets) = ap suc (opened-length s cabinets)

pub run-are : (laws : LineLaws) (s : ScenarioContent) (journals : List (List (List ℕ))) → Runnable s → AreJournals s journals → AreLines (run_lines s journals)
run-are laws s journals run are =
    let ts : List CabinetState = opened_cabinet_states s s.cabinets in
    let start : List Line = opening_lines 1 ts in
    let rounds : List Line = rounds_lines s 1 ts journals in
    let few : length s.cabinets ≤ 64 = run.few_cabinets in
    let many : s.rounds ≤ 86400 = run.few_rounds in
    let same = opened-length s s.cabinets in
    let all = are.all in
    let more : 1 * (s.rounds * s.ticks) ≤ length s.cabinets * (s.rounds * s.ticks) = mul-le-mul run.some_cabinets (le_refl (s.rounds * s.ticks)) in
    let spelled : length s.cabinets * s.rounds * s.ticks ≡ length s.cabinets * (s.rounds * s.ticks) = grind arith in
    let short : length s.cabinets * s.rounds * s.ticks ≤ 55296000 = run.short in
    let low : s.rounds * s.ticks ≤ 55296000 = omega (arith, more, spelled, short) in (
      (run.one_line, tt),
      all-lines (front_lines s journals) (Z s.rounds ∷ [])
          (all-lines start rounds (opening-are s 1 s.cabinets (omega (arith, few)))
          (rounds-are laws s 0 ts journals run (omega (arith, few, same)) (omega (arith, all)) low are.merges
          (all-opened s 1 s.cabinets run.can_open run.octets.cabinets)))
          ((tt, omega (arith, many)), tt),
    )
