-- What a round begins with: the master's notes, and streams that the cabinets can take.
use Rattle.std.proofs.Common.{◌≡◌, ◌<◌, ◌≤◌, ◌+◌, ◌*◌, inl, inr, ◌∙◌, ℕ, suc, List, [], ◌∷◌, ◌++◌, length, map, get_or, Some, refl, sym, ap, subst, arith}
use Rattle.std.proofs.lemmas.List.{map-append, length-map}
use Rattle.std.specs.List.{slice_get}
use Rattle.sig_types.specs.declared.frame.Field.{Field}
use Rattle.sig_types.specs.declared.frame.Field.TheVariants.{Veh, Ped as Button, Preempt as PreemptInput}
use Rattle.sig_types.specs.declared.notes.MasterNote.{MasterNote}
use Rattle.tick_context.specs.CanRun.{NamesPlace}
use Rattle.trace_text.specs.declared.lines.Line.{Line}
use Rattle.trace_text.specs.declared.lines.Line.TheVariants.{M}
use Rattle.scenario_data.specs.declared.scenario.Input.{Input}
use Rattle.scenario_data.specs.Content.{CabinetContent, ScenarioContent}
use Rattle.sig_types.specs.declared.streams.Streams.{Streams}
use Rattle.sig_types.specs.Items.{items_of}
use Rattle.sig_types.specs.Replies.{Reply}
use Rattle.master_rounds.specs.Rounds.{noted, streams_of}
use Rattle.runnable.specs.Runnable.{HasPlace, AllHeard, Runnable}
use Rattle.master_rounds.specs.Served.{CanBeServed}
use Rattle.master_rounds.specs.Bounds.{IsShort, IsInput, AreInputs}
use Rattle.master_rounds.specs.declared.master_rounds.Begun.{Begun}
use Rattle.master_rounds.specs.Begun.{noted_from, IsBegun}
use Rattle.cab_book.specs.declared.book.Book.{Book}
use Rattle.cab_book.specs.Books.{CanBeTaken, ticks_by_end}
use Rattle.run_definition.specs.CabinetState.{CabinetState, coming_streams}
use Rattle.run_definition.specs.Lines.{notes_lines}
use Rattle.round_run.specs.CabinetStates.{AreAt, TicksWithin}
use Rattle.round_run.specs.Opening.{CanOpen, AreComing, TicksAtMost}
use Rattle.round_run.specs.ClosedLoop.{AreAnswered, cabinets_of}
use Rattle.round_run.proofs.Places.{got}

-- a scenario that can be run can be served
pub can-be-served : (s : ScenarioContent) → Runnable s → CanBeServed s
can-be-served s r =
    let loads : length s.loads ≤ 1000000 = omega (arith, r.few_loads) in
    record {
      run = record { cabinets = r.few_cabinets; few = loads; loads = r.loads };
      few_ticks = r.few_ticks;
      few_inputs = r.few_inputs;
      few_requests = r.few_priority;
      few_frames = r.few_frames;
      few_faults = r.few_faults;
    }

-- an input of the scenario has its place
has-place : (field : Field) → HasPlace field → NamesPlace field
has-place (Veh p on) place = place
has-place (Button p) place = place
has-place (PreemptInput i on) place = place

input-place : (field : Field) (inputs : List Input) → AllHeard inputs → IsInput field inputs → NamesPlace field
input-place field [] heard is = absurd is
input-place field (i ∷ inputs) heard (inl same) = has-place field (subst (λ (f : Field). HasPlace f) (sym same) heard.0)
input-place field (i ∷ inputs) heard (inr other) = input-place field inputs heard.1 other

-- a round that is short, and whose inputs are those of the scenario, can be accepted
can-be-taken : (s : ScenarioContent) (one : Streams) → Runnable s → IsShort one → AreInputs one.fields.items s.inputs → CanBeTaken one
can-be-taken s one runnable short heard = record {
  placed = λ k field below. input-place (get_or one.fields.items k field) s.inputs runnable.heard (heard k field below);
  few_fields = omega (arith, short.few_fields);
  few_polls = omega (arith, short.few_polls);
  few_loads = omega (arith, short.few_loads);
  few_prios = omega (arith, short.few_prios);
}

-- there are as many as cabinets
pub many-of : (s : ScenarioContent) (ts : List CabinetState) → cabinets_of ts ≡ s.cabinets → length ts ≡ length s.cabinets
many-of s ts own = sym (length-map ts (λ (t : CabinetState). t.cabinet)) ∙ ap (λ (cs : List CabinetContent). length cs) own

-- the streams with which a round begins are those that arrive at the cabinets
module _ (s : ScenarioContent) (ts : List CabinetState) (own : cabinets_of ts ≡ s.cabinets) (b : Begun) (answered : ℕ → List (List Reply))
    (told : AreAnswered answered ts) (is : IsBegun b s answered) where
  begun-here : (k : ℕ) (t : CabinetState) (one : Streams) → k < length ts → items_of (get_or b.streams.items k one) ≡ coming_streams s (k + 1) (get_or ts k t)
  begun-here k t one below =
      let here : slice_get s.cabinets k ≡ Some (get_or ts k t).cabinet =
      subst (λ (cs : List CabinetContent). slice_get cs k ≡ Some (get_or ts k t).cabinet) own
      (got (λ (u : CabinetState). u.cabinet) ts k t below) in
      is.streams k (get_or ts k t).cabinet one here
      ∙ ap (λ (a : List (List Reply)). streams_of s (k + 1) (get_or ts k t).cabinet a) (told k t below)

  pub streams-come : AreComing s ts b.streams.items
  streams-come = record { many = is.count ∙ sym (many-of s ts own); each = begun-here }

  pub streams-open : (done : ℕ) (books : List Book) → Runnable s → AreAt books ts → TicksWithin (done * 600) books → done < s.rounds
      → CanOpen books b.streams.items
  streams-open done books runnable at within few = record {
    many = is.count ∙ sym (at.many ∙ many-of s ts own);
    taken = λ k one below.
        let place : k < length s.cabinets = omega (arith, below, at.many, many-of s ts own) in
        can-be-taken s (get_or b.streams.items k one) runnable (is.short k one place) (is.heard k one place);
    few = λ k book one below.
        let most : ticks_by_end (get_or books k book) ≤ done * 600 = within k book below in
        let short : IsShort (get_or b.streams.items k one) = is.short k one (omega (arith, below, at.many, many-of s ts own)) in
        omega (arith, most, short.few_ticks, few, runnable.few_rounds);
  }

  pub ticks-most : TicksAtMost 600 b.streams.items
  ticks-most = λ k one below. (is.short k one (omega (arith, below, is.count))).few_ticks

  -- few enough for workers to share
  pub ticks-small : TicksAtMost 2147483648 b.streams.items
  ticks-small = λ k one below. let few : (get_or b.streams.items k one).ticks ≤ 600 = ticks-most k one below in omega (arith, few)

-- the notes are those of the run
notes-from : (s : ScenarioContent) (answered : ℕ → List (List Reply)) (first : ℕ) (ts : List CabinetState)
    → ((k : ℕ) (t : CabinetState) → k < length ts → answered (k + first) ≡ (get_or ts k t).answered)
    → map M (noted_from s answered first (cabinets_of ts)) ≡ notes_lines s first ts
notes-from s answered first [] told = refl
notes-from s answered first (t ∷ ts) told =
    let here : first ≡ 0 + first = omega arith in
    let own : answered first ≡ t.answered = ap answered here ∙ told 0 t (omega arith) in
    let others : (k : ℕ) (u : CabinetState) → k < length ts → answered (k + (first + 1)) ≡ (get_or ts k u).answered =
    λ k u below.
    let place : k + (first + 1) ≡ suc k + first = omega arith in
    ap answered place ∙ told (suc k) u (omega (arith, below)) in
    map-append M (noted s first t.cabinet (answered first)) (noted_from s answered (first + 1) (cabinets_of ts))
    ∙ ap (λ (a : List (List Reply)). map M (noted s first t.cabinet a) ++ map M (noted_from s answered (first + 1) (cabinets_of ts))) own
    ∙ ap (λ (lines : List Line). map M (noted s first t.cabinet t.answered) ++ lines) (notes-from s answered (first + 1) ts others)

pub notes-told : (s : ScenarioContent) (ts : List CabinetState) → cabinets_of ts ≡ s.cabinets → (b : Begun) (answered : ℕ → List (List Reply)) → AreAnswered answered ts
    → IsBegun b s answered → map M b.notes.items ≡ notes_lines s 1 ts
notes-told s ts own b answered told is =
    ap (λ (notes : List MasterNote). map M notes) is.notes
    ∙ ap (λ (cs : List CabinetContent). map M (noted_from s answered 1 cs)) (sym own)
    ∙ notes-from s answered 1 ts told
