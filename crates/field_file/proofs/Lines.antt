-- A result that is written in parts is read as itself: its numbers are those of a value that was read, or few.
use Rattle.std.proofs.Common.{◌≡◌, ◌≤◌, ◌<◌, ◌^◌, ℕ, false, List, [], ◌∷◌, ◌++◌, map, codes, Option, Some, None, unwrap_or, option_map, Result, Vec, Global, refl, sym, ap, ◌∙◌, subst, arith}
use Rattle.json.specs.Lex.{tokens}
use Rattle.json.specs.Print.{print}
use Rattle.serde_json.specs.Data.{unsigned, Data, null, boolean, number, string, array, object, Items, no_items, item, Members, no_members, member, put, depth}
use Rattle.serde_json.specs.Find.{get}
use Rattle.serde_json.specs.Read.{max_depth}
use Rattle.serde_json.specs.View.{items_of}
use Rattle.serde_json.specs.Written.{has_float, compact_text}
use Rattle.serde_json.proofs.Nesting.{depth-read}
use Rattle.scenario_data.specs.declared.refusal.ReadFail.{ReadFail}
use Rattle.scenario_data.specs.declared.scenario.Entry.{Entry}
use Rattle.scenario_read.specs.Answers.{Reads}
use Rattle.scenario_read.specs.Content.{round_count, cabinet_count}
use Rattle.scenario_read.specs.Fields.{Field, held, either}
use Rattle.scenario_read.specs.Kinds.{items_in}
use Rattle.scenario_read.specs.Paths.{Named}
use Rattle.scenario_read.specs.Readers.{Answers}
use Rattle.scenario_read.specs.Sorted.{Sorted}
use Rattle.scenario_read.specs.Table.{inputs, master}
use Rattle.scenario_read.proofs.Rising.{read-sorted}
use Rattle.scenario_cut.specs.Growing.{both}
use Rattle.scenario_file.specs.Source.{with_member, master_and, inputs_and}
use Rattle.scenario_file.proofs.Numerals.{IsNumeral, small-numeral}
use Rattle.scenario_file.proofs.Back.{HasNumerals, ItemsHaveNumerals, MembersHaveNumerals, numerals-put, numerals-there, tree-of, tree-numerals, text-tokens, reads-back}
use Rattle.scenario_checked.specs.Inside.{scenario}
use Rattle.detector_bank.specs.declared.bank.Call.{Call}
use Rattle.field_read.specs.Content.{FieldContent, field_of, cabinets_run, rounds_run}
use Rattle.field_read.proofs.Placed.{few-run}
use Rattle.field_file.specs.Written.{call_value, entry_value, with_inputs, with_schedule, with_traffic, calls_of, schedule_of, result_of}
use Rattle.field_file.specs.declared.traffic.Traffic.{Traffic}
use Rattle.field_file.specs.FieldAnswer.{entry_count, inputs_faults, entries_faults, bytes_faults, result_faults, WasRead, IsTraffic, TellsOf}
use Rattle.field_file.specs.Texts.{IsTextOf, IsLineOf}
use Rattle.field_file.proofs.Called.{calls-in}
use Rattle.field_file.proofs.Every.{Every}
use Rattle.field_file.proofs.Faultless.{AreListed}
use Rattle.field_file.proofs.Listed.{IsCalled, IsListed}
use Rattle.field_file.proofs.Newline.{reads-behind}
use Rattle.field_file.proofs.Ranges.{scenario-faultless, rounds-few, bank-in}
use Rattle.field_file.proofs.Shape.{traffic-sorted}
use Rattle.field_file.proofs.Whole.{few-at, held-sorted, listed-in, result-floatless}
use Rattle.field_file.proofs.Sizes.{names-clean, Fits, fits-clean, traffic-fits, text-told}

small : (n most : ℕ) → n ≤ most → most < 4294967296 → IsNumeral (unsigned n)
small n most low few = small-numeral n (omega (arith, low, few))

calls-numerals : (rounds cabinets : ℕ) (calls : List Call) → rounds ≤ 86400 → cabinets ≤ 64 → Every (IsCalled rounds cabinets) calls → ItemsHaveNumerals (items_of (map call_value calls))
calls-numerals rounds cabinets [] few_rounds few_cabinets each = tt
calls-numerals rounds cabinets (call ∷ calls) few_rounds few_cabinets each =
    let early : call.round ≤ rounds = each.0.early in
    let few : call.cabinet ≤ cabinets = each.0.few in (
      (
        small call.cabinet 64 (omega (arith, few, few_cabinets)) (omega arith),
        (tt, (small call.round 86400 (omega (arith, early, few_rounds)) (omega arith), (small call.phase 16 each.0.most (omega arith), tt))),
      ),
      calls-numerals rounds cabinets calls few_rounds few_cabinets each.1,
    )

entries-numerals : (entries : List Entry) → Every IsListed entries → ItemsHaveNumerals (items_of (map entry_value entries))
entries-numerals [] each = tt
entries-numerals (entry ∷ entries) each = (
  (small entry.pattern 255 each.0.pattern (omega arith), (small entry.second 86399 each.0.second (omega arith), (small entry.section 8 each.0.few (omega arith), tt))),
  entries-numerals entries each.1,
)

with-numerals : (name : List ℕ) (v d : Data) → HasNumerals v → HasNumerals d → HasNumerals (with_member name v d)
with-numerals name v null h k = k
with-numerals name v (boolean b) h k = k
with-numerals name v (number n) h k = k
with-numerals name v (string s) h k = k
with-numerals name v (array ds) h k = k
with-numerals name v (object ms) h k = numerals-put name v ms h k

held-numerals : (f : Field) (v d : Data) → f.default ≡ Some v → HasNumerals v → HasNumerals d → HasNumerals (held f d)
held-numerals f v d e h k = from (get f.name d) refl
  where
    from : (o : Option Data) → get f.name d ≡ o → HasNumerals (unwrap_or (either o f.default) null)
    from None is = subst (λ (o : Option Data). HasNumerals (unwrap_or o null)) (sym e) h
    from (Some x) is = numerals-there f.name d x is k

items-numerals : (d : Data) → HasNumerals d → ItemsHaveNumerals (items_in d)
items-numerals null h = tt
items-numerals (boolean b) h = tt
items-numerals (number n) h = tt
items-numerals (string s) h = tt
items-numerals (array ds) h = h
items-numerals (object ms) h = tt

both-numerals : (ds es : Items) → ItemsHaveNumerals ds → ItemsHaveNumerals es → ItemsHaveNumerals (both ds es)
both-numerals no_items es h k = k
both-numerals (item d ds) es h k = (h.0, both-numerals ds es h.1 k)

schedule-numerals : (o : Option (List Entry)) (s : Data) → AreListed o → HasNumerals s → HasNumerals (with_schedule o s)
schedule-numerals None s listed h = h
schedule-numerals (Some entries) s listed h =
    let es = array (items_of (map entry_value entries)) in
    with-numerals (codes "master") (master_and es s) s
    (with-numerals (codes "schedule") es (held master s) (entries-numerals entries listed.1) (held-numerals master (object no_members) s refl tt h)) h

inputs-numerals : (calls : List Call) (s : Data) → ItemsHaveNumerals (items_of (map call_value calls)) → HasNumerals s → HasNumerals (with_inputs calls s)
inputs-numerals calls s each h =
    let f : Field = inputs (round_count s) (cabinet_count s) in
    let own : HasNumerals (held f s) = held-numerals f (array no_items) s refl tt h in
    with-numerals (codes "inputs") (inputs_and (items_of (map call_value calls)) s) s
    (both-numerals (items_in (held f s)) (items_of (map call_value calls)) (items-numerals (held f s) own) each) h

scenario-numerals : (d : Data) → HasNumerals d → HasNumerals (held scenario d)
scenario-numerals d h = from (get (codes "scenario") d) refl
  where
    from : (o : Option Data) → get (codes "scenario") d ≡ o → HasNumerals (unwrap_or (either o None) null)
    from None is = tt
    from (Some x) is = numerals-there (codes "scenario") d x is h

result-numerals : (d : Data) → HasNumerals d → Fits d → HasNumerals (result_of d)
result-numerals d h fits =
    let f = field_of d in
    let s : Data = held scenario d in
    let named = names-clean d fits.clean in
    let few : cabinets_run d ≤ 64 = few-run d named in
    let called : Every (IsCalled (rounds_run d) (cabinets_run d)) (calls_of f) = calls-in (rounds_run d) (cabinets_run d) f.bank f.pulses (rounds_run d) (bank-in d named) (omega arith) in
    let listed = listed-in d named (few-at (Named (codes "respond") ∷ []) 1000 (entry_count (schedule_of f)) fits.entries) in
    inputs-numerals (calls_of f) (with_schedule (schedule_of f) s) (calls-numerals (rounds_run d) (cabinets_run d) (calls_of f) (rounds-few s (scenario-faultless d named)) few called)
    (schedule-numerals (schedule_of f) s listed (scenario-numerals d h))

-- the line of a result
pub line-text : (bytes : List ℕ) (d : Data) (line : List ℕ) → Reads bytes d → Fits d → IsLineOf line (result_of d) → IsTextOf line (result_of d)
line-text bytes d line reads fits is =
    let r = result_of d in
    let tree = tree-of bytes d reads.1 in
    let numerals = result-numerals d (tree-numerals tree.0 d tree.1) fits in
    let was-sorted = read-sorted bytes d reads.1 in
    let sorted : Sorted r = traffic-sorted (calls_of (field_of d)) (schedule_of (field_of d)) (held scenario d) (held-sorted d was-sorted) in
    let plain : has_float r ≡ false = result-floatless d was-sorted (fits-clean d fits) in record {
      whole = λ none. is.whole;
      reads = λ nests.
          let printed : compact_text r ≡ print (tokens (compact_text r)) = text-tokens r numerals sorted plain in
          subst (λ (text : List ℕ). Reads text r) (sym is.whole) (reads-behind (compact_text r) r printed is.utf8 (reads-back r numerals sorted nests plain));
    }

-- the answer to it
pub parts-told : (bytes : List ℕ) (d : Data) (f : FieldContent) (traffic : Traffic) (line : List ℕ) (answer : Result (Vec ℕ Global) ReadFail) → Reads bytes d → WasRead f d → inputs_faults f ++ entries_faults f ≡ [] → IsTraffic traffic f
    → IsLineOf line (with_traffic traffic.calls.items (option_map (λ v. v.items) traffic.schedule) (held scenario d))
    → Answers answer (bytes_faults line) (λ (told : Vec ℕ Global). told.items ≡ line) → Answers answer (result_faults d) (λ (told : Vec ℕ Global). TellsOf d told.items)
parts-told bytes d f traffic line answer reads read none is written told =
    let fits = traffic-fits f d read none in
    let s : Data = held scenario d in
    let own : IsLineOf line (result_of d) =
    subst (λ (g : FieldContent). IsLineOf line (with_traffic (calls_of g) (schedule_of g) s)) read.said
    (subst (λ (o : Option (List Entry)). IsLineOf line (with_traffic (calls_of f) o s)) is.schedule
    (subst (λ (cs : List Call). IsLineOf line (with_traffic cs (option_map (λ v. v.items) traffic.schedule) s)) is.calls written)) in
    text-told d line answer (depth-read bytes d reads.1) fits (line-text bytes d line reads fits own) own.whole told
