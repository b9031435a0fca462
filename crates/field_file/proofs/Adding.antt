-- Calls that are added one by one.
use Rattle.std.proofs.Common.{◌≡◌, ◌≤◌, ◌<◌, ◌+◌, ℕ, false, List, [], ◌∷◌, ◌++◌, length, map, take, get_or, Some, refl, sym, ap, ◌∙◌, subst}
use Rattle.std.proofs.lemmas.List.{take_more, take_all, map-append}
use Rattle.serde_json.specs.Data.{Data, Items, item, no_items}
use Rattle.serde_json.specs.View.{items_of}
use Rattle.serde_json.specs.Written.{has_float, items_have_float}
use Rattle.scenario_data.specs.declared.scenario.Entry.{Entry}
use Rattle.scenario_cut.specs.Growing.{both}
use Rattle.scenario_file.specs.declared.source.ScenarioText.{ScenarioText}
use Rattle.scenario_file.specs.Source.{with_inputs as more_inputs, with_schedule as another_schedule, Writes}
use Rattle.scenario_file.proofs.Parts.{inputs-twice}
use Rattle.detector_bank.specs.declared.bank.Call.{Call}
use Rattle.field_file.specs.Written.{call_value, entry_value, with_inputs, with_schedule}
use Rattle.field_file.proofs.Putting.{items-append}

calls-next : (calls : List Call) (i : ℕ) (call : Call) → i < length calls → call ≡ get_or calls i call
    → both (items_of (map call_value (take i calls))) (item (call_value call) no_items) ≡ items_of (map call_value (take (i + 1) calls))
calls-next calls i call within is =
    sym (
    ap (λ (cs : List Call). items_of (map call_value cs)) (take_more calls i call within ∙ ap (λ (c : Call). take i calls ++ c ∷ []) (sym is))
    ∙ ap items_of (map-append call_value (take i calls) (call ∷ [])) ∙ items-append (map call_value (take i calls)) (call_value call ∷ [])
    )

-- one call more
pub call-added : (old now : ScenarioText) (calls : List Call) (i : ℕ) (call : Call) (v s : Data) → i < length calls → call ≡ get_or calls i call → v ≡ call_value call
    → ((d : Data) → has_float v ≡ false → Writes old d → Writes now (more_inputs (item v no_items) d))
    → Writes old (with_inputs (take i calls) s) → Writes now (with_inputs (take (i + 1) calls) s)
call-added old now calls i call v s within is value added before =
    let first = items_of (map call_value (take i calls)) in
    let plain : has_float v ≡ false = ap has_float value in
    let all : both first (item v no_items) ≡ items_of (map call_value (take (i + 1) calls)) =
    ap (λ (x : Data). both first (item x no_items)) value ∙ calls-next calls i call within is in
    subst (Writes now) (inputs-twice first (item v no_items) s ∙ ap (λ (es : Items). more_inputs es s) all) (added (with_inputs (take i calls) s) plain before)

-- after the last
pub calls-added : (now : ScenarioText) (calls : List Call) (i : ℕ) (s : Data) → length calls ≤ i → Writes now (with_inputs (take i calls) s) → Writes now (with_inputs calls s)
calls-added now calls i s all h = subst (λ (cs : List Call). Writes now (with_inputs cs s)) (take_all i calls all) h

-- entries have no float
pub entries-plain : (entries : List Entry) → items_have_float (items_of (map entry_value entries)) ≡ false
entries-plain [] = refl
entries-plain (entry ∷ entries) = entries-plain entries

-- and are the schedule
pub entries-put : (old now : ScenarioText) (entries : List Entry) (vs : List Data) (s : Data) → vs ≡ map entry_value entries
    → ((d : Data) → items_have_float (items_of vs) ≡ false → Writes old d → Writes now (another_schedule (items_of vs) d)) → Writes old s → Writes now (with_schedule (Some entries) s)
entries-put old now entries vs s is put before =
    let plain : items_have_float (items_of vs) ≡ false = ap (λ (xs : List Data). items_have_float (items_of xs)) is ∙ entries-plain entries in
    subst (λ (xs : List Data). Writes now (another_schedule (items_of xs) s)) is (put s plain before)
