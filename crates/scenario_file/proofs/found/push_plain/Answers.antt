use Rattle.std.proofs.Common.{rules, ◌≡◌, ◌++◌, ◌∷◌, ◌≤◌, [], length, codes, sym, ap, ◌∙◌, arith}
use Rattle.std.proofs.lemmas.List.{length-append}
use Rattle.serde_json.specs.Data.{object}
use Rattle.scenario_read.specs.Paths.{then_item}
use Rattle.scenario_read.specs.Content.{input_of}
use Rattle.scenario_file.specs.Listing.{list_path, any_input}
use Rattle.scenario_file.specs.Plain.{input_members}
use Rattle.scenario_file.proofs.Growth.{told-next}
use Rattle.scenario_file.proofs.Inputs.{says, faultless, asks-within}
use Rattle.scenario_file.proofs.found.push_plain.Goals as goal

pub returns-in-Ok-clause-added : goal.returns-in-Ok-clause-added
returns-in-Ok-clause-added c = λ ds told.
    let input = c.args.input in
    let d = object (input_members input) in
    let old = c.args.inputs.now.items in
    let new = c.push.new.self.items in
    let counted : c.len.result ≡ length old = search rules in
    let more : new ≡ old ++ input_of 86400 64 d ∷ [] = c.in-Ok.ensures.items ∙ ap (λ i. old ++ i ∷ []) (sym (says input)) in
    let few : length new ≤ 1000000 = rw more (omega (arith, counted, length-append old (input_of 86400 64 d ∷ []), c.if-len-ge1000000.false)) in
    told-next (list_path (codes "inputs")) any_input (input_of 86400 64) 1000000 old new ds d told
    record { causes = faultless input (then_item (list_path (codes "inputs")) (length old)) c.requires.fits; more = more; few = few }

pub returns-in-Ok-clause-reach : goal.returns-in-Ok-clause-reach
returns-in-Ok-clause-reach c = asks-within c.args.input 0
