use Rattle.std.proofs.Common.{◌≡◌, ◌-◌, ◌∷◌, length, ap, ◌∙◌, arith}
use Rattle.json.specs.Token.{Token}
use Rattle.json.specs.Json.{value, members, parse_map}
use Rattle.json.specs.Reads.{token_of}
use Rattle.json.proofs.Grammar.{value-begin_object}
use Rattle.serde_json.specs.Data.{object}
use Rattle.serde_json.specs.Read.{of_json, converted}
use Rattle.scenario_cut.proofs.Turns.{converted-object}
use Rattle.scenario_cut.proofs.around.judge_object.Goals as goal

pub returns-in-Some : goal.returns-in-Some
returns-in-Some c =
    let depth = c.args.depth in
    let rest = c.next.new.self in
    let first : c.args.reader.now ≡ Token.begin_object ∷ rest = c.in-Some-BeginObject.ensures.value ∙ ap (λ k. token_of k ∷ rest) c.in-Some-BeginObject.field-0-is in
    let opened = ap (converted of_json) (ap (value depth) first ∙ value-begin_object depth rest (omega arith)) ∙ converted-object (members (value (depth - 1)) (length rest) rest) in
    let found = c.in-Some.ensures.ok in
    (object found.0, opened ∙ ap (parse_map object) found.1, found.2)
