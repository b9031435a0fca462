use Rattle.std.proofs.Common.{◌≡◌, ◌∷◌, ◌-◌, length, Some, ap, ◌∙◌, arith}
use Rattle.json.specs.Token.{Token}
use Rattle.json.specs.Json.{value, members, parse_map}
use Rattle.json.specs.Reads.{token_of}
use Rattle.json.proofs.Grammar.{value-begin_object}
use Rattle.serde_json.specs.Data.{object}
use Rattle.serde_json.specs.Read.{of_json, converted}
use Rattle.scenario_cut.proofs.Turns.{converted-object}
use Rattle.scenario_file.proofs.plain.input_at.Goals as goal

pub returns-in_ok-input-in-Some-BeginObject-clause-ok : goal.returns-in_ok-input-in-Some-BeginObject-clause-ok
returns-in_ok-input-in-Some-BeginObject-clause-ok c =
    let rest = c.next.new.self in
    let first : c.args.reader.now ≡ Token.begin_object ∷ rest = c.in-Some-BeginObject.ensures.value ∙ ap (λ k. token_of k ∷ rest) c.in-Some-BeginObject.field-0-is in
    let opened = ap (converted of_json) (ap (value c.args.depth) first ∙ value-begin_object c.args.depth rest (omega (arith, c.requires.deep))) ∙ converted-object (members (value (c.args.depth - 1)) (length rest) rest) in
    let found = c.in_ok-plain-in-Some-BeginObject.ensures.ok (c.args.depth - 1) in
    let stands = c.in_ok-input-in-Some-BeginObject.ensures in
    (opened ∙ ap (parse_map object) found ∙ ap (λ ms. Some (object ms, c.members_of.new.reader)) stands.0, stands.1)
