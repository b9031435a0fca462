use Rattle.std.proofs.Common.{◌≡◌, ◌∷◌, length, ap, ◌∙◌, arith}
use Rattle.json.specs.Token.{Token}
use Rattle.json.specs.Json.{value, items, parse_map}
use Rattle.json.specs.Reads.{token_of}
use Rattle.json.proofs.Grammar.{value-begin_array}
use Rattle.serde_json.specs.Data.{array}
use Rattle.serde_json.specs.Read.{of_json, converted}
use Rattle.scenario_cut.proofs.Turns.{converted-array}
use Rattle.field_read.proofs.lists.list_at.Goals as goal

pub returns-in-Some-clause-ok : goal.returns-in-Some-clause-ok
returns-in-Some-clause-ok c =
    let rest = c.next.new.self in
    let first : c.args.reader.now ≡ Token.begin_array ∷ rest = c.in-Some-BeginArray.ensures.value ∙ ap (λ k. token_of k ∷ rest) c.in-Some-BeginArray.field-0-is in
    let opened = ap (converted of_json) (ap (value 126) first ∙ value-begin_array 126 rest (omega arith)) ∙ converted-array (items (value 125) (length rest) rest) in
    let found = c.in-Some.ensures.ok in
    (found.0, opened ∙ ap (parse_map array) found.1, found.2)
