use Rattle.std.proofs.Common.{◌≡◌, ◌∷◌, ◌+◌, ◌-◌, length, ap, ◌∙◌, arith}
use Rattle.json.specs.Token.{Token}
use Rattle.json.specs.Json as json
use Rattle.json.specs.Json.{value, items, parse_map}
use Rattle.json.specs.Reads.{token_of}
use Rattle.json.proofs.Grammar.{value-begin_array}
use Rattle.serde_json.specs.Data.{array}
use Rattle.serde_json.specs.Read.{of_json, converted}
use Rattle.scenario_cut.proofs.Turns.{converted-array}
use Rattle.scenario_file.proofs.listed.list_at.Goals as goal

pub returns-in-Some-clause-ok : goal.returns-in-Some-clause-ok
returns-in-Some-clause-ok c =
    let rest = c.next.new.self in
    let depth = c.args.depth in
    let first : c.args.reader.now ≡ Token.begin_array ∷ rest = c.in-Some-BeginArray.ensures.value ∙ ap (λ k. token_of k ∷ rest) c.in-Some-BeginArray.field-0-is in
    let inner : depth + 1 - 1 ≡ depth = omega arith in
    let opened = ap (converted of_json) (ap (value (depth + 1)) first ∙ value-begin_array (depth + 1) rest (omega arith) ∙ ap (λ n. parse_map json.array (items (value n) (length rest) rest)) inner) ∙ converted-array (items (value depth) (length rest) rest) in
    let found = c.in-Some.ensures.ok in
    (found.0, opened ∙ ap (parse_map array) found.1, found.2)
