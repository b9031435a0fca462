use Rattle.std.proofs.Common.{rules, ◌≡◌, [], ◌∷◌, Some, length, sym, ap, ◌∙◌, arith}
use Rattle.json.specs.Token.{Token}
use Rattle.json.specs.Lex.{tokens}
use Rattle.json.specs.Json.{value, members, parse_map}
use Rattle.json.specs.Reads.{token_of}
use Rattle.json.proofs.Grammar.{value-begin_object}
use Rattle.serde_json.specs.Data.{object}
use Rattle.serde_json.specs.Read.{of_json, converted, read}
use Rattle.scenario_cut.proofs.Turns.{converted-object, whole_read}
use Rattle.scenario_file.proofs.outer.parts_with.Goals as goal

pub returns-clause-ok : goal.returns-clause-ok
returns-clause-ok g c =
    let text = c.in-Ok.text.now in
    let rest = c.next.new.self in
    let found = c.in_ok-parts.ensures in
    let d = object found.0 in
    let same : text ≡ c.args.bytes.now = search rules in
    let first : tokens text ≡ Token.begin_object ∷ rest = sym c.in-Ok-new.ensures.ok ∙ c.in-Some-BeginObject.ensures.value ∙ ap (λ k. token_of k ∷ rest) c.in-Some-BeginObject.field-0-is in
    let opened = ap (converted of_json) (ap (value 127) first ∙ value-begin_object 127 rest (omega arith)) ∙ converted-object (members (value 126) (length rest) rest) in
    let over : c.members_of.new.reader ≡ [] = c.in-None.ensures.value.0 in
    let all : converted of_json (value 127 (tokens text)) ≡ Some (d, []) = opened ∙ ap (parse_map object) found.1 ∙ ap (λ ts. Some (d, ts)) over in
    (found.0, ap read (sym same) ∙ whole_read (value 127 (tokens text)) d all, found.2)
