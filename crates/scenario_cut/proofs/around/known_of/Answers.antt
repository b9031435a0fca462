use Rattle.std.proofs.Common.{rules, ◌≡◌, [], Some, sym, ap, ◌∙◌}
use Rattle.json.specs.Lex.{tokens}
use Rattle.json.specs.Json.{value}
use Rattle.serde_json.specs.Read.{of_json, converted, read}
use Rattle.scenario_cut.proofs.Turns.{whole_read}
use Rattle.scenario_cut.proofs.around.known_of.Goals as goal

pub returns : goal.returns
returns c =
    let text = c.in-Ok.text.now in
    let found = c.in_ok-known.ensures in
    let d = found.0 in
    let same : text ≡ c.args.bytes.now = search rules in
    let over : c.judge_value.new.reader ≡ [] = c.in-None.ensures.value.0 in
    let all : converted of_json (value 127 (tokens text)) ≡ Some (d, []) = ap (λ ts. converted of_json (value 127 ts)) (sym c.in-Ok-new.ensures.ok) ∙ found.1 ∙ ap (λ ts. Some (d, ts)) over in
    (d, (search rules, ap read (sym same) ∙ whole_read (value 127 (tokens text)) d all), found.2)
