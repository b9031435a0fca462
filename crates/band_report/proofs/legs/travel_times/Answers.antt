use Rattle.std.proofs.Common.{◌≡◌, ◌-◌, ◌∷◌, length, ap, ◌∙◌, arith}
use Rattle.json.specs.Json.{value, items, parse_map}
use Rattle.json.specs.Reads.{token_of}
use Rattle.json.proofs.Grammar.{value-begin_array}
use Rattle.serde_json.specs.Data.{array}
use Rattle.serde_json.specs.Read.{of_json, converted}
use Rattle.scenario_cut.proofs.Turns.{converted-array}
use Rattle.band_report.proofs.Times.{no-array}
use Rattle.band_report.proofs.legs.travel_times.Goals as goal

pub returns-in-Some-clause-ok : goal.returns-in-Some-clause-ok
returns-in-Some-clause-ok c =
    let depth = c.args.depth in
    let rest = c.next.new.self in
    let first : c.args.reader.now ≡ token_of c.in_ok-token.token ∷ rest = grind arith in
    let opened = ap (converted of_json) (ap (value depth) (first ∙ ap (λ k. token_of k ∷ rest) c.in-BeginArray.is) ∙ value-begin_array depth rest (omega arith)) ∙ converted-array (items (value (depth - 1)) (length rest) rest) in
    let found = c.in-Some.ensures.ok in
    (array found.0, opened ∙ ap (parse_map array) found.1, found.2)

pub returns-then-pass_rest-clause-ok : goal.returns-then-pass_rest-clause-ok
returns-then-pass_rest-clause-ok c =
    let done = c.pass_rest.ensures.passed c.if-pass_rest.true in
    let first : c.args.reader.now ≡ token_of c.in_ok-token.token ∷ c.next.new.self = grind arith in
    let none = no-array done.0 (done.2.no_list c.in_default.not-BeginArray) in
    (done.0, ap (λ ts. converted of_json (value c.args.depth ts)) first ∙ done.1, c.no_list.ensures done.0 none)
