use Rattle.std.proofs.Common.{◌≡◌, ◌-◌, ◌∷◌, length, ap, ◌∙◌, arith}
use Rattle.json.specs.Json.{value, members, parse_map}
use Rattle.json.specs.Reads.{token_of}
use Rattle.json.proofs.Grammar.{value-begin_object}
use Rattle.serde_json.specs.Data.{object}
use Rattle.serde_json.specs.Read.{of_json, converted}
use Rattle.scenario_cut.proofs.Passes.{none-named}
use Rattle.scenario_cut.proofs.Turns.{converted-object}
use Rattle.scenario_cut.proofs.around.judge_scenario.Goals as goal

pub returns-in-Some-clause-ok : goal.returns-in-Some-clause-ok
returns-in-Some-clause-ok c =
    let depth = c.args.depth in
    let rest = c.next.new.self in
    let first : c.args.reader.now ≡ token_of c.in_ok-token.token ∷ rest = grind arith in
    let opened = ap (converted of_json) (ap (value depth) (first ∙ ap (λ k. token_of k ∷ rest) c.in-BeginObject.is) ∙ value-begin_object depth rest (omega arith)) ∙ converted-object (members (value (depth - 1)) (length rest) rest) in
    let found = c.in-Some.ensures.ok in
    (object found.0, opened ∙ ap (parse_map object) found.1, found.2)

pub returns-then-pass_rest-clause-ok : goal.returns-then-pass_rest-clause-ok
returns-then-pass_rest-clause-ok c =
    let depth = c.args.depth in
    let rest = c.next.new.self in
    let first : c.args.reader.now ≡ token_of c.in_ok-token.token ∷ rest = grind arith in
    let done = c.pass_rest.ensures.passed c.if-pass_rest.true in
    let none = done.2.no_object c.in_default.not-BeginObject in
    (done.0, ap (converted of_json) (ap (value depth) first) ∙ done.1, none-named c.args.search c.all_absent.result done.0 none c.all_absent.ensures)
