use Rattle.std.proofs.Common.{◌≡◌, false, sym, ◌∙◌, subst, arith}
use Rattle.serde_json.specs.View.{view}
use Rattle.scenario_cut.specs.Around.{scenario_in}
use Rattle.scenario_cut.specs.Known.{told_of, Knows}
use Rattle.scenario_cut.proofs.Checking.{absent-in}
use Rattle.scenario_cut.proofs.Passes.{none-stands}
use Rattle.scenario_cut.proofs.Verdicts.{one-value}
use Rattle.scenario_cut.proofs.groups.known_in.Goals as goal

pub returns-then-not-any_stands : goal.returns-then-not-any_stands
returns-then-not-any_stands c = λ d reads kept l looked.
    let e = c.args.search.extent in
    let known = c.all_absent.result in
    let said : c.any_stands.result ≡ false = grind arith in
    absent-in l e (told_of l known) (scenario_in c.args.around d) (view c.args.setup.now) kept (none-stands c.args.search.group (view c.args.setup.now) (sym c.any_stands.ensures ∙ said) l looked) (c.all_absent.ensures e l)

pub returns-in-Some : goal.returns-in-Some
returns-in-Some c = λ d reads kept.
    let told = c.in-Some.ensures in
    subst (λ v. Knows c.args.search c.in-Some.known (scenario_in c.args.around v)) (one-value c.args.bytes.now told.0 d told.1 reads) told.2
