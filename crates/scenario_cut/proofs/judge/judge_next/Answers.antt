use Rattle.std.proofs.Common.{◌≡◌, ap, ◌∙◌}
use Rattle.serde_json.specs.View.{view}
use Rattle.scenario_read.specs.Paths.{then_item}
use Rattle.scenario_cut.specs.Cutting.{cut}
use Rattle.scenario_cut.specs.Judging.{form_of, list_path}
use Rattle.scenario_cut.proofs.Judging.{next-told}
use Rattle.scenario_cut.proofs.judge.judge_next.Goals as goal

pub returns-in-Some-clause-ok : goal.returns-in-Some-clause-ok
returns-in-Some-clause-ok c =
    let kept = c.in-Some.ensures.ok in
    let d = kept.0 in
    let l = c.args.list in
    let v = view c.in-Some.object in
    let is : v ≡ cut (form_of l) d = kept.2 ∙ ap (λ f. cut f d) c.form_of.ensures in
    (d, kept.1, λ ds stays. next-told l c.args.extent c.judge_item.new.found ds (then_item (list_path l) c.args.place) d v c.judge_item.result is (c.judge_item.ensures ds stays))
