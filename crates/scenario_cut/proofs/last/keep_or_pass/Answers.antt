use Rattle.std.proofs.Common.{◌≡◌, rules, sym, ap, ◌∙◌}
use Rattle.serde_json.specs.Data.{null}
use Rattle.serde_json.specs.View.{view}
use Rattle.serde_json.specs.declared.value.Value.{Null, the_lemmas}
use Rattle.scenario_cut.specs.Cutting.{Whole, cut, member_form}
use Rattle.scenario_cut.proofs.Lasting.{shown, covered, same-left}
use Rattle.scenario_cut.proofs.last.keep_or_pass.Goals as goal

pub returns-in-Some-clause-ok : goal.returns-in-Some-clause-ok
returns-in-Some-clause-ok c =
    let done = c.in-Some.ensures.ok in
    let name = c.args.name.now in
    let told = c.is_last.ensures in
    let kept : view c.in-Some.kept ≡ cut (member_form Whole name) done.0 = done.2 ∙ ap (λ f. cut f done.0) c.member_form.ensures in (
      done.0,
      done.1,
      record {
        here = shown c.is_last.new.left name (cut (member_form Whole name) done.0) (told.last c.if-is_last.true) ∙ sym kept;
        others = λ other apart e. same-left c.args.left.now c.is_last.new.left other e (told.others other apart);
      },
    )

pub returns-then-pass-clause-ok : goal.returns-then-pass-clause-ok
returns-then-pass-clause-ok c =
    let done = c.pass.ensures.passed c.if-pass.true in
    let name = c.args.name.now in
    let told = c.is_last.ensures in
    let seen : view Null ≡ null = search (rules, the_lemmas) in (
      done.0,
      done.1,
      record {
        here = covered c.is_last.new.left name (cut (member_form Whole name) done.0) (told.more c.if-is_last.false) ∙ sym seen;
        others = λ other apart e. same-left c.args.left.now c.is_last.new.left other e (told.others other apart);
      },
    )
