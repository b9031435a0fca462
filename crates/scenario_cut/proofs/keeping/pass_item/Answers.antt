use Rattle.std.proofs.Common.{◌≡◌, true, false, sym, ap, ◌∙◌, arith, rules}
use Rattle.serde_json.specs.Data.{null, item}
use Rattle.serde_json.specs.View.{view, items_view}
use Rattle.serde_json.specs.declared.value.Value.{Null, the_lemmas}
use Rattle.scenario_cut.specs.Cutting.{drops, cut_items}
use Rattle.scenario_cut.specs.Growing.{both}
use Rattle.scenario_cut.proofs.Growth.{none-more, null-more}
use Rattle.scenario_cut.proofs.keeping.pass_item.Goals as goal

pub returns-then-drops-clause-ok : goal.returns-then-drops-clause-ok
returns-then-drops-clause-ok c =
    let yes : c.pass.result ≡ true = grind arith in
    let passed = c.pass.ensures.passed yes in
    let form = c.args.form in
    let gone : drops form ≡ true = grind arith in
    (passed.0, passed.1, λ rest. ap (both (items_view c.args.found.now.items)) (none-more form gone (item passed.0 rest) ∙ sym (none-more form gone rest)))

pub returns-in-Some-clause-ok : goal.returns-in-Some-clause-ok
returns-in-Some-clause-ok c =
    let yes : c.pass.result ≡ true = grind arith in
    let passed = c.pass.ensures.passed yes in
    let form = c.args.form in
    let stays : drops form ≡ false = grind arith in
    let seen : view Null ≡ null = search (rules, the_lemmas) in (
      passed.0,
      passed.1,
      λ rest. ap (both (items_view c.args.found.now.items)) (null-more form stays passed.0 rest ∙ ap (λ v. item v (cut_items form 0 rest)) (sym seen)) ∙ c.in-Some.ensures (cut_items form 0 rest),
    )
