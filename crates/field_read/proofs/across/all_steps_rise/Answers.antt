use Rattle.std.proofs.Common.{◌≡◌, ◌<◌, [], length, map, sym, subst, arith}
use Rattle.std.proofs.lemmas.List.{length-map}
use Rattle.scenario_read.specs.Readers.{Refuses}
use Rattle.field_read.specs.Content.{RuleContent, rule_content}
use Rattle.field_read.specs.Checks.{step_faults, rule_step_faults, rule_at}
use Rattle.field_read.proofs.Upto.{upto-next, upto-refused, upto-done}
use Rattle.field_read.proofs.Rules.{rule-here}
use Rattle.field_read.proofs.across.all_steps_rise.Goals as goal

pub returns-in-Err : goal.returns-in-Err
returns-in-Err c =
    let l = c.loop-section in
    let rules = map rule_content c.args.rules.now.items in
    let here : rule_at rules l.section ≡ rule_content c.index.result.now = rule-here c.args.rules.now.items l.section c.index.result.now (omega arith) c.index.ensures in
    let low : l.section < length rules = rw (length-map c.args.rules.now.items rule_content) (omega arith) in
    upto-refused c.in-Err.fail (rule_step_faults rules) l.section (length rules) low l.invariant
    (subst (λ (r : RuleContent). Refuses c.in-Err.fail (step_faults l.section r.steps)) (sym here) c.in-Err.ensures)

pub loop-section-preserved : goal.loop-section-preserved
loop-section-preserved c =
    let l = c.loop-section in
    let rules = map rule_content c.args.rules.now.items in
    let here : rule_at rules l.section ≡ rule_content c.index.result.now = rule-here c.args.rules.now.items l.section c.index.result.now (omega arith) c.index.ensures in
    upto-next (rule_step_faults rules) l.section l.invariant (subst (λ (r : RuleContent). step_faults l.section r.steps ≡ []) (sym here) c.in-Ok.ensures.0)

pub returns : goal.returns
returns c =
    let l = c.loop-section in
    let rules = map rule_content c.args.rules.now.items in
    let all : l.section ≡ length rules = rw (length-map c.args.rules.now.items rule_content) (omega arith) in
    (upto-done (rule_step_faults rules) l.section (length rules) all l.invariant, tt)
