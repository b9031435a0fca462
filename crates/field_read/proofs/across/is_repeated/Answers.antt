use Rattle.std.proofs.Common.{◌≡◌, ◌∙◌, ◌==◌, ℕ, false, map, sym, ap, ap₂, subst, arith}
use Rattle.field_read.specs.Content.{RuleContent, rule_content}
use Rattle.field_read.specs.Checks.{has_section, any_below, rule_at}
use Rattle.field_read.proofs.Upto.{below-next, below-found}
use Rattle.field_read.proofs.Rules.{rule-here, same-number, other-number}
use Rattle.field_read.proofs.across.is_repeated.Goals as goal

pub returns-then-repeated : goal.returns-then-repeated
returns-then-repeated c =
    let l = c.loop-before in
    let all = c.args.rules.now.items in
    let rules = map rule_content all in
    let own : rule_at rules c.args.place ≡ rule_content c.index.result.now = rule-here all c.args.place c.index.result.now c.requires.within c.index.ensures in
    let other : rule_at rules l.before ≡ rule_content c.index-in-loop-before.result.now =
    rule-here all l.before c.index-in-loop-before.result.now (omega (arith, c.requires.within)) c.index-in-loop-before.ensures in
    sym (below-found (has_section rules (rule_at rules c.args.place).section) l.before c.args.place (omega arith)
    (ap₂ (λ (a b : RuleContent). a.section == b.section) other own
    ∙ same-number c.index-in-loop-before.result.now.section c.index.result.now.section c.if-repeated.true))

pub loop-before-preserved : goal.loop-before-preserved
loop-before-preserved c =
    let l = c.loop-before in
    let all = c.args.rules.now.items in
    let rules = map rule_content all in
    let other : rule_at rules l.before ≡ rule_content c.index-in-loop-before.result.now =
    rule-here all l.before c.index-in-loop-before.result.now (omega (arith, c.requires.within)) c.index-in-loop-before.ensures in
    let section = c.index.result.now.section in
    below-next (has_section rules section) l.before l.invariant (ap (λ (a : RuleContent). a.section == section) other
    ∙ other-number c.index-in-loop-before.result.now.section section c.if-repeated.false)

pub returns : goal.returns
returns c =
    let l = c.loop-before in
    let all = c.args.rules.now.items in
    let rules = map rule_content all in
    let own : rule_at rules c.args.place ≡ rule_content c.index.result.now = rule-here all c.args.place c.index.result.now c.requires.within c.index.ensures in
    let past : l.before ≡ c.args.place = omega arith in
    let section = c.index.result.now.section in
    let none : any_below (has_section rules section) c.args.place ≡ false = subst (λ (n : ℕ). any_below (has_section rules section) n ≡ false) past l.invariant in
    sym (ap (λ (r : RuleContent). any_below (has_section rules r.section) c.args.place) own ∙ none)
