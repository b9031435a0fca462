use Rattle.std.proofs.Common.{◌∙◌, ◌+◌, List, drop, get_or, sym, arith}
use Rattle.std.proofs.lemmas.List.{at_drop_more}
use Rattle.sig_types.specs.Phases.{those}
use Rattle.rule_book.specs.declared.rules.Rule.{Rule}
use Rattle.rule_book.specs.declared.rules.Rule.TheVariants.{OnPhase}
use Rattle.rule_book.specs.declared.rules.PhaseRule.TheVariants.{Ring}
use Rattle.rule_book.specs.Rules.{rows_of, at_rows, broken_of, first_of}
use Rattle.rule_book.specs.Book.{breaks_of}
use Rattle.rule_book.proofs.Firsts.{first-none, first-some}
use Rattle.rule_book.proofs.book.Book.first_among.Goals as goal

pub returns-in-Err : goal.returns-in-Err
returns-in-Err c =
    let rule : Rule = get_or c.args.rules.now c.loop-rule.rule-index (OnPhase Ring) in
    first-some (at_rows rule (those (breaks_of c.args.self.now rule) (rows_of rule)))
    (broken_of c.args.self.now.tables.now c.args.self.now.in_force.now c.args.self.now.flashing (drop (c.loop-rule.rule-index + 1) c.args.rules.now))
    c.in-Err.broken
    (sym c.first_broken.ensures ∙ c.in-Err.is)
    ∙ sym (at_drop_more (λ (rules : List Rule). first_of (broken_of c.args.self.now.tables.now c.args.self.now.in_force.now c.args.self.now.flashing rules))
    c.args.rules.now c.loop-rule.rule-index (OnPhase Ring) (omega arith))
    ∙ c.loop-rule.invariant

pub loop-rule-preserved : goal.loop-rule-preserved
loop-rule-preserved c =
    let rule : Rule = get_or c.args.rules.now c.loop-rule.rule-index (OnPhase Ring) in
    first-none (at_rows rule (those (breaks_of c.args.self.now rule) (rows_of rule)))
    (broken_of c.args.self.now.tables.now c.args.self.now.in_force.now c.args.self.now.flashing (drop (c.loop-rule.rule-index + 1) c.args.rules.now))
    (sym c.first_broken.ensures ∙ c.in_default.is)
    ∙ sym (at_drop_more (λ (rules : List Rule). first_of (broken_of c.args.self.now.tables.now c.args.self.now.in_force.now c.args.self.now.flashing rules))
    c.args.rules.now c.loop-rule.rule-index (OnPhase Ring) (omega arith))
    ∙ c.loop-rule.invariant
