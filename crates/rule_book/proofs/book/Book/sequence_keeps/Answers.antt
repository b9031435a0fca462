use Rattle.std.proofs.Common.{◌∙◌, ap, sym}
use Rattle.rule_book.specs.declared.rules.SequenceRule.{SequenceRule}
use Rattle.rule_book.specs.Rules.{sequence_keeps}
use Rattle.rule_book.proofs.book.Book.sequence_keeps.Goals as goal

pub returns-in-SideOrder : goal.returns-in-SideOrder
returns-in-SideOrder c =
    c.keeps_sides.ensures ∙ ap (λ (r : SequenceRule). sequence_keeps c.args.self.now.tables.now r c.args.sequence) (sym c.in-SideOrder.is)
