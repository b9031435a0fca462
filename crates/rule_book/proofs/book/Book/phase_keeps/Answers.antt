use Rattle.std.proofs.Common.{◌∙◌, ap, sym}
use Rattle.rule_book.specs.declared.rules.PhaseRule.{PhaseRule}
use Rattle.rule_book.specs.Rules.{phase_keeps}
use Rattle.rule_book.proofs.book.Book.phase_keeps.Goals as goal

pub returns-in-NamedBack : goal.returns-in-NamedBack
returns-in-NamedBack c =
    c.is_named_back.ensures c.args.self.now.tables.now c.requires.open_book.ring_layout
    ∙ ap (λ (r : PhaseRule). phase_keeps c.args.self.now.tables.now r c.args.phase) (sym c.in-NamedBack.is)

pub returns-in-ConcurrentPhase : goal.returns-in-ConcurrentPhase
returns-in-ConcurrentPhase c =
    c.has_neighbour.ensures c.args.self.now.tables.now c.requires.open_book.ring_layout
    ∙ ap (λ (r : PhaseRule). phase_keeps c.args.self.now.tables.now r c.args.phase) (sym c.in-ConcurrentPhase.is)

pub returns-in-StartUp : goal.returns-in-StartUp
returns-in-StartUp c =
    c.starts_beside.ensures c.args.self.now.tables.now c.requires.open_book.ring_layout
    ∙ ap (λ (r : PhaseRule). phase_keeps c.args.self.now.tables.now r c.args.phase) (sym c.in-StartUp.is)
