use Rattle.std.proofs.Common.{◌≡◌, drop}
use Rattle.rule_book.specs.Rules.{broken_of, first_of}
use Rattle.rule_book.proofs.book.Book.first_among.Given as goal

-- the rules from here on give the first that is broken
abbrev pub invariant-loop-rule : goal.invariant-loop-rule
invariant-loop-rule l =
    first_of (broken_of l.self.tables.now l.self.in_force.now l.self.flashing (drop l.rule-index l.rules))
    ≡ first_of (broken_of l.self.tables.now l.self.in_force.now l.self.flashing l.rules)
