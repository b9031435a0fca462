use Rattle.std.proofs.Common.{◌≡◌, ◌-◌, drop}
use Rattle.sig_types.specs.Phases.{all_phases, some}
use Rattle.sig_tables.specs.declared.tables.Tables.{Tables}
use Rattle.rule_book.specs.RingLayout.{has_two_sides}
use Rattle.rule_book.specs.Sets.{Reads, has_another_side}
use Rattle.rule_book.proofs.ring_layout.RingLayout.has_two_sides.Given as goal

abbrev pub invariant-loop-phase : goal.invariant-loop-phase
invariant-loop-phase l = (t : Tables) → Reads l.self t → some (has_another_side t) (drop (l.phase - 1) all_phases) ≡ has_two_sides t
