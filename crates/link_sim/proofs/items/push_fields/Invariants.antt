use Rattle.std.proofs.Common.{◌≡◌, ◌++◌, drop}
use Rattle.link_sim.specs.Agenda.{made}
use Rattle.link_sim.specs.Made.{field_made}
use Rattle.link_sim.proofs.items.push_fields.Given as goal

-- what was appended so far, with that of the items to come, is all of it
abbrev pub invariant-loop-due : goal.invariant-loop-due
invariant-loop-due l = l.out.items ++ made field_made l.inputs (drop l.due-index l.dues) ≡ l.fn.out.items ++ made field_made l.inputs l.dues
