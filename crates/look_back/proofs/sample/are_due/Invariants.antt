use Rattle.std.proofs.Common.{◌≡◌, drop}
use Rattle.sig_types.specs.Phases.{every}
use Rattle.sig_tables.specs.Tables.{listed}
use Rattle.look_back.specs.Look.{is_due}
use Rattle.look_back.proofs.sample.are_due.Given as goal

abbrev pub invariant-loop-octet : goal.invariant-loop-octet
invariant-loop-octet l = every (is_due l.set) (drop l.octet-index l.octets) ≡ every (is_due l.set) (listed l.goal)
