use Rattle.std.proofs.Common.{◌≡◌, ◌||◌, ℕ, true, drop}
use Rattle.sig_types.specs.PhaseSet.{has}
use Rattle.sig_types.specs.Phases.{is_phase, is_in}
use Rattle.sig_tables.specs.Tables.{listed}
use Rattle.preempt_stages.proofs.goals.phases_in.Given as goal

abbrev pub invariant-loop-octet : goal.invariant-loop-octet
invariant-loop-octet l = (p : ℕ) → is_phase p ≡ true → (has l.set p || is_in (drop l.octet-index (listed l.list)) p) ≡ is_in (listed l.list) p
