use Rattle.std.proofs.Common.{◌-◌, get_or, drop}
use Rattle.sig_types.specs.Phases.{all_phases}
use Rattle.judge_laws.specs.Overrun.{each_overruns}
use Rattle.judge.specs.Cabinet.{listed_by, no_overruns}
use Rattle.judge_session.proofs.Adding.{LeavesOver}
use Rattle.judge_session.proofs.listing.put_overruns.Given as goal

abbrev pub invariant-loop-p : goal.invariant-loop-p
invariant-loop-p l = LeavesOver l.fn.out.items l.out.items
    (each_overruns (λ p. listed_by l.cab p (get_or l.overruns (p - 1) no_overruns)) all_phases)
    (each_overruns (λ p. listed_by l.cab p (get_or l.overruns (p - 1) no_overruns)) (drop l.p all_phases))
