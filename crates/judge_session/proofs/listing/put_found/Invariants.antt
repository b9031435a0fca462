use Rattle.std.proofs.Common.{◌-◌, get_or, drop}
use Rattle.sig_types.specs.Phases.{all_phases}
use Rattle.judge_laws.specs.Breaches.{each}
use Rattle.judge.specs.Cabinet.{listed_breaches, no_found}
use Rattle.judge_session.proofs.Adding.{Leaves}
use Rattle.judge_session.proofs.listing.put_found.Given as goal

abbrev pub invariant-loop-p : goal.invariant-loop-p
invariant-loop-p l = Leaves l.fn.out.items l.out.items l.count l.now
    (each (λ p. listed_breaches l.cab l.tick p (get_or l.found (p - 1) no_found)) all_phases)
    (each (λ p. listed_breaches l.cab l.tick p (get_or l.found (p - 1) no_found)) (drop l.p all_phases))
