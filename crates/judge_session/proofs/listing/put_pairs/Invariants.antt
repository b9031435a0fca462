use Rattle.std.proofs.Common.{◌-◌, ◌&&◌, nat_lt, drop}
use Rattle.sig_types.specs.Phases.{all_phases}
use Rattle.sig_types.specs.PhaseSet.{has}
use Rattle.judge_laws.specs.declared.Clause.TheVariants.{Apart}
use Rattle.judge_laws.specs.Breaches.{found, breach_at, each}
use Rattle.judge_session.proofs.Adding.{Leaves}
use Rattle.judge_session.proofs.listing.put_pairs.Given as goal

abbrev pub invariant-loop-other : goal.invariant-loop-other
invariant-loop-other l = Leaves l.fn.out.items l.out.items l.count l.now
    (each (λ q. found (nat_lt l.phase q && has l.together q) (breach_at l.cab l.tick Apart l.phase q)) all_phases)
    (each (λ q. found (nat_lt l.phase q && has l.together q) (breach_at l.cab l.tick Apart l.phase q)) (drop (l.other - 1) all_phases))
