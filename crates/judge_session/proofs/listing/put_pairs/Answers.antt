use Rattle.std.proofs.Common.{◌+◌, ◌-◌, ◌&&◌, nat_lt, ℕ, Bool, List, drop, arith, subst}
use Rattle.sig_types.specs.Phases.{all_phases}
use Rattle.sig_types.specs.PhaseSet.{has}
use Rattle.judge_laws.specs.declared.Breach.{Breach}
use Rattle.judge_laws.specs.declared.Clause.TheVariants.{Apart}
use Rattle.judge_laws.specs.Breaches.{found, breach_at, each}
use Rattle.judge_session.specs.Standing.{Adds}
use Rattle.judge_session.proofs.Adding.{leaves-next, each-from}
use Rattle.judge_session.proofs.listing.put_pairs.Goals as goal

pub loop-other-preserved : goal.loop-other-preserved
loop-other-preserved c =
    let of : ℕ → List Breach = λ q. found (nat_lt c.args.phase q && has c.args.together q) (breach_at c.args.cab c.args.tick Apart c.args.phase q) in
    let q : ℕ = c.loop-other.other in
    leaves-next c.args.out.now.items c.loop-other.out.items c.put_if.new.out.items c.args.count c.loop-other.now c.in_ok-now.now
    (each of all_phases) (each of (drop (q - 1) all_phases)) (of q) (each of (drop (q + 1 - 1) all_phases))
    (each-from of q (omega arith) (omega arith)) c.loop-other.invariant
    (subst (λ (b : Bool). Adds c.loop-other.out.items c.put_if.new.out.items c.loop-other.now c.in_ok-now.now (found b (breach_at c.args.cab c.args.tick Apart c.args.phase q)))
    c.is_pair-is_found.ensures (c.in_ok-now.ensures {u = tt}))
