use Rattle.std.proofs.Common.{◌≡◌, ◌∙◌, ◌+◌, ◌-◌, ◌++◌, ℕ, List, get_or, drop, ap, arith}
use Rattle.sig_types.specs.Phases.{all_phases}
use Rattle.judge_laws.specs.declared.Breach.{Breach}
use Rattle.judge_laws.specs.Breaches.{each}
use Rattle.judge.specs.Cabinet.{listed_breaches, no_found}
use Rattle.judge_session.proofs.Adding.{leaves-next, leaves-none, each-next}
use Rattle.judge_session.proofs.listing.put_found.Goals as goal

pub loop-p-preserved : goal.loop-p-preserved
loop-p-preserved c =
    let of : ℕ → List Breach = λ p. listed_breaches c.args.cab c.args.tick p (get_or c.args.found.now (p - 1) no_found) in
    let p : ℕ = c.loop-p.p in
    let e : p + 1 - 1 ≡ p = omega arith in
    leaves-next c.args.out.now.items c.loop-p.out.items c.put_phase.new.out.items c.args.count c.loop-p.now c.in_ok-now.now
    (each of all_phases) (each of (drop p all_phases)) (listed_breaches c.args.cab c.args.tick (p + 1) (get_or c.args.found.now p no_found)) (each of (drop (p + 1) all_phases))
    (each-next of p (omega arith) ∙ ap (λ (i : ℕ). listed_breaches c.args.cab c.args.tick (p + 1) (get_or c.args.found.now i no_found) ++ each of (drop (p + 1) all_phases)) e)
    c.loop-p.invariant (c.in_ok-now.ensures {u = tt})

pub returns : goal.returns
returns c =
    let of : ℕ → List Breach = λ p. listed_breaches c.args.cab c.args.tick p (get_or c.args.found.now (p - 1) no_found) in
    let e : c.loop-p.p ≡ 16 = omega arith in
    leaves-none c.args.out.now.items c.loop-p.out.items c.args.count c.loop-p.now (each of all_phases) (each of (drop c.loop-p.p all_phases))
    (ap (λ (n : ℕ). each of (drop n all_phases)) e) c.loop-p.invariant
