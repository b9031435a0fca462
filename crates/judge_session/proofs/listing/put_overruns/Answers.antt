use Rattle.std.proofs.Common.{◌≡◌, ◌∙◌, ◌+◌, ◌-◌, ◌++◌, ℕ, List, get_or, drop, ap, arith}
use Rattle.sig_types.specs.Phases.{all_phases}
use Rattle.judge_laws.specs.declared.Overrun.{Overrun}
use Rattle.judge_laws.specs.Overrun.{each_overruns}
use Rattle.judge.specs.Cabinet.{listed_by, no_overruns}
use Rattle.judge_session.proofs.Adding.{over-next, over-none, over-each-next}
use Rattle.judge_session.proofs.listing.put_overruns.Goals as goal

pub loop-p-preserved : goal.loop-p-preserved
loop-p-preserved c =
    let of : ℕ → List Overrun = λ p. listed_by c.args.cab p (get_or c.args.overruns.now (p - 1) no_overruns) in
    let p : ℕ = c.loop-p.p in
    let e : p + 1 - 1 ≡ p = omega arith in
    over-next c.args.out.now.items c.loop-p.out.items c.put_overruns_of.new.out.items (each_overruns of all_phases) (each_overruns of (drop p all_phases))
    (listed_by c.args.cab (p + 1) (get_or c.args.overruns.now p no_overruns)) (each_overruns of (drop (p + 1) all_phases))
    (over-each-next of p (omega arith) ∙ ap (λ (i : ℕ). listed_by c.args.cab (p + 1) (get_or c.args.overruns.now i no_overruns) ++ each_overruns of (drop (p + 1) all_phases)) e)
    c.loop-p.invariant (c.in_ok-put_overruns_of.ensures {u = tt})

pub returns : goal.returns
returns c =
    let of : ℕ → List Overrun = λ p. listed_by c.args.cab p (get_or c.args.overruns.now (p - 1) no_overruns) in
    let e : c.loop-p.p ≡ 16 = omega arith in
    over-none c.args.out.now.items c.loop-p.out.items (each_overruns of all_phases) (each_overruns of (drop c.loop-p.p all_phases))
    (ap (λ (n : ℕ). each_overruns of (drop n all_phases)) e) c.loop-p.invariant
