use Rattle.std.proofs.Common.{◌≡◌, ◌-◌, ◌<◌, ◌≤◌, get_or, subst}
use Rattle.std.proofs.lemmas.Bool.{lt-leb}
use Rattle.sig_tables.specs.declared.plan.Plan.{Plan}
use Rattle.sig_tables.specs.Slots.{force_point, window}
use Rattle.sig_tables.proofs.Below.{phase-is}
use Rattle.coord_gate.proofs.Plans.{force-at, too-early, opened}
use Rattle.coord_gate.proofs.gate.fits.Goals as goal

pub returns-then-plan-counter-clause-fits : goal.returns-then-plan-counter-clause-fits
returns-then-plan-counter-clause-fits c = λ t n plan service.
    let force : get_or c.args.plan.now.force (c.args.phase - 1) 0 ≡ force_point t n c.args.phase =
    force-at c.args.plan.now t n c.args.phase plan (phase-is _ c.requires.above c.requires.within) in
    rw (c.from.ensures, c.from-2.ensures, c.from-3.ensures, c.from-then-plan-counter.ensures, force, service)
    (opened _ (window t n) c.args.counter (subst (λ (x : Plan). x.window ≤ c.args.counter) plan c.if-plan-counter.true))

pub returns-else-plan-counter-clause-fits : goal.returns-else-plan-counter-clause-fits
returns-else-plan-counter-clause-fits c = λ t n plan service.
    rw (lt-leb c.args.plan.now.window c.args.counter c.if-plan-counter.false)
    (too-early _ (window t n) c.args.counter (subst (λ (x : Plan). c.args.counter < x.window) plan c.if-plan-counter.false))
