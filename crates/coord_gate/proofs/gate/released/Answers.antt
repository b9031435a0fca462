use Rattle.std.proofs.Common.{◌≡◌, ◌-◌, get_or, refl}
use Rattle.sig_tables.specs.Slots.{force_point}
use Rattle.sig_tables.proofs.Below.{phase-is}
use Rattle.coord_gate.proofs.Plans.{force-at}
use Rattle.coord_gate.proofs.gate.released.Goals as goal

pub returns-clause-released : goal.returns-clause-released
returns-clause-released c = λ t n active plan held.
    let force : get_or c.args.plan.now.force (c.args.phase - 1) 0 ≡ force_point t n c.args.phase =
    force-at c.args.plan.now t n c.args.phase plan (phase-is _ c.requires.above c.requires.within) in
    rw (c.from.ensures, c.from-2.ensures, c.from-3.ensures, force, held) refl
