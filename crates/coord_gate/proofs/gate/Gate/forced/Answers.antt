use Rattle.std.proofs.Common.{◌∙◌, nat_le}
use Rattle.sig_types.specs.PhaseSet.{has}
use Rattle.sig_tables.specs.Slots.{is_coordinated, force_point}
use Rattle.coord_gate.proofs.Plans.{force-at, regrouped}
use Rattle.coord_gate.proofs.gate.Gate.forced.Goals as goal

pub returns : goal.returns
returns c = λ t n g p is. c.reached.ensures p is
    ∙ rw (c.others.ensures p is, g.coordinated p is, force-at c.args.self.now.plan.now t n p g.plan is)
    (regrouped (has c.args.among p) (is_coordinated t n p) (nat_le (force_point t n p) c.args.counter))
