use Rattle.std.proofs.Common.{◌<◌, refl, arith}
use Rattle.sig_tables.specs.Past.{Past}
use Rattle.sig_tables.specs.Decide.{past_at, ticked}
use Rattle.tick_context.proofs.Striding.{lasts-plain}
use Rattle.engine.proofs.Engine.pass_on.Goals as goal

pub returns-clause-stands : goal.returns-clause-stands
returns-clause-stands g c = λ h k.
    let past : Past = past_at (ticked h) in
    let some : 0 < c.lasting-ticks.result = omega arith in
    let bound = c.can_pass.ensures.bound past k c.if-not-can_pass.false in
    let looks = c.tick_inputs_kept-tick_inputs.ensures.looks past k bound in
    c.pass.ensures.stands (ticked h) k bound looks
    (c.lasting-ticks.ensures.lasts past k bound (record { heard = refl; commanded = refl; clock_set = refl })
    (c.can_pass.ensures.beside past k c.if-not-can_pass.false) looks some)

pub returns-clause-plain : goal.returns-clause-plain
returns-clause-plain g c = λ h j k less.
    let past : Past = past_at (ticked h) in
    let some : 0 < c.lasting-ticks.result = omega (arith, less) in
    let bound = c.can_pass.ensures.bound past k c.if-not-can_pass.false in
    lasts-plain j c.lasting-ticks.result c.args.self.now.context.frame.mode (ticked h) less
    (c.lasting-ticks.ensures.lasts past k bound (record { heard = refl; commanded = refl; clock_set = refl })
    (c.can_pass.ensures.beside past k c.if-not-can_pass.false) (c.tick_inputs_kept-tick_inputs.ensures.looks past k bound) some)
