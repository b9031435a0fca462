use Rattle.std.proofs.Common.{sym, ◌∙◌}
use Rattle.sig_types.proofs.Same.{same_colour-is}
use Rattle.look_back.proofs.Latching.{colour-on, colour-anew}
use Rattle.look_back.proofs.Pairs.{one-colour}
use Rattle.look_back.proofs.latched.colour_step.Goals as goal

pub returns-then-eq : goal.returns-then-eq
returns-then-eq c =
    let e = one-colour c.args.before c.args.shown (sym (same_colour-is c.args.before c.args.shown) ∙ sym c.eq.ensures ∙ c.if-eq.true) in
    rw e (colour-on c.args.cell c.args.phase c.args.shown c.args.t.now)

pub returns-else-eq : goal.returns-else-eq
returns-else-eq c =
    rw c.colour_cell.ensures
    (colour-anew c.args.cell c.args.phase c.args.before c.args.shown c.args.t.now
    (sym (same_colour-is c.args.before c.args.shown) ∙ sym c.eq.ensures ∙ c.if-eq.false))
