use Rattle.std.proofs.Common.{sym, ◌∙◌}
use Rattle.look_back.proofs.Latching.{same_signal-is, signal-on, signal-anew}
use Rattle.look_back.proofs.Pairs.{one-signal}
use Rattle.look_back.proofs.latched.signal_step.Goals as goal

pub returns-then-eq : goal.returns-then-eq
returns-then-eq c =
    let e = one-signal c.args.before c.args.shown (sym (same_signal-is c.args.before c.args.shown) ∙ sym c.eq.ensures ∙ c.if-eq.true) in
    rw e (signal-on c.args.cell c.args.phase c.args.shown c.args.t.now)

pub returns-else-eq : goal.returns-else-eq
returns-else-eq c =
    rw c.signal_cell.ensures
    (signal-anew c.args.cell c.args.phase c.args.before c.args.shown c.args.t.now
    (sym (same_signal-is c.args.before c.args.shown) ∙ sym c.eq.ensures ∙ c.if-eq.false))
