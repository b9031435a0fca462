use Rattle.std.proofs.Common.{◌-◌, refl, ap, subst}
use Rattle.cab_row.specs.Passes.{view_of, HasSeen}
use Rattle.cab_row.proofs.Calls.{brought_one, word_told}
use Rattle.cab_row.proofs.row.Row.act.Goals as goal

pub returns-in-Done-clause-done : goal.returns-in-Done-clause-done
returns-in-Done-clause-done g c = λ _. let e = c.in-Done.ensures in let count = c.in-Done.field-0 in
    brought_one (view_of c.args.pass.now) (view_of c.act_some.new.pass) (c.args.cab - 1) count (e.some count refl).0 (e.some count refl).1 (e.done count refl)

pub returns-in-Busy-clause-seen : goal.returns-in-Busy-clause-seen
returns-in-Busy-clause-seen g c = λ w e. subst (λ n. HasSeen (view_of c.args.pass.now) (view_of c.act_some.new.pass) (c.args.cab - 1) n) (ap word_told e) (c.in-Busy.ensures.seen c.in-Busy.word refl)
