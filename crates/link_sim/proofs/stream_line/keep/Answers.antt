use Rattle.std.proofs.Common.{◌≡◌, ◌+◌, ◌<◌, refl, arith}
use Rattle.std.proofs.lemmas.Grind.{common_steps}
use Rattle.link_sim.specs.declared.stream_line.Late.{Late}
use Rattle.link_sim.proofs.Dues.{keep_later, keep_now}
use Rattle.link_sim.proofs.stream_line.keep.Goals as goal

pub returns-in_ok-push-clause-later : goal.returns-in_ok-push-clause-later
returns-in_ok-push-clause-later c =
    let copy : Late = record { sent = c.args.round; due = c.from.result + c.from-then-by-gt0.result; octets = c.copied.result } in
    let due : copy.due ≡ c.args.round + c.in-Some-Late.by = grind (arith, common_steps) in
    let some : 0 < c.in-Some-Late.by = grind (arith, common_steps) in
    λ rounds h. let later = keep_later c.args.late.now.items copy c.args.round c.in-Some-Late.by rounds c.args.octets.now.items c.copied.ensures refl due some in
    grind (arith, later, common_steps)

pub returns-in_ok-push-clause-now : goal.returns-in_ok-push-clause-now
returns-in_ok-push-clause-now c =
    let copy : Late = record { sent = c.args.round; due = c.from.result + c.from-then-by-gt0.result; octets = c.copied.result } in
    λ due. let now = keep_now c.args.late.now.items copy c.args.round due refl in
    grind (arith, now, common_steps)
