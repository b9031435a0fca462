use Rattle.std.proofs.Common.{◌≡◌, ◌∙◌, ◌-◌, get_or, true, refl, sym, ap}
use Rattle.sig_tables.specs.declared.plan.Plan.{Plan}
use Rattle.sig_tables.specs.Slots.{split_time}
use Rattle.sig_tables.specs.Coordinating.{is_floating}
use Rattle.sig_tables.proofs.Below.{phase-is}
use Rattle.coord_gate.proofs.Plans.{float-at}
use Rattle.coord_gate.proofs.gate.filled.Goals as goal

pub returns-then-plan-clause-filled : goal.returns-then-plan-clause-filled
returns-then-plan-clause-filled c = λ t n plan clear.
    let split : get_or c.args.plan.now.float (c.args.phase - 1) 0 ≡ split_time t n c.args.phase =
    float-at c.args.plan.now t n c.args.phase plan (phase-is _ c.requires.above c.requires.within) in
    let floats : is_floating t ≡ true = sym (ap (λ (x : Plan). x.floating) plan) ∙ c.if-plan.true in
    rw (c.from.ensures, c.from-then-plan.ensures, c.from-then-plan-2.ensures, split, floats, clear) refl
