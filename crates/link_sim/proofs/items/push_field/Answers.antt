use Rattle.std.proofs.Common.{rules, sym, append-nil, false, arith}
use Rattle.sig_types.specs.declared.frame.Field.TheVariants.{Veh}
use Rattle.link_sim.specs.Made.{field_made}
use Rattle.link_sim.proofs.Lookups.{made_here, made_past}
use Rattle.link_sim.proofs.items.push_field.Goals as goal

pub returns-then-inputs-place : goal.returns-then-inputs-place
returns-then-inputs-place c =
    let none = made_past field_made c.args.inputs.now c.args.place (omega arith) in
    rw none (sym (append-nil c.args.out.now.items))

pub returns : goal.returns
returns c =
    let one = made_here field_made c.args.inputs.now c.args.place (record { round = 0; cabinet = 0; field = Veh 0 false }) (omega arith) in
    rw one (search rules)
