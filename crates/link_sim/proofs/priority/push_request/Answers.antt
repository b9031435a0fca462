use Rattle.std.proofs.Common.{sym, append-nil, arith}
use Rattle.std.proofs.lemmas.Grind.{common_steps}
use Rattle.scenario_data.specs.declared.scenario.PriorityAct.TheVariants.{Request as RequestAct}
use Rattle.sig_types.specs.Items.{texts_of}
use Rattle.link_sim.specs.Made.{request_made}
use Rattle.link_sim.proofs.Lookups.{made_here, made_past}
use Rattle.link_sim.proofs.priority.push_request.Goals as goal

pub returns-then-items-place : goal.returns-then-items-place
returns-then-items-place c =
    let none = made_past (request_made c.args.community.now.items) c.args.items.now c.args.place (omega arith) in
    rw none (sym (append-nil (texts_of c.args.out.now.items)))

pub returns : goal.returns
returns c =
    let one = made_here (request_made c.args.community.now.items) c.args.items.now c.args.place
    (record { round = 0; cabinet = 0; act = RequestAct (record { number = 0; class = 0; level = 0; phase = 0; arrival = 0; departure = 0 }) }) (omega arith) in
    rw one (grind (arith, common_steps))
