use Rattle.scenario_file.specs.Growing.{written}
use Rattle.scenario_file.proofs.InputTexts.{before-veh, before-ped, before-preempt}
use Rattle.scenario_file.proofs.written.Written.add_before.Goals as goal

pub returns-in_ok-add_flag-in-Veh : goal.returns-in_ok-add_flag-in-Veh
returns-in_ok-add_flag-in-Veh c =
    before-veh c.args.field _ c.in-Veh.on (written c.args.self.now) (written c.add_flag.new.self) c.in-Veh.is c.in_ok-add_flag-in-Veh.ensures

pub returns-in_ok-add_number-in-Ped : goal.returns-in_ok-add_number-in-Ped
returns-in_ok-add_number-in-Ped c =
    before-ped c.args.field c.in-Ped.phase c.from.result (written c.args.self.now) (written c.add_number.new.self) c.in-Ped.is c.from.ensures c.in_ok-add_number-in-Ped.ensures

pub returns-in_ok-add_number-in-Preempt : goal.returns-in_ok-add_number-in-Preempt
returns-in_ok-add_number-in-Preempt c =
    before-preempt c.args.field c.in-Preempt.number c.from-in-Preempt.result c.in-Preempt.on (written c.args.self.now) (written c.add_flag-in-Preempt.new.self) (written c.add_number-in-Preempt.new.self)
    c.in-Preempt.is c.from-in-Preempt.ensures c.in_ok-add_flag-in-Preempt.ensures c.in_ok-add_number-in-Preempt.ensures
