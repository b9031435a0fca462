use Rattle.scenario_file.specs.Growing.{written}
use Rattle.scenario_file.proofs.InputTexts.{behind-veh, behind-ped, behind-preempt}
use Rattle.scenario_file.proofs.written.Written.add_behind.Goals as goal

pub returns-in_ok-add-in-Veh : goal.returns-in_ok-add-in-Veh
returns-in_ok-add-in-Veh c =
    behind-veh c.args.field c.in-Veh.phase c.from.result _ (written c.args.self.now) (written c.add_number.new.self) (written c.add.new.self) c.in-Veh.is c.from.ensures c.in_ok-add_number-in-Veh.ensures
    c.in_ok-add-in-Veh.ensures

pub returns-in_ok-add-in-Ped : goal.returns-in_ok-add-in-Ped
returns-in_ok-add-in-Ped c = behind-ped c.args.field _ (written c.args.self.now) (written c.add-in-Ped.new.self) c.in-Ped.is c.in_ok-add-in-Ped.ensures

pub returns-in_ok-add-in-Preempt : goal.returns-in_ok-add-in-Preempt
returns-in_ok-add-in-Preempt c = behind-preempt c.args.field _ _ (written c.args.self.now) (written c.add-in-Preempt.new.self) c.in-Preempt.is c.in_ok-add-in-Preempt.ensures
