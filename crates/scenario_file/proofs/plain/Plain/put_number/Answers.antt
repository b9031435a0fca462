use Rattle.serde_json.specs.Data.{number, unsigned}
use Rattle.scenario_file.specs.declared.plain.NumberName.TheVariants.{Cabinet, Ped, Preempt, Round, Veh}
use Rattle.scenario_file.specs.Plain.{plain_members}
use Rattle.scenario_file.proofs.Inputs.{at-name, put-cabinet, put-ped, put-preempt, put-round, put-veh}
use Rattle.scenario_file.proofs.plain.Plain.put_number.Goals as goal

pub returns-in-Cabinet : goal.returns-in-Cabinet
returns-in-Cabinet c = at-name c.args.name Cabinet (number (unsigned c.args.whole)) (plain_members c.args.self.now) _ c.in-Cabinet.is (put-cabinet c.args.self.now c.args.whole)

pub returns-in-Ped : goal.returns-in-Ped
returns-in-Ped c = at-name c.args.name Ped (number (unsigned c.args.whole)) (plain_members c.args.self.now) _ c.in-Ped.is (put-ped c.args.self.now c.args.whole)

pub returns-in-Preempt : goal.returns-in-Preempt
returns-in-Preempt c = at-name c.args.name Preempt (number (unsigned c.args.whole)) (plain_members c.args.self.now) _ c.in-Preempt.is (put-preempt c.args.self.now c.args.whole)

pub returns-in-Round : goal.returns-in-Round
returns-in-Round c = at-name c.args.name Round (number (unsigned c.args.whole)) (plain_members c.args.self.now) _ c.in-Round.is (put-round c.args.self.now c.args.whole)

pub returns-in-Veh : goal.returns-in-Veh
returns-in-Veh c = at-name c.args.name Veh (number (unsigned c.args.whole)) (plain_members c.args.self.now) _ c.in-Veh.is (put-veh c.args.self.now c.args.whole)
