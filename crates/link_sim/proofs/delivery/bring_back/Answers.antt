use Rattle.std.proofs.Common.{ap}
use Rattle.sig_types.specs.declared.notes.Way.TheVariants.{Poll, Load, Prio}
use Rattle.scenario_data.specs.declared.scenario.Direction.TheVariants.{Up}
use Rattle.sig_types.specs.Items.{texts_of}
use Rattle.link_sim.specs.Kept.{faults_in}
use Rattle.link_sim.specs.Reaching.{line_up}
use Rattle.link_sim.proofs.Reached.{carried_is, held_is}
use Rattle.link_sim.proofs.delivery.bring_back.Goals as goal

pub returns-clause-stays : goal.returns-clause-stays
returns-clause-stays c = λ cab past are is. c.carry.ensures.again cab Up past are is

pub returns-in_err-arrived-clause-stays : goal.returns-in_err-arrived-clause-stays
returns-in_err-arrived-clause-stays c = λ cab past are is. c.carry.ensures.again cab Up past are is

pub returns-clause-returns : goal.returns-clause-returns
returns-clause-returns c = λ s cab. record {
  arrive = λ past of are is.
      let arrive = c.in_ok-arrived.ensures.arrive cab Up past are is in
      record {
        polls = carried_is (faults_in c.args.lists.now.faults) s.faults of.faults (line_up cab Poll) _ (texts_of c.args.answers.now.polls.items) _ past.polls
            arrive.polls (ap texts_of c.deref.ensures.value);
        loads = carried_is (faults_in c.args.lists.now.faults) s.faults of.faults (line_up cab Load) _ (texts_of c.args.answers.now.loads.items) _ past.loads
            arrive.loads (ap texts_of c.deref-2.ensures.value);
        prios = carried_is (faults_in c.args.lists.now.faults) s.faults of.faults (line_up cab Prio) _ (texts_of c.args.answers.now.prios.items) _ past.prios
            arrive.prios (ap texts_of c.deref-3.ensures.value);
      };
  holds = λ past of are is.
      held_is c.carry.new.self (faults_in c.args.lists.now.faults) cab Up _ (texts_of c.args.answers.now.polls.items) _ (texts_of c.args.answers.now.loads.items)
      _ (texts_of c.args.answers.now.prios.items) past (ap texts_of c.deref.ensures.value) (ap texts_of c.deref-2.ensures.value) (ap texts_of c.deref-3.ensures.value)
      (c.in_ok-arrived.ensures.hold cab Up past are is);
}
