use Rattle.std.proofs.Common.{◌≡◌, ◌+◌, length, ap, arith, ◌∙◌, replicate, [], ◌∷◌}
use Rattle.sig_types.specs.declared.notes.Way.TheVariants.{Poll, Load, Prio}
use Rattle.scenario_data.specs.declared.scenario.Direction.TheVariants.{Down}
use Rattle.scenario_data.specs.Content.{scenario_content}
use Rattle.scenario_data.specs.Inputs.{inputs_of}
use Rattle.sig_types.specs.Items.{Ticked, texts_of}
use Rattle.link_sim.specs.Kept.{faults_in}
use Rattle.link_sim.specs.Priority.{priority_texts}
use Rattle.link_sim.specs.Reaching.{requested, reaching}
use Rattle.link_sim.specs.Link.{sent_text, sent_past}
use Rattle.link_sim.proofs.Reached.{stream_is, same_streams, held_is}
use Rattle.link_sim.proofs.delivery.deliver.Goals as goal

pub returns-in_err-arrived-clause-stays : goal.returns-in_err-arrived-clause-stays
returns-in_err-arrived-clause-stays c = λ past are is. c.carry.ensures.again c.args.cab Down past are is

pub returns-clause-stays : goal.returns-clause-stays
returns-clause-stays c = λ past are is. c.carry.ensures.again c.args.cab Down past are is

pub returns-in_err-all-clause-stays : goal.returns-in_err-all-clause-stays
returns-in_err-all-clause-stays c = λ past are is. c.carry.ensures.again c.args.cab Down past are is

pub returns-clause-delivers : goal.returns-clause-delivers
returns-clause-delivers c = record {
  reaches = λ polls loads of are is.
      let s = scenario_content c.args.s.now in
      let fs = faults_in c.args.lists.now.faults in
      let past = sent_past s c.args.cab polls loads in
      let requests : texts_of c.deref.result.now ≡ priority_texts s.community s.priority (length polls + 1) c.args.cab =
      ap texts_of c.deref.ensures.value ∙ c.in_ok-requests.ensures of ∙ ap (λ r. priority_texts s.community s.priority r c.args.cab) is in
      let rounds = length (sent_text c.args.sending.now.poll ∷ polls) in
      let load_rounds = length (sent_text c.args.sending.now.load ∷ loads) in
      let newest : c.args.round ≡ rounds = omega (arith, is) in
      let even = are.load_rounds in
      let arrive = c.in_ok-arrived.ensures.arrive c.args.cab Down past are is in
      let load_newest : c.args.round ≡ load_rounds = omega (arith, is, even) in
      same_streams c.in_ok-fields.fields.items (inputs_of rounds c.args.cab s.inputs)
      (texts_of c.in_ok-all.all.polls.items) (reaching s c.args.cab Poll (sent_text c.args.sending.now.poll ∷ polls))
      (texts_of c.in_ok-all.all.loads.items) (reaching s c.args.cab Load (sent_text c.args.sending.now.load ∷ loads))
      (texts_of c.in_ok-all.all.prios.items) (reaching s c.args.cab Prio (sent_text c.args.sending.now.poll ∷ polls))
      (replicate s.ticks Ticked ∷ [])
      (c.in_ok-fields.ensures of ∙ ap (λ r. inputs_of r c.args.cab s.inputs) newest)
      (stream_is fs s of.faults c.args.cab Poll c.args.round rounds _ (sent_text c.args.sending.now.poll) _ _ polls
      (c.in_ok-all.ensures of).polls arrive.polls c.sent-polls.ensures newest)
      (stream_is fs s of.faults c.args.cab Load c.args.round load_rounds _ (sent_text c.args.sending.now.load) _ _ loads
      (c.in_ok-all.ensures of).loads arrive.loads c.sent-loads.ensures load_newest)
      (stream_is fs s of.faults c.args.cab Prio c.args.round rounds _ (priority_texts s.community s.priority (length polls + 1) c.args.cab) _ _
      (requested s c.args.cab (length polls))
      (c.in_ok-all.ensures of).prios arrive.prios requests newest);
  holds = λ polls loads of are is.
      let s = scenario_content c.args.s.now in
      let past = sent_past s c.args.cab polls loads in
      held_is c.carry.new.self (faults_in c.args.lists.now.faults) c.args.cab Down _ (sent_text c.args.sending.now.poll) _ (sent_text c.args.sending.now.load)
      _ (priority_texts s.community s.priority (length polls + 1) c.args.cab) past c.sent-polls.ensures c.sent-loads.ensures
      (ap texts_of c.deref.ensures.value ∙ c.in_ok-requests.ensures of ∙ ap (λ r. priority_texts s.community s.priority r c.args.cab) is)
      (c.in_ok-arrived.ensures.hold c.args.cab Down past are is);
}
