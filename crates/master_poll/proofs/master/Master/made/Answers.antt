use Rattle.std.proofs.Common.{◌≡◌, ◌+◌, ◌-◌, ◌<◌, ◌≤◌, Some, [], ◌∷◌, ◌++◌, map, drop, length, refl, sym, subst, ◌∙◌, ap, arith}
use Rattle.std.specs.List.{slice_get}
use Rattle.std.specs.Option.{option_map}
use Rattle.std.proofs.lemmas.Grind.{common_steps}
use Rattle.std.proofs.lemmas.List.{append-nil, drop_all, length-append, length-map}
use Rattle.std.proofs.lemmas.Option.{slice_get-map, slice_get_read}
use Rattle.scenario_data.specs.Content.{cabinet_content, scenario_content}
use Rattle.master_poll.specs.Sends.{turns}
use Rattle.master_poll.specs.Masters.{MasterGoesOn, arrived_in, frames_of, notes_from, sendings_from, with_round}
use Rattle.master_poll.proofs.Rounds.{Taken, now_of, one_more_cabinet, taken}
use Rattle.master_poll.proofs.master.Master.made.Goals as goal

pub loop-place-preserved : goal.loop-place-preserved
loop-place-preserved c =
    let place = c.loop-place.place in
    let channels : c.push.new.self.items ≡ c.loop-place.channels.items ++ c.turn.new.self ∷ [] = c.in_ok-push.ensures.items in
    let sendings : c.push-in-loop-place.new.self.items ≡ c.loop-place.sendings.items ++ c.in_ok-sending.sending ∷ [] = c.in_ok-push-2.ensures.items in
    record {
      count = omega (arith, c.in_ok-push.ensures.len, c.loop-place.invariant.count);
      sent = ap length sendings ∙ omega (arith, c.loop-place.invariant.sent, length-append c.loop-place.sendings.items (c.in_ok-sending.sending ∷ []));
      counted = grind (arith, c.loop-place.invariant.counted, c.in_ok-sending.ensures.two, c.channel_at-channel.ensures.counted, c.requires.order, channels, common_steps);
      goes = λ before h.
          let s = scenario_content c.args.s.now in
          let low : place < length c.args.s.now.cabinets.items = omega (arith, c.loop-place-test.true, c.requires.cabinets) in
          let cabinet = c.index.result.now in
          let content = cabinet_content cabinet in
          let there : slice_get s.cabinets place ≡ Some (cabinet_content cabinet) =
          slice_get-map cabinet_content c.args.s.now.cabinets.items place
          ∙ ap (λ o. option_map cabinet_content o) (slice_get_read c.args.s.now.cabinets.items (length c.args.s.now.cabinets.items) place cabinet refl low c.index.ensures) in
          let at = h place c.channel_at-channel.result content c.channel_at-channel.ensures.channel there in
          let answers = c.index-arrived-place.result in
          let here : place < length c.args.arrived.now = omega (arith, low, c.requires.arrived) in
          let got : slice_get c.args.arrived.now place ≡ Some answers = slice_get_read c.args.arrived.now (length c.args.arrived.now) place answers refl here c.index-arrived-place.is in
          let back : place + 1 - 1 ≡ place = omega arith in
          let arrives : with_round c.args.arrived.now before (place + 1) ≡ arrived_in (Some answers) ∷ before (place + 1) =
          ap (λ o. arrived_in o ∷ before (place + 1)) (ap (slice_get c.args.arrived.now) back ∙ got) in
          let count : length (before (place + 1)) + 1 ≡ c.args.round = omega (arith, at.count, c.requires.order) in
          let now = c.now_at-now.ensures ∙ ap (now_of s content c.args.round) c.master_clock-clock.ensures.clock in
          let posted = c.in_ok-sending.ensures.turn (turns s (place + 1) content (before (place + 1))) at.stands in
          let turn = taken c.turn.new.self c.in_ok-sending.sending c.loop-place.notes.items c.turn.new.notes.items s place c.args.round content (arrived_in (Some answers)) (before (place + 1)) c.now_at-now.result count now posted in
          let done = subst (λ past. Taken c.turn.new.self c.in_ok-sending.sending c.loop-place.notes.items c.turn.new.notes.items s place c.args.round content past) (sym arrives) turn in
          let more = one_more_cabinet c.loop-place.channels.items c.loop-place.sendings.items c.loop-place.notes.items c.turn.new.notes.items s c.args.round place (with_round c.args.arrived.now before)
          c.turn.new.self c.in_ok-sending.sending content (c.loop-place.invariant.goes before h) c.loop-place.invariant.count there done.at done.sends done.noted in
          subst (λ xs. MasterGoesOn xs c.push-in-loop-place.new.self.items c.turn.new.notes.items s c.args.round (place + 1) (with_round c.args.arrived.now before)) (sym channels)
          (subst (λ xs. MasterGoesOn (c.loop-place.channels.items ++ c.turn.new.self ∷ []) xs c.turn.new.notes.items s c.args.round (place + 1) (with_round c.args.arrived.now before)) (sym sendings) more);
    }

pub returns-clause-made : goal.returns-clause-made
returns-clause-made c = λ before h.
    let s = scenario_content c.args.s.now in
    let place = c.loop-place.place in
    let arrived = with_round c.args.arrived.now before in
    let k = c.loop-place.invariant.goes before h in
    let past : length s.cabinets ≤ place = omega (arith, c.loop-place-test.false, c.requires.cabinets, length-map c.args.s.now.cabinets.items cabinet_content) in
    let end : drop place s.cabinets ≡ [] = drop_all place s.cabinets past in
    record {
      stands = k.stands;
      sendings =
          sym (append-nil (map frames_of c.loop-place.sendings.items))
          ∙ (ap (λ cs. map frames_of c.loop-place.sendings.items ++ sendings_from s arrived (place + 1) cs) (sym end) ∙ k.sent);
      notes =
          sym (append-nil c.loop-place.notes.items)
          ∙ (ap (λ cs. c.loop-place.notes.items ++ notes_from s arrived (place + 1) cs) (sym end) ∙ k.noted);
    }
