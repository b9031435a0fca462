use Rattle.std.proofs.Common.{◌≡◌, ◌+◌, ◌<◌, pos, ◌∷◌, ◌++◌, if◌then◌else◌, map, ◌∙◌, ap, subst, arith, w32, to_z, of_z}
use Rattle.std.specs.Option.{option_map}
use Rattle.std.proofs.lemmas.Int.{to_z_pos}
use Rattle.sig_types.specs.Items.{texts_of}
use Rattle.scenario_data.specs.Content.{load_content, master_content}
use Rattle.requests.specs.Requests.{messages, status_of}
use Rattle.master_load.specs.Downloads.{frame_text}
use Rattle.master_load.specs.Loading.{with_frame}
use Rattle.master_load.specs.LoaderStands.{LoaderStands}
use Rattle.master_poll.specs.Commands.{count_of, ending, frames_sent}
use Rattle.master_poll.specs.Turns.{next_turn, load_events, told}
use Rattle.master_poll.specs.Notes.{load_notes}
use Rattle.master_poll.specs.Sends.{command_text}
use Rattle.master_poll.specs.CommandStands.{plan_with, sent_by}
use Rattle.master_poll.specs.Hearing.{Hears}
use Rattle.master_poll.proofs.Posting.{frame_is, notes_are, one_more}
use Rattle.master_poll.proofs.channel.Channel.turn.Goals as goal

pub returns-clause-turn : goal.returns-clause-turn
returns-clause-turn c = λ past h.
    let polls = messages (texts_of c.args.arrived.now.polls.items) in
    let loads = messages (texts_of c.args.arrived.now.loads.items) in
    let retries = c.args.s.now.master.retries in
    let community = c.args.s.now.community.items in
    let all = map load_content c.args.s.now.loads.items in
    let plan = plan_with (master_content c.args.s.now.master) c.args.cab c.args.now all in
    let turn = next_turn plan past polls loads in
    let events = told loads (load_events past) in
    let answered : c.answered-answered.result ≡ status_of (ending past polls) =
    c.answered-answered.ensures retries past h.command_state ∙ ap (λ octets. status_of (ending past (messages (texts_of octets)))) c.deref.ensures.value in
    let is = c.turn-turned.ensures.turn past polls loads all h.command_state answered in
    let hears = subst (λ octets. Hears c.hear.new.loader c.args.cab all c.hear.new.notes.items (told (messages (texts_of octets)) (load_events past)) (c.push_pattern.new.notes.items ++ load_notes (load_events past) (messages (texts_of octets))))
    c.deref-2.ensures.value (c.in_ok-hear.ensures c.args.cab all (load_events past) h.loader) in
    let low : sent_by c.turn-turned.new.self + 1 < 2147483648 = omega (arith, c.turn-turned.ensures.one, c.requires.few) in
    let next : to_z w32 (of_z w32 c.next_id-id.result) ≡ pos (sent_by c.turn-turned.new.self + 1) = ap (λ z. to_z w32 (of_z w32 z)) c.next_id-id.ensures ∙ to_z_pos w32 (sent_by c.turn-turned.new.self + 1) low in
    let frame = frame_is c.turn-turned.new.self c.turn-turned.result plan past polls loads (to_z w32 (of_z w32 c.next_id-id.result)) is next in
    let load = c.next-load.ensures.sent events hears.stands ∙ ap (option_map (frame_text community all)) frame in
    let one = one_more c.next-load.result (frame_text community all) turn.frame load in
    record {
      stands = record {
        command_state = record {
          follows = c.count_frame.ensures.follows retries (turn ∷ past) is.follows;
          sent =
              c.count_frame.ensures.sent
              ∙ (ap (λ n. n + (if c.is_some.result then 1 else 0)) (is.sent ∙ ap (λ command. frames_sent past + count_of command) is.command)
              ∙ ap (λ n. frames_sent past + count_of turn.command + n) (ap (λ b. if b then 1 else 0) c.is_some.ensures ∙ one));
        };
        loader = subst (λ f. LoaderStands c.next-load.new.self c.args.cab all (with_frame f events)) frame (c.next-load.ensures.stands events hears.stands);
      };
      poll = c.command_octets.ensures ∙ ap (option_map (command_text community)) is.command;
      load = load;
      notes = notes_are plan past polls loads c.turn-turned.new.self c.turn-turned.result c.hear.new.loader
          c.args.notes.now.items c.push_made.new.notes.items c.push_pattern.new.notes.items c.hear.new.notes.items c.push_made-2.new.notes.items
          is c.in_ok-push_made.ensures c.in_ok-push_pattern.ensures hears.noted c.in_ok-push_made-2.ensures;
    }
