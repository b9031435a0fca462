use Rattle.std.proofs.Common.{◌≡◌, ◌+◌, ◌<◌, ℕ, map, length, get_or, Some, None, ap, ◌∙◌, arith}
use Rattle.std.specs.List.{slice_get}
use Rattle.std.proofs.lemmas.Option.{slice_get-get_or, slice_get_within}
use Rattle.sig_types.specs.declared.streams.Sending.{Sending}
use Rattle.sig_types.specs.declared.streams.Streams.{Streams}
use Rattle.sig_types.specs.Items.{items_of}
use Rattle.scenario_data.specs.Content.{CabinetContent, scenario_content}
use Rattle.master_poll.specs.Masters.{frames_of, sendings_of}
use Rattle.master_poll.proofs.Each.{sent_to}
use Rattle.master_rounds.specs.Rounds.{arrivals, streams_of}
use Rattle.master_rounds.specs.Answered.{loads_before, polls_before, replied_before}
use Rattle.master_rounds.proofs.Back.{some_of}
use Rattle.master_rounds.proofs.Heard.{are_inputs}
use Rattle.master_rounds.proofs.Short.{is_short}
use Rattle.master_rounds.proofs.Turn.{comes_next, delivers, has_lines, link_goes, notes_are, round_is}
use Rattle.master_rounds.proofs.master_rounds.MasterRounds.begin.Goals as goal

pub returns-in-Ok-down-clause-begun : goal.returns-in-Ok-down-clause-begun
returns-in-Ok-down-clause-begun c = λ done answered h.
    let s = scenario_content c.args.s.now in
    let master_rounds = c.args.self.now in
    let round = c.in-Ok.next.round in
    let sendings = c.deref-2.result.now in
    let all = c.in-Ok-down.streams.items in
    let is = round_is master_rounds c.deref.result.now c.in-Ok.next.master round s done answered h c.deref.ensures.value c.in-Ok.ensures.round in
    let each : length sendings ≡ length s.cabinets = ap length c.deref-2.ensures.value ∙ omega (arith, c.in-Ok.ensures.each, master_rounds.same_master, h.cabinets) in
    let are : map frames_of sendings ≡ sendings_of s (λ n. arrivals s n (answered n)) = ap (map frames_of) c.deref-2.ensures.value ∙ is.sendings in
    let reached : (place : ℕ) (k : CabinetContent) (e : Streams) → slice_get s.cabinets place ≡ Some k → items_of (get_or all place e) ≡ streams_of s (place + 1) k (answered (place + 1)) =
    λ place k e there.
    let cab = place + 1 in
    let within : place < length sendings = omega (arith, each, slice_get_within s.cabinets place k there) in
    let sending : Sending = record { poll = None; load = None } in
    let sent = sent_to sendings s (λ n. arrivals s n (answered n)) place k sending are there within in
    c.in-Ok-down.ensures.reaches place (polls_before s cab k (answered cab)) (loads_before s cab k (answered cab)) (replied_before (answered cab))
    (has_lines master_rounds s place k h.cabinets there) (h.link place k there) (comes_next master_rounds s done c.args.round answered h c.requires.order place k there) sending e
    ∙ delivers s cab k (answered cab) (get_or sendings place sending) sent in
    let cabinet : (place : ℕ) → place < length s.cabinets → CabinetContent = λ place low. get_or s.cabinets place (some_of s.cabinets place low) in
    let is_there : (place : ℕ) (low : place < length s.cabinets) → slice_get s.cabinets place ≡ Some (cabinet place low) =
    λ place low. slice_get-get_or s.cabinets place (some_of s.cabinets place low) low in
    record {
      notes = is.notes ∙ notes_are s answered 1 s.cabinets;
      count = omega (arith, c.in-Ok-down.ensures.count, master_rounds.same_link, h.cabinets);
      streams = reached;
      short = λ place e low.
          let k = cabinet place low in
          is_short (get_or all place e) s (place + 1) k (answered (place + 1)) (reached place k e (is_there place low)) c.requires.served;
      heard = λ place e low.
          let k = cabinet place low in
          are_inputs (get_or all place e) s (place + 1) k (answered (place + 1)) (reached place k e (is_there place low));
    }

pub returns-in-Ok-down-clause-stands : goal.returns-in-Ok-down-clause-stands
returns-in-Ok-down-clause-stands c = λ done answered h.
    let s = scenario_content c.args.s.now in
    let master_rounds = c.args.self.now in
    let round = c.in-Ok.next.round in
    let sendings = c.deref-2.result.now in
    let is = round_is master_rounds c.deref.result.now c.in-Ok.next.master round s done answered h c.deref.ensures.value c.in-Ok.ensures.round in
    let each : length sendings ≡ length s.cabinets = ap length c.deref-2.ensures.value ∙ omega (arith, c.in-Ok.ensures.each, master_rounds.same_master, h.cabinets) in
    let are : map frames_of sendings ≡ sendings_of s (λ n. arrivals s n (answered n)) = ap (map frames_of) c.deref-2.ensures.value ∙ is.sendings in
    record {
      cabinets = h.cabinets;
      rounds = c.in-Ok.ensures.rounds;
      counted = λ place low. omega (arith, h.counted place low, h.rounds, c.requires.order);
      master = is.stands;
      link = λ place k there.
          let cab = place + 1 in
          let within : place < length sendings = omega (arith, each, slice_get_within s.cabinets place k there) in
          let sending : Sending = record { poll = None; load = None } in
          let sent = sent_to sendings s (λ n. arrivals s n (answered n)) place k sending are there within in
          link_goes c.down.new.self s place k (answered cab) (replied_before (answered cab)) (get_or sendings place sending) sent
          (c.in-Ok-down.ensures.stands place (polls_before s cab k (answered cab)) (loads_before s cab k (answered cab)) (replied_before (answered cab))
          (has_lines master_rounds s place k h.cabinets there) (h.link place k there) (comes_next master_rounds s done c.args.round answered h c.requires.order place k there) sending);
    }

pub returns-in-Err-down-clause-again : goal.returns-in-Err-down-clause-again
returns-in-Err-down-clause-again c = λ done answered h.
    let s = scenario_content c.args.s.now in
    let master_rounds = c.args.self.now in
    record {
      cabinets = h.cabinets;
      rounds = h.rounds;
      counted = h.counted;
      master = h.master;
      link = λ place k there.
          let cab = place + 1 in
          c.in-Err-down.ensures.again place (polls_before s cab k (answered cab)) (loads_before s cab k (answered cab)) (replied_before (answered cab))
          (has_lines master_rounds s place k h.cabinets there) (h.link place k there) (comes_next master_rounds s done c.args.round answered h c.requires.order place k there);
      arrived = h.arrived;
    }
