use Rattle.std.proofs.Common.{◌≡◌, ◌+◌, ◌<◌, ℕ, length, get_or, subst, ap, ◌∙◌, arith}
use Rattle.std.proofs.lemmas.List.{length-map}
use Rattle.std.proofs.lemmas.Option.{slice_get-get_or, slice_get_within}
use Rattle.sig_types.specs.Replies.{replied_on}
use Rattle.scenario_data.specs.Content.{scenario_content}
use Rattle.link_sim.specs.LinkStands.{LinkStands}
use Rattle.master_poll.specs.Masters.{arrived_in}
use Rattle.master_rounds.specs.Rounds.{loads_sent, polls_sent}
use Rattle.master_rounds.specs.Answered.{replied_before}
use Rattle.master_rounds.proofs.Back.{arrived_is, replied_is, some_of}
use Rattle.master_rounds.proofs.Turn.{has_lines}
use Rattle.master_rounds.proofs.master_rounds.MasterRounds.end.Goals as goal

pub returns-in-Ok-clause-stands : goal.returns-in-Ok-clause-stands
returns-in-Ok-clause-stands c = λ s answered replies h are.
    let master_rounds = c.args.self.now in
    let answers = c.args.answers.now in
    let arrived = c.in-Ok.arrived.items in
    let count : length arrived ≡ length s.cabinets = omega (arith, c.in-Ok.ensures.count, master_rounds.same_link, h.cabinets) in
    let given : (place : ℕ) → place < length s.cabinets → place < length answers = λ place low. omega (arith, low, c.requires.each, h.cabinets) in
    let next : (place : ℕ) → place < length s.cabinets → c.args.round ≡ length (replied_before (answered (place + 1))).polls + 1 =
    λ place low. omega (arith, h.counted place low, length-map (answered (place + 1)) (replied_on 1)) in
    record {
      cabinets = count;
      rounds = h.rounds;
      counted = λ place low. omega (arith, h.counted place low);
      master = h.master;
      link = λ place k there.
          let cab = place + 1 in
          let low = slice_get_within s.cabinets place k there in
          let a = some_of answers place (given place low) in
          subst (λ replied. LinkStands c.up.new.self s place (polls_sent s cab k (answered cab)) (loads_sent s cab k (answered cab)) replied)
          (replied_is (get_or answers place a) (replies cab) (answered cab) (are place a (given place low)))
          (c.in-Ok.ensures.stands s place (polls_sent s cab k (answered cab)) (loads_sent s cab k (answered cab)) (replied_before (answered cab))
          (has_lines master_rounds s place k h.cabinets there) (h.link place k there) (next place low) a);
      arrived = λ place low.
          let cab = place + 1 in
          let k = get_or s.cabinets place (some_of s.cabinets place low) in
          let there = slice_get-get_or s.cabinets place (some_of s.cabinets place low) low in
          let polls = polls_sent s cab k (answered cab) in
          let loads = loads_sent s cab k (answered cab) in
          let replied = replied_before (answered cab) in
          let within : place < length arrived = omega (arith, low, count) in
          let a = some_of answers place (given place low) in
          let b = some_of arrived place within in
          let lines = has_lines master_rounds s place k h.cabinets there in
          let arrive = c.in-Ok.ensures.arrive s place polls loads replied lines (h.link place k there) (next place low) a b in
          ap arrived_in (slice_get-get_or arrived place b within)
          ∙ arrived_is s cab (get_or answers place a) (get_or arrived place b) (replies cab) (answered cab) (are place a (given place low))
          arrive.polls arrive.loads;
    }

pub returns-in-Err-clause-again : goal.returns-in-Err-clause-again
returns-in-Err-clause-again c = λ s answered h.
    let master_rounds = c.args.self.now in
    record {
      cabinets = h.cabinets;
      rounds = h.rounds;
      counted = h.counted;
      master = h.master;
      link = λ place k there.
          let cab = place + 1 in
          let low = slice_get_within s.cabinets place k there in
          c.in-Err.ensures.again s place (polls_sent s cab k (answered cab)) (loads_sent s cab k (answered cab)) (replied_before (answered cab))
          (has_lines master_rounds s place k h.cabinets there) (h.link place k there) (omega (arith, h.counted place low, length-map (answered cab) (replied_on 1)));
    }
