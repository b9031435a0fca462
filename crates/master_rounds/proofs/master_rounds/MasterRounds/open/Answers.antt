use Rattle.std.proofs.Common.{◌≡◌, length, refl, arith}
use Rattle.std.proofs.lemmas.List.{length-map}
use Rattle.std.proofs.lemmas.Option.{slice_get_within}
use Rattle.scenario_data.specs.Content.{cabinet_content, scenario_content}
use Rattle.master_rounds.proofs.Back.{nothing_at}
use Rattle.master_rounds.proofs.master_rounds.MasterRounds.open.Goals as goal

pub returns-clause-stands : goal.returns-clause-stands
returns-clause-stands c =
    let s = scenario_content c.args.s.now in
    let arrived = c.in-Ok.arrived.items in
    let count : length arrived ≡ length s.cabinets = omega (arith, c.in-Ok.ensures.count, c.len.ensures, length-map c.args.s.now.cabinets.items cabinet_content) in
    record {
      cabinets = count;
      rounds = c.in_ok-master.ensures.rounds;
      counted = λ place low. refl;
      master = c.in_ok-master.ensures.stands;
      link = λ place k there.
          c.in_ok-link.ensures.stands place (omega (arith, slice_get_within s.cabinets place k there, length-map c.args.s.now.cabinets.items cabinet_content));
      arrived = λ place low. nothing_at arrived place c.in-Ok.ensures.none (omega (arith, low, count));
    }
