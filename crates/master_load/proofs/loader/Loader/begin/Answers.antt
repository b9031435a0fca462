use Rattle.std.proofs.Common.{◌≡◌, ◌+◌, ◌≤◌, ◌<◌, map, refl, sym, subst, ◌∙◌, ap, arith, w32, to_z, of_z}
use Rattle.std.proofs.lemmas.List.{drop-map}
use Rattle.std.proofs.lemmas.Int.{to_z-of_z}
use Rattle.std.proofs.lemmas.Grind.{common_steps}
use Rattle.scenario_data.specs.Content.{load_content}
use Rattle.std.specs.List.{slice_get}
use Rattle.master_load.specs.Downloads.{loads_of, load_at}
use Rattle.master_load.specs.Loading.{begun_by, last_frame}
use Rattle.master_load.proofs.Places.{load_there}
use Rattle.master_load.proofs.Begins.{left_from, nothing_begins, next_load, next_left, begins_now, begins_later}
use Rattle.master_load.proofs.loader.Loader.begin.Goals as goal

pub returns-then-self-loads-clause-begins : goal.returns-then-self-loads-clause-begins
returns-then-self-loads-clause-begins c = λ past h.
    let left = left_from c.args.loads.now c.args.cab c.args.self.now.next c.next_place-self.result (begun_by c.args.self.now.sent) c.next_place-self.ensures.none h.rest in
    nothing_begins c.args.loads.now c.args.cab c.args.round c.next_place-self.result c.args.id c.args.self.now.sent (last_frame past) c.if-self-loads.true h.sent left

pub returns-then-self-loads-clause-stands : goal.returns-then-self-loads-clause-stands
returns-then-self-loads-clause-stands c = λ past h.
    let left = left_from c.args.loads.now c.args.cab c.args.self.now.next c.next_place-self.result (begun_by c.args.self.now.sent) c.next_place-self.ensures.none h.rest in
    record {
      sent = h.sent;
      outcome = h.outcome;
      at = h.at;
      rest = ap (loads_of c.args.cab) (drop-map load_content c.next_place-self.result c.args.loads.now) ∙ left;
    }

pub returns-then-round-loads-clause-begins : goal.returns-then-round-loads-clause-begins
returns-then-round-loads-clause-begins c = λ past h.
    let left = left_from c.args.loads.now c.args.cab c.args.self.now.next c.next_place-self.result (begun_by c.args.self.now.sent) c.next_place-self.ensures.none h.rest in
    let load = c.index-loads-self.result in
    let there = next_load c.args.loads.now c.args.cab c.next_place-self.result (begun_by c.args.self.now.sent) load c.if-self-loads.false c.index-loads-self.is c.next_place-self.ensures.first left in
    let later : c.args.round < load.round = rw c.index-loads-self.is c.if-round-loads.true in
    begins_later c.args.loads.now c.args.cab c.args.round c.args.id c.args.self.now.sent (last_frame past) load later h.sent there

pub returns-then-round-loads-clause-stands : goal.returns-then-round-loads-clause-stands
returns-then-round-loads-clause-stands c = λ past h.
    let left = left_from c.args.loads.now c.args.cab c.args.self.now.next c.next_place-self.result (begun_by c.args.self.now.sent) c.next_place-self.ensures.none h.rest in
    record {
      sent = h.sent;
      outcome = h.outcome;
      at = h.at;
      rest = ap (loads_of c.args.cab) (drop-map load_content c.next_place-self.result c.args.loads.now) ∙ left;
    }

pub returns-clause-begins : goal.returns-clause-begins
returns-clause-begins c = λ past h.
    let left = left_from c.args.loads.now c.args.cab c.args.self.now.next c.next_place-self.result (begun_by c.args.self.now.sent) c.next_place-self.ensures.none h.rest in
    let load = c.index-loads-self.result in
    let there = next_load c.args.loads.now c.args.cab c.next_place-self.result (begun_by c.args.self.now.sent) load c.if-self-loads.false c.index-loads-self.is c.next_place-self.ensures.first left in
    let come : load.round ≤ c.args.round = rw c.index-loads-self.is c.if-round-loads.false in
    let id : to_z w32 (of_z w32 c.args.id) ≡ c.args.id = to_z-of_z w32 c.args.id c.ranges.id in
    rw (id, c.begun-begun.ensures.begun) (begins_now c.args.loads.now c.args.cab c.args.round c.args.id c.args.self.now.sent (last_frame past) load come h.sent there)

pub returns-clause-stands : goal.returns-clause-stands
returns-clause-stands c = λ past h.
    let left = left_from c.args.loads.now c.args.cab c.args.self.now.next c.next_place-self.result (begun_by c.args.self.now.sent) c.next_place-self.ensures.none h.rest in
    let load = c.index-loads-self.result in
    let there = next_load c.args.loads.now c.args.cab c.next_place-self.result (begun_by c.args.self.now.sent) load c.if-self-loads.false c.index-loads-self.is c.next_place-self.ensures.first left in
    record {
      sent = refl;
      outcome = refl;
      at = λ x e.
          let number : begun_by c.args.self.now.sent + 1 ≡ x.load = grind (arith, e, c.begun-begun.ensures.begun, common_steps) in
          subst (λ n. load_at (loads_of c.args.cab (map load_content c.args.loads.now)) n ≡ slice_get (map load_content c.args.loads.now) c.next_place-self.result) number
          (there ∙ sym (load_there c.args.loads.now c.next_place-self.result load c.if-self-loads.false c.index-loads-self.is));
      rest = rw c.begun-begun.ensures.begun (next_left c.args.loads.now c.args.cab c.next_place-self.result (begun_by c.args.self.now.sent) load c.if-self-loads.false c.index-loads-self.is c.next_place-self.ensures.first left);
    }
