use Rattle.std.proofs.Common.{◌+◌, ◌∙◌, ℕ, List, [], ◌∷◌, arith}
use Rattle.std.proofs.Math.Logic.{∥∥₁_map}
use Rattle.cab_book.specs.Shares.{ticks_left}
use Rattle.cab_book.specs.Rounds.{frames_left, items_left, cabinet_history_after}
use Rattle.cab_book.proofs.Bringing.{room-less}
use Rattle.cab_book.proofs.Beginning.{round-begins, taken-short, all-left}
use Rattle.cab_book.proofs.book.Book.open_round.Goals as goal

pub invariant_of-self : goal.invariant_of-self
invariant_of-self c =
    let b = c.args.self.now in
    let streams = c.args.streams in
    let happened = c.in-Ok.happened in
    let fields : ℕ = c.len-fields.result in
    let polls : ℕ = c.len-polls.result in
    let loads : ℕ = c.len-loads.result in
    let prios : ℕ = c.len-prios.result in
    let left : List ℕ = fields ∷ polls ∷ loads ∷ prios ∷ streams.ticks ∷ 0 ∷ 0 ∷ 0 ∷ [] in
    record {
      placed = ∣ c.requires.can.placed ∣₁;
      short = taken-short streams c.requires.can (omega (arith, c.requires.few));
      tallied = all-left streams c.len-fields.result c.len-polls.result c.len-loads.result c.len-prios.result happened (c.len-fields.ensures ∙ streams.fields.ok.0)
          (c.len-polls.ensures ∙ streams.polls.ok.0) (c.len-loads.ensures ∙ streams.loads.ok.0) (c.len-prios.ensures ∙ streams.prios.ok.0) c.in-Ok.ensures.journal;
      few = omega (arith, c.requires.few);
      room = room-less happened streams.ticks (polls + loads + prios) (fields + (polls + loads + prios) + streams.ticks) (ticks_left left) (frames_left left)
          (items_left left) (omega arith) (omega arith) (omega arith) c.in-Ok.ensures.room;
      some = ∥∥₁_map b.some (λ some. (
        cabinet_history_after b.streams b.happened some.0,
        round-begins b.cabinet.value streams happened (cabinet_history_after b.streams b.happened some.0) c.in-Ok.ensures.journal c.in-Ok.ensures.none.0 c.in-Ok.ensures.none.1
            some.1.cabinet,
      ));
    }
