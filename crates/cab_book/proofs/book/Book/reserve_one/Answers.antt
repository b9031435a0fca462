use Rattle.std.proofs.Common.{◌+◌, ℕ, get_or, refl, arith}
use Rattle.std.proofs.Math.Logic.{∥∥₁_map}
use Rattle.cab_book.specs.Shares.{ticks_left}
use Rattle.cab_book.specs.Rounds.{frames_left, items_left}
use Rattle.cab_book.proofs.Bringing.{room-less}
use Rattle.cab_book.proofs.Lengthening.{acts-same, round-same, tallied-same}
use Rattle.cab_book.proofs.book.Book.reserve_one.Goals as goal

pub invariant_of-self : goal.invariant_of-self
invariant_of-self c =
    let b = c.args.self.now in
    let h = c.reserve.new.self in
    let same = c.reserve.ensures.same in
    record {
      placed = b.placed;
      few = b.few;
      room = c.reserve.ensures.kept (ticks_left b.left) (frames_left b.left) (items_left b.left) b.room;
      tallied = tallied-same b.streams b.streams b.left b.happened h refl same.journal b.tallied;
      short = b.short;
      some = ∥∥₁_map b.some (λ some. (
        some.0,
        round-same b.cabinet.value b.streams b.streams b.happened h some.0 (acts-same b.streams b.streams b.left b.happened h refl same.journal) same.written same.replies some.1,
      ));
    }

pub returns-in-Ok-clause-room : goal.returns-in-Ok-clause-room
returns-in-Ok-clause-room c =
    let b = c.args.self.now in
    let ticks : ℕ = ticks_left b.left in
    let frames : ℕ = get_or b.left 1 0 + get_or b.left 2 0 + get_or b.left 3 0 + 1 in
    let items : ℕ = get_or b.left 0 0 + frames + c.ticks_left.result in
    room-less c.reserve.new.self ticks frames items ticks (frames_left b.left + 1) (items_left b.left + 1) (omega arith) (omega arith) (omega (arith, c.ticks_left.ensures))
    (c.in-Ok.ensures.room ticks (room-less b.happened ticks (frames_left b.left) (items_left b.left) ticks 0 0 (omega arith) (omega arith) (omega arith) b.room))
