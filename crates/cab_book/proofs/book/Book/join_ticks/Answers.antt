use Rattle.std.proofs.Common.{◌≡◌, ◌∙◌, ℕ, refl, ap, arith}
use Rattle.std.proofs.Math.Logic.{∥∥₁_map}
use Rattle.cab_book.specs.Happened.{journal_in}
use Rattle.cab_book.specs.Rounds.{frames_left, items_left}
use Rattle.cab_book.specs.Shares.{ticks_left}
use Rattle.cab_book.proofs.Parts.{joined_left, joined-low, joined-again}
use Rattle.cab_book.proofs.Bringing.{few-read, joined-tallied, joined-one, room-less}
use Rattle.cab_book.proofs.Rereading.{round-reread}
use Rattle.cab_book.proofs.Same.{book-same}
use Rattle.cab_book.proofs.book.Book.join_ticks.Goals as goal

pub join_ticks-requires : goal.join_ticks-requires
join_ticks-requires c = let b = c.args.self.now in record { few = λ p. few-read b.streams b.left b.happened p b.tallied b.short }

pub invariant_of-self : goal.invariant_of-self
invariant_of-self c =
    let b = c.args.self.now in
    let e = c.join_ticks.ensures in
    let ticks : ℕ = c.ticks_left-ticks.result in
    let all : ticks ≡ ticks_left b.left = c.ticks_left-ticks.ensures in
    let left = joined_left b.left ticks in
    record {
      placed = b.placed;
      short = b.short;
      tallied = joined-tallied b.streams b.left ticks b.happened c.join_ticks.new.self all b.tallied e.journal;
      few = omega (arith, b.few, all);
      room = e.room (ticks_left left) (frames_left left) (items_left left)
          (room-less b.happened (ticks_left b.left) (frames_left b.left) (items_left b.left) (ticks_left left) (frames_left left) (items_left left)
          (omega (arith, all)) (omega arith) (omega (arith, all)) b.room);
      some = ∥∥₁_map b.some (λ some. (some.0, round-reread b.cabinet.value b.streams b.happened c.join_ticks.new.self some.0 e.journal e.written e.replies some.1));
    }

pub returns : goal.returns
returns c =
    let b = c.args.self.now in
    let e = c.join_ticks.ensures in
    let ticks : ℕ = c.ticks_left-ticks.result in
    let all : ticks ≡ ticks_left b.left = c.ticks_left-ticks.ensures in
    record {
      stands = λ cabinet_history so. round-reread b.cabinet.value b.streams b.happened c.join_ticks.new.self cabinet_history e.journal e.written e.replies so;
      streams = refl;
      journal = e.journal;
      one = λ p from. joined-one b.streams b.left ticks b.happened c.join_ticks.new.self p b.tallied e.journal from;
      own = all;
      others = λ p low. joined-low b.left ticks p low;
      ticks = omega (arith, all);
      undone = λ first none one is.
          book-same _ first is.cabinet is.streams
          (joined-again first.left b.left ticks is.wide is.others (all ∙ is.ticks) (λ p from. omega (arith, one p from)))
          (e.none (ap journal_in is.happened ∙ none) ∙ is.happened);
    }
