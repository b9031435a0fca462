use Rattle.std.proofs.Common.{sym, ap, subst, arith}
use Rattle.cab_book.specs.declared.cabinet.Cabinet.{Cabinet}
use Rattle.cab_book.specs.Rounds.{RoundStands}
use Rattle.cab_book.proofs.Beginning.{no-items, no-fields, none-left, round-begins}
use Rattle.cab_book.proofs.book.Book.new.Goals as goal

pub invariant_of-result : goal.invariant_of-result
invariant_of-result c =
    let streams = c.no_streams.result in
    let happened = c.none.result in
    record {
      placed = ∣ no-fields streams c.no_streams.ensures ∣₁;
      short = λ p. omega (arith, no-items streams c.no_streams.ensures p);
      tallied = none-left streams happened c.no_streams.ensures c.none.ensures.journal;
      few = omega (arith, ap (λ (k : Cabinet). k.ticks) c.in-Ok.ensures.ok, c.requires.few);
      room = c.none.ensures.room;
      some = ∣ (
        c.requires.some.0,
        subst (λ (k : Cabinet). RoundStands k streams happened c.requires.some.0) (sym c.in-Ok.ensures.ok)
            (round-begins c.args.cabinet streams happened c.requires.some.0 c.none.ensures.journal c.none.ensures.none.0 c.none.ensures.none.1 c.requires.some.1),
      ) ∣₁;
    }
