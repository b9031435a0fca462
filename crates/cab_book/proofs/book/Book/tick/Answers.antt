use Rattle.std.proofs.Common.{◌+◌, ◌-◌, get_or, slice_set, option_to_list, refl, sym, ap, subst, arith}
use Rattle.std.proofs.Math.Logic.{∥∥₁_map}
use Rattle.cab_book.specs.Shares.{ticks_left}
use Rattle.cab_book.specs.declared.cabinet.Cabinet.{Cabinet}
use Rattle.cab_book.specs.CabinetStands.{CabinetStands}
use Rattle.cab_book.specs.Rounds.{frames_left, items_left, cabinet_history_after, RoundStands}
use Rattle.cab_book.proofs.Bringing.{taken, tallied-more, ticks-taken, room-less, few-shared}
use Rattle.cab_book.proofs.Coming.{strode}
use Rattle.cabinet_history.specs.Journals.{times}
use Rattle.cab_book.specs.Happened.{journal_in}
use Rattle.cab_book.proofs.Ignoring.{tick-no-frame}
use Rattle.cab_book.proofs.Adding.{act-next}
use Rattle.cab_book.proofs.book.Book.tick.Goals as goal

pub tick-written-requires-clause-some : goal.tick-written-requires-clause-some
tick-written-requires-clause-some c =
    let b = c.args.self.now in
    ∥∥₁_map b.some (λ some. (
      cabinet_history_after b.streams b.happened some.0,
      subst (λ (k : Cabinet). CabinetStands k (cabinet_history_after b.streams b.happened some.0)) (sym c.deref_mut.ensures.value) some.1.cabinet,
    ))

pub add_ticks-requires-clause-few : goal.add_ticks-requires-clause-few
add_ticks-requires-clause-few c =
    let b = c.args.self.now in
    omega (arith, few-shared b.streams b.left b.happened c.args.pass b.tallied b.short c.requires.ticks.0 c.requires.ticks.1, c.requires.some)

pub invariant_of-self : goal.invariant_of-self
invariant_of-self c =
    let b = c.args.self.now in
    let same = c.deref_mut.ensures.value in
    let pass = c.args.pass in
    let rest = slice_set b.left pass (get_or b.left pass 0 - 1) in
    let o = taken b.left pass 1 (get_or b.left pass 0 - 1) (omega arith) (omega (arith, c.requires.some)) in
    let t = ticks-taken b.left rest pass 1 c.requires.ticks.0 c.requires.ticks.1 o in
    record {
      placed = b.placed;
      short = b.short;
      tallied = tallied-more b.streams b.left rest b.happened c.add_ticks.new.self pass 1 o c.add_ticks.ensures.goes.journal b.tallied;
      few = omega (arith, b.few, ap (λ (k : Cabinet). k.ticks) same, c.tick-written.ensures.ticks, t.ticks_are);
      room = c.add_ticks.ensures.room (ticks_left rest) (frames_left rest) (items_left rest)
          (room-less b.happened (ticks_left b.left) (frames_left b.left) (items_left b.left) (ticks_left rest + 1) (frames_left rest) (items_left rest + 1)
          (omega (arith, t.ticks_are)) (omega (arith, t.frames_are)) (omega (arith, t.items_are)) b.room);
      some = ∥∥₁_map b.some (λ some. (
        some.0,
        strode c.deref_mut.result.now c.tick-written.new.self b.streams b.happened c.add_ticks.new.self pass 1 (option_to_list c.tick-written.result) c.requires.ticks.0
            c.tick-written.ensures.gives c.tick-written.ensures.stands c.add_ticks.ensures.goes some.0
            (subst (λ (k : Cabinet). RoundStands k b.streams b.happened some.0) (sym same) some.1),
      ));
    }

pub returns : goal.returns
returns c =
    let b = c.args.self.now in
    let same = c.deref_mut.ensures.value in
    let pass = c.args.pass in
    let rest = slice_set b.left pass (get_or b.left pass 0 - 1) in
    let o = taken b.left pass 1 (get_or b.left pass 0 - 1) (omega arith) (omega (arith, c.requires.some)) in
    record {
      stands = λ cabinet_history so. strode c.deref_mut.result.now c.tick-written.new.self b.streams b.happened c.add_ticks.new.self pass 1 (option_to_list c.tick-written.result)
          c.requires.ticks.0 c.tick-written.ensures.gives c.tick-written.ensures.stands c.add_ticks.ensures.goes cabinet_history
          (subst (λ (k : Cabinet). RoundStands k b.streams b.happened cabinet_history) (sym same) so);
      streams = refl;
      journal = c.add_ticks.ensures.goes.journal;
      acts = act-next b.streams b.happened c.add_ticks.new.self pass c.add_ticks.ensures.goes.journal;
      own = o.own;
      others = o.others;
      ticks = omega (arith, ap (λ (k : Cabinet). k.ticks) same, c.tick-written.ensures.ticks, (ticks-taken b.left rest pass 1 c.requires.ticks.0 c.requires.ticks.1 o).ticks_are);
      ignored = λ cabinet_history octets so frame asks. absurd (tick-no-frame b.streams pass (times pass (journal_in b.happened)) octets c.requires.ticks.0 frame);
    }
