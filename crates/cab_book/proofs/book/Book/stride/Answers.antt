use Rattle.std.proofs.Common.{◌+◌, ◌-◌, ℕ, get_or, slice_set, option_to_list, refl, sym, ap, subst, arith}
use Rattle.std.proofs.Math.Logic.{∥∥₁_map}
use Rattle.cabinet_history.specs.CabinetHistory.{CabinetHistory}
use Rattle.cab_book.specs.Books.{BookStands}
use Rattle.cab_book.specs.Shares.{ticks_left}
use Rattle.cab_book.specs.declared.cabinet.Cabinet.{Cabinet}
use Rattle.cab_book.specs.CabinetStands.{CabinetStands}
use Rattle.cab_book.specs.Rounds.{frames_left, items_left, cabinet_history_after, RoundStands}
use Rattle.cab_book.proofs.Bringing.{taken, tallied-more, ticks-taken, room-less, few-shared, pass-within}
use Rattle.cab_book.proofs.Coming.{strode}
use Rattle.cab_book.proofs.Adding.{ticks-next}
use Rattle.cab_book.proofs.book.Book.stride.Goals as goal

pub stride-ticks-requires : goal.stride-ticks-requires
stride-ticks-requires c =
    let b = c.args.self.now in
    record {
      some = c.requires.some;
      few = omega (arith, b.few, ap (λ (k : Cabinet). k.ticks) c.deref_mut.ensures.value, pass-within b.left c.args.pass c.requires.above c.requires.below, c.requires.within);
      stood = ∥∥₁_map b.some (λ some. (
        cabinet_history_after b.streams b.happened some.0,
        subst (λ (k : Cabinet). CabinetStands k (cabinet_history_after b.streams b.happened some.0)) (sym c.deref_mut.ensures.value) some.1.cabinet,
      ));
    }

pub add_ticks-requires : goal.add_ticks-requires
add_ticks-requires c =
    let b = c.args.self.now in
    let pass = c.args.pass in
    let m : ℕ = c.stride-ticks.result.0 in
    let e = c.stride-ticks.ensures in
    let rest = slice_set b.left pass (get_or b.left pass 0 - m) in
    let o = taken b.left pass m (get_or b.left pass 0 - m) e.some (omega (arith, e.within, c.requires.within)) in
    let t = ticks-taken b.left rest pass m c.requires.above c.requires.below o in
    record {
      some = e.some;
      room = room-less b.happened (ticks_left b.left) (frames_left b.left) (items_left b.left) 1 0 1 (omega (arith, t.ticks_are, e.some)) (omega arith)
          (omega (arith, t.items_are, e.some)) b.room;
      few = omega (arith, few-shared b.streams b.left b.happened pass b.tallied b.short c.requires.above c.requires.below, e.within, c.requires.within);
    }

pub invariant_of-self : goal.invariant_of-self
invariant_of-self c =
    let b = c.args.self.now in
    let same = c.deref_mut.ensures.value in
    let pass = c.args.pass in
    let m : ℕ = c.stride-ticks.result.0 in
    let e = c.stride-ticks.ensures in
    let rest = slice_set b.left pass (get_or b.left pass 0 - m) in
    let o = taken b.left pass m (get_or b.left pass 0 - m) e.some (omega (arith, e.within, c.requires.within)) in
    let t = ticks-taken b.left rest pass m c.requires.above c.requires.below o in
    record {
      placed = b.placed;
      short = b.short;
      tallied = tallied-more b.streams b.left rest b.happened c.add_ticks.new.self pass m o c.add_ticks.ensures.goes.journal b.tallied;
      few = omega (arith, b.few, ap (λ (k : Cabinet). k.ticks) same, e.ticks, t.ticks_are);
      room = c.add_ticks.ensures.room (ticks_left rest) (frames_left rest) (items_left rest)
          (room-less b.happened (ticks_left b.left) (frames_left b.left) (items_left b.left) (ticks_left rest + m) (frames_left rest) (items_left rest + m)
          (omega (arith, t.ticks_are)) (omega (arith, t.frames_are)) (omega (arith, t.items_are)) b.room);
      some = ∥∥₁_map b.some (λ some. (
        some.0,
        strode c.deref_mut.result.now c.stride-ticks.new.self b.streams b.happened c.add_ticks.new.self pass m (option_to_list c.stride-ticks.result.1) c.requires.above
            e.gives e.stands c.add_ticks.ensures.goes some.0
            (subst (λ (k : Cabinet). RoundStands k b.streams b.happened some.0) (sym same) some.1),
      ));
    }

pub returns : goal.returns
returns c =
    let b = c.args.self.now in
    let same = c.deref_mut.ensures.value in
    let pass = c.args.pass in
    let m : ℕ = c.stride-ticks.result.0 in
    let e = c.stride-ticks.ensures in
    let rest = slice_set b.left pass (get_or b.left pass 0 - m) in
    let o = taken b.left pass m (get_or b.left pass 0 - m) e.some (omega (arith, e.within, c.requires.within)) in
    let t = ticks-taken b.left rest pass m c.requires.above c.requires.below o in
    let stands : (cabinet_history : CabinetHistory) → BookStands b cabinet_history → RoundStands c.stride-ticks.new.self b.streams c.add_ticks.new.self cabinet_history = λ cabinet_history so.
    strode c.deref_mut.result.now c.stride-ticks.new.self b.streams b.happened c.add_ticks.new.self pass m (option_to_list c.stride-ticks.result.1)
    c.requires.above e.gives e.stands c.add_ticks.ensures.goes cabinet_history (subst (λ (k : Cabinet). RoundStands k b.streams b.happened cabinet_history) (sym same) so) in
    record {
      least = λ cabinet_history so. e.least (cabinet_history_after b.streams b.happened cabinet_history)
          (subst (λ (k : Cabinet). CabinetStands k (cabinet_history_after b.streams b.happened cabinet_history)) (sym same) so.cabinet);
      stands = stands;
      streams = refl;
      journal = c.add_ticks.ensures.goes.journal;
      acts = ticks-next b.streams b.happened c.add_ticks.new.self pass m c.requires.above c.add_ticks.ensures.goes.journal;
      own = o.own;
      others = o.others;
      ticks = omega (arith, ap (λ (k : Cabinet). k.ticks) same, e.ticks, t.ticks_are);
      replays = λ first is. record {
        streams = is.streams;
        cabinet_histories = λ cabinet_history so. stands cabinet_history (is.cabinet_histories cabinet_history so);
        ticks = omega (arith, ap (λ (k : Cabinet). k.ticks) same, e.ticks, t.ticks_are, is.ticks);
      };
      some = e.some;
      within = e.within;
    }
