use Rattle.std.proofs.Common.{◌≡◌, ◌<◌, ◌+◌, ◌-◌, get_or, slice_set, length, refl, sym, ap, subst, arith}
use Rattle.std.proofs.Math.Logic.{∥∥₁_map, ∥∥₁_elim}
use Rattle.tick_context.specs.CanRun.{NamesPlace}
use Rattle.cab_book.specs.Shares.{ticks_left}
use Rattle.cab_book.specs.declared.cabinet.Cabinet.{Cabinet}
use Rattle.cab_book.specs.Rounds.{frames_left, items_left, RoundStands}
use Rattle.cab_book.proofs.Bringing.{taken, tallied-more, input-taken, room-less}
use Rattle.cab_book.proofs.Coming.{NamesPlace-prop, left-of-fields, heard}
use Rattle.cabinet_history.specs.Journals.{times}
use Rattle.cab_book.specs.Happened.{journal_in}
use Rattle.cab_book.proofs.Ignoring.{input-no-frame}
use Rattle.cab_book.proofs.Adding.{act-next}
use Rattle.cab_book.proofs.book.Book.hear.Goals as goal

pub hear-requires : goal.hear-requires
hear-requires c =
    let b = c.args.self.now in
    let place = c.len.result - get_or b.left 0 0 in
    let less : place < length b.streams.fields.items = omega (arith, c.len.ensures, b.streams.fields.ok.0, c.requires, left-of-fields b.streams b.left b.happened b.tallied) in
    record {
      place = ∥∥₁_elim b.placed (NamesPlace-prop c.index.result.now) (λ placed.
          subst NamesPlace (sym c.index.ensures) (placed place c.index.result.now less));
    }

pub invariant_of-self : goal.invariant_of-self
invariant_of-self c =
    let b = c.args.self.now in
    let same = c.deref_mut.ensures.value in
    let rest = slice_set b.left 0 (get_or b.left 0 0 - 1) in
    let o = taken b.left 0 1 (get_or b.left 0 0 - 1) (omega arith) (omega (arith, c.requires)) in
    let t = input-taken b.left rest o in
    let place : (c.len.result - get_or b.left 0 0) + get_or b.left 0 0 ≡ length b.streams.fields.items =
    omega (arith, c.len.ensures, b.streams.fields.ok.0, left-of-fields b.streams b.left b.happened b.tallied) in
    record {
      placed = b.placed;
      short = b.short;
      tallied = tallied-more b.streams b.left rest b.happened c.add_input.new.self 0 1 o c.add_input.ensures.goes.journal b.tallied;
      few = omega (arith, b.few, ap (λ (k : Cabinet). k.ticks) same, c.hear.ensures.ticks, t.ticks_are);
      room = c.add_input.ensures.room (ticks_left rest) (frames_left rest) (items_left rest)
          (room-less b.happened (ticks_left b.left) (frames_left b.left) (items_left b.left) (ticks_left rest) (frames_left rest) (items_left rest + 1)
          (omega (arith, t.ticks_are)) (omega (arith, t.frames_are)) (omega (arith, t.items_are)) b.room);
      some = ∥∥₁_map b.some (λ some. (
        some.0,
        heard c.deref_mut.result.now c.hear.new.self b.streams b.left b.happened c.add_input.new.self c.index.result.now (c.len.result - get_or b.left 0 0) b.tallied place
            c.requires c.index.ensures c.hear.ensures.stands c.add_input.ensures.goes some.0
            (subst (λ (k : Cabinet). RoundStands k b.streams b.happened some.0) (sym same) some.1),
      ));
    }

pub returns : goal.returns
returns c =
    let b = c.args.self.now in
    let same = c.deref_mut.ensures.value in
    let o = taken b.left 0 1 (get_or b.left 0 0 - 1) (omega arith) (omega (arith, c.requires)) in
    let place : (c.len.result - get_or b.left 0 0) + get_or b.left 0 0 ≡ length b.streams.fields.items =
    omega (arith, c.len.ensures, b.streams.fields.ok.0, left-of-fields b.streams b.left b.happened b.tallied) in
    record {
      stands = λ cabinet_history so. heard c.deref_mut.result.now c.hear.new.self b.streams b.left b.happened c.add_input.new.self c.index.result.now (c.len.result - get_or b.left 0 0) b.tallied place
          c.requires c.index.ensures c.hear.ensures.stands c.add_input.ensures.goes cabinet_history
          (subst (λ (k : Cabinet). RoundStands k b.streams b.happened cabinet_history) (sym same) so);
      streams = refl;
      journal = c.add_input.ensures.goes.journal;
      acts = act-next b.streams b.happened c.add_input.new.self 0 c.add_input.ensures.goes.journal;
      own = o.own;
      others = o.others;
      ticks = omega (arith, ap (λ (k : Cabinet). k.ticks) same, c.hear.ensures.ticks, (input-taken b.left (slice_set b.left 0 (get_or b.left 0 0 - 1)) o).ticks_are);
      ignored = λ cabinet_history octets so frame asks. absurd (input-no-frame b.streams (times 0 (journal_in b.happened)) octets frame);
    }
