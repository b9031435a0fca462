use Rattle.std.proofs.Common.{◌≡◌, ◌+◌, ◌∙◌, ℕ, List, length, get_or, slice_set, refl, sym, ap, subst, arith}
use Rattle.std.proofs.Math.Logic.{∥∥₁_map}
use Rattle.sig_types.specs.declared.streams.Streams.{Streams}
use Rattle.sig_types.specs.Items.{InputTold, items_of}
use Rattle.cab_book.specs.declared.cabinet.Cabinet.{Cabinet}
use Rattle.cab_book.specs.Shares.{ticks_left}
use Rattle.cab_book.specs.Rounds.{frames_left, items_left, RoundStands}
use Rattle.cab_book.proofs.Bringing.{Taken, input-taken, room-less}
use Rattle.cab_book.proofs.Lengthening.{added, acts-same, acts-stay, longer_by, placed-more, placed-same, round-same, short-lengthened, short-same, tallied-lengthened, tallied-same, unchanged, with_last_at}
use Rattle.cab_book.proofs.book.Book.add_input.Goals as goal

-- memory ran out for the stream
pub invariant_of-self : goal.invariant_of-self
invariant_of-self c =
    let b = c.reserve_one.new.self in
    let streams = c.push_field.new.streams in
    let e = c.in-Err-push_field.ensures.no_memory in
    record {
      placed = ∥∥₁_map b.placed (placed-same b.streams streams c.in-Err-push_field.ensures.as_before);
      few = b.few;
      room = b.room;
      tallied = tallied-same b.streams streams b.left b.happened b.happened e refl b.tallied;
      short = short-same b.streams streams e b.short;
      some = ∥∥₁_map b.some (λ some. (
        some.0,
        round-same b.cabinet.value b.streams streams b.happened b.happened some.0 (acts-same b.streams streams b.left b.happened b.happened e refl) refl refl some.1,
      ));
    }

pub invariant_of-self-2 : goal.invariant_of-self-2
invariant_of-self-2 c =
    let b = c.args.self.now in
    let r = c.reserve_one.new.self in
    let same = c.reserve_one.ensures.same in
    let streams = c.push_field.new.streams in
    let wide : length r.left ≡ length b.left = ap (λ (l : List ℕ). length l) same.left in
    let left = slice_set r.left 0 (get_or r.left 0 0 + 1) in
    let o : Taken left b.left 0 1 = subst (λ (l : List ℕ). Taken left l 0 1) same.left (added r.left 0 (omega (arith, wide))) in
    let t = input-taken left b.left o in
    let longer : items_of streams ≡ with_last_at (items_of b.streams) 0 (InputTold c.args.field) =
    c.in-Ok-push_field.ensures.items ∙ ap (λ (s : Streams). with_last_at (items_of s) 0 (InputTold c.args.field)) same.streams in
    record {
      placed = ∥∥₁_map r.placed (placed-more r.streams streams c.args.field c.in-Ok-push_field.ensures.fields c.requires.place);
      few = omega (arith, b.few, ap (λ (k : Cabinet). k.ticks) same.cabinet, t.ticks_are);
      room = room-less r.happened (ticks_left b.left) (frames_left b.left + 1) (items_left b.left + 1) (ticks_left left) (frames_left left) (items_left left)
          (omega (arith, t.ticks_are)) (omega (arith, t.frames_are)) (omega (arith, t.items_are)) c.in-Ok.ensures.room;
      tallied = tallied-lengthened b.streams streams 0 (InputTold c.args.field) (omega arith) longer b.left left b.happened r.happened o same.happened.journal b.tallied;
      short = short-lengthened b.streams streams 0 (InputTold c.args.field) (omega arith) longer b.short c.requires.few;
      some = ∥∥₁_map b.some (λ some. (
        some.0,
        subst (λ (k : Cabinet). RoundStands k streams r.happened some.0) (sym same.cabinet)
            (round-same b.cabinet.value b.streams streams b.happened r.happened some.0
            (acts-stay b.streams streams 0 (InputTold c.args.field) (omega arith) longer b.left b.happened r.happened b.tallied same.happened.journal)
            same.happened.written same.happened.replies some.1),
      ));
    }

pub returns-in-Err-clause-no_memory : goal.returns-in-Err-clause-no_memory
returns-in-Err-clause-no_memory c =
    let r = c.reserve_one.new.self in
    let same = c.reserve_one.ensures.same in
    let e = ap items_of same.streams in
    let u = unchanged c.args.self.now r.cabinet.value r.streams r.left r.happened same.cabinet e same.left same.happened in
    record {
      cabinet_histories = u.cabinet_histories;
      no_others = u.no_others;
      streams = e;
      journal = same.happened.journal;
      acts = u.acts;
      written = same.happened.written;
      answered = same.happened.replies;
      left = u.left_is;
      ticks = u.ticks;
    }

pub returns-in-Err-push_field-clause-no_memory : goal.returns-in-Err-push_field-clause-no_memory
returns-in-Err-push_field-clause-no_memory c =
    let r = c.reserve_one.new.self in
    let same = c.reserve_one.ensures.same in
    let e = c.in-Err-push_field.ensures.no_memory ∙ ap items_of same.streams in
    let u = unchanged c.args.self.now r.cabinet.value c.push_field.new.streams r.left r.happened same.cabinet e same.left same.happened in
    record {
      cabinet_histories = u.cabinet_histories;
      no_others = u.no_others;
      streams = e;
      journal = same.happened.journal;
      acts = u.acts;
      written = same.happened.written;
      answered = same.happened.replies;
      left = u.left_is;
      ticks = u.ticks;
    }

pub returns-clause-added : goal.returns-clause-added
returns-clause-added c =
    let b = c.args.self.now in
    let r = c.reserve_one.new.self in
    let same = c.reserve_one.ensures.same in
    let left = slice_set r.left 0 (get_or r.left 0 0 + 1) in
    let wide : length r.left ≡ length b.left = ap (λ (l : List ℕ). length l) same.left in
    let e = c.in-Ok-push_field.ensures.items ∙ ap (λ (s : Streams). with_last_at (items_of s) 0 (InputTold c.args.field)) same.streams in
    let o : Taken left b.left 0 1 = subst (λ (l : List ℕ). Taken left l 0 1) same.left (added r.left 0 (omega (arith, wide))) in
    let u = longer_by b r.cabinet.value c.push_field.new.streams left r.happened 0 (InputTold c.args.field) (omega arith) same.cabinet e o same.happened in
    record {
      stands = u.stands;
      streams = e;
      journal = same.happened.journal;
      acts = u.acts;
      own = u.own;
      others = u.others;
      ticks = u.ticks;
      cabinet = same.cabinet;
      written = same.happened.written;
      answered = same.happened.replies;
    }
