use Rattle.std.proofs.Common.{◌≡◌, ◌+◌, ◌-◌, ◌<◌, ◌∙◌, ◌++◌, ◌∷◌, [], ℕ, List, Option, get_or, slice_set, length, refl, sym, ap, subst, append-nil, arith}
use Rattle.std.proofs.Math.Logic.{∥∥₁_map}
use Rattle.cab_book.specs.Shares.{ticks_left}
use Rattle.cab_book.specs.declared.cabinet.Cabinet.{Cabinet}
use Rattle.cab_book.specs.CabinetStands.{CabinetStands}
use Rattle.cab_book.specs.Rounds.{frames_left, items_left, cabinet_history_after, RoundStands}
use Rattle.cab_book.proofs.Bringing.{Taken, taken, tallied-more, frame-taken, room-less}
use Rattle.cab_book.proofs.Coming.{frame-next, left-of-frames, replied, reply_of}
use Rattle.cab_book.proofs.Ignoring.{same-octets}
use Rattle.arrayvec.specs.ArrayVec.{ArrayVec}
use Rattle.cabinet_history.specs.declared.Load.{Load}
use Rattle.sig_types.specs.Items.{Came, texts_of}
use Rattle.cabinet_history.specs.Coming.{ask_after}
use Rattle.cab_book.specs.Happened.{answered_of, behind, written_of}
use Rattle.cab_book.specs.declared.cabinet.Received.{Received}
use Rattle.sig_types.specs.Passes.{pass_of}
use Rattle.cab_book.specs.declared.happened.Happened.{Happened}
use Rattle.cab_book.specs.Happened.{HappenedGoesOn}
use Rattle.cab_book.proofs.Numbers.{way-above, way-within, way-low}
use Rattle.cab_book.proofs.Adding.{act-next}
use Rattle.cab_book.proofs.book.Book.receive.Goals as goal

-- a pass that is this one has one item less
one-taken : (left : List ℕ) (p pass : ℕ) → p ≡ pass → 0 < get_or left pass 0 → Taken left (slice_set left p (get_or left p 0 - 1)) pass 1
one-taken left p pass same some =
    let has : 0 < get_or left p 0 = subst (λ (q : ℕ). 0 < get_or left q 0) (sym same) some in
    subst (λ (q : ℕ). Taken left (slice_set left p (get_or left p 0 - 1)) q 1) same (taken left p 1 (get_or left p 0 - 1) (omega arith) (omega (arith, has)))

goes-by : (old new : Happened) (p pass : ℕ) (text : Option (ArrayVec ℕ)) (load : Option Load) → p ≡ pass
    → HappenedGoesOn old new p [] (reply_of p text load ∷ []) → HappenedGoesOn old new pass [] (reply_of pass text load ∷ [])
goes-by old new p pass text load same goes = subst (λ (q : ℕ). HappenedGoesOn old new q [] (reply_of q text load ∷ [])) same goes

pub receive-text-requires : goal.receive-text-requires
receive-text-requires c =
    let b = c.args.self.now in
    record {
      some = ∥∥₁_map b.some (λ some. (
        cabinet_history_after b.streams b.happened some.0,
        subst (λ (k : Cabinet). CabinetStands k (cabinet_history_after b.streams b.happened some.0)) (sym c.deref_mut.ensures.value) some.1.cabinet,
      ));
    }

pub add_reply-requires-clause-room : goal.add_reply-requires-clause-room
add_reply-requires-clause-room c =
    let b = c.args.self.now in
    let pass : ℕ = pass_of c.args.way in
    let rest = slice_set b.left c.pass_of-pass.result (get_or b.left c.pass_of-pass.result 0 - 1) in
    let o = one-taken b.left c.pass_of-pass.result pass c.pass_of-pass.ensures c.requires.some in
    let t = frame-taken b.left rest pass (way-above c.args.way) (way-within c.args.way) o in
    room-less b.happened (ticks_left b.left) (frames_left b.left) (items_left b.left) 0 1 1 (omega arith) (omega (arith, t.frames_are)) (omega (arith, t.items_are)) b.room

pub add_reply-requires-clause-few : goal.add_reply-requires-clause-few
add_reply-requires-clause-few c =
    let b = c.args.self.now in
    let low : c.pass_of-pass.result < 4 = omega (arith, c.pass_of-pass.ensures, way-within c.args.way) in
    omega (arith, b.tallied.each c.pass_of-pass.result low, b.short c.pass_of-pass.result)

pub invariant_of-self : goal.invariant_of-self
invariant_of-self c =
    let b = c.args.self.now in
    let same = c.deref_mut.ensures.value in
    let pass : ℕ = pass_of c.args.way in
    let frames = c.frames_of-frames.result.now in
    let goes : HappenedGoesOn b.happened c.add_reply.new.self pass [] (reply_of pass c.receive-text.result.text c.receive-text.result.load ∷ []) =
    goes-by b.happened c.add_reply.new.self c.pass_of-pass.result pass c.receive-text.result.text c.receive-text.result.load c.pass_of-pass.ensures c.add_reply.ensures.goes in
    let next_is : c.next_of-octets.result.now ≡ get_or (texts_of frames) (length frames - get_or b.left pass 0) [] =
    c.next_of-octets.ensures ∙ ap (λ (p : ℕ). get_or (texts_of frames) (length frames - get_or b.left p 0) []) c.pass_of-pass.ensures in
    let rest = slice_set b.left c.pass_of-pass.result (get_or b.left c.pass_of-pass.result 0 - 1) in
    let o = one-taken b.left c.pass_of-pass.result pass c.pass_of-pass.ensures c.requires.some in
    let t = frame-taken b.left rest pass (way-above c.args.way) (way-within c.args.way) o in
    record {
      placed = b.placed;
      short = b.short;
      tallied = tallied-more b.streams b.left rest b.happened c.add_reply.new.self pass 1 o goes.journal b.tallied;
      few = omega (arith, b.few, ap (λ (k : Cabinet). k.ticks) same, c.receive-text.ensures.ticks, t.ticks_are);
      room = c.add_reply.ensures.room (ticks_left rest) (frames_left rest) (items_left rest)
          (room-less b.happened (ticks_left b.left) (frames_left b.left) (items_left b.left) (ticks_left rest) (frames_left rest + 1) (items_left rest + 1)
          (omega (arith, t.ticks_are)) (omega (arith, t.frames_are)) (omega (arith, t.items_are)) b.room);
      some = ∥∥₁_map b.some (λ some. (
        some.0,
        replied c.deref_mut.result.now c.receive-text.new.self b.streams b.left b.happened c.add_reply.new.self pass (length frames - get_or b.left pass 0) frames
            c.next_of-octets.result.now c.receive-text.result.text c.receive-text.result.load (way-low c.args.way) b.tallied c.frames_of-frames.ensures
            (left-of-frames b.streams b.left b.happened pass frames (way-low c.args.way) b.tallied c.frames_of-frames.ensures) c.requires.some next_is c.receive-text.ensures.text c.receive-text.ensures.load c.receive-text.ensures.stands goes some.0
            (subst (λ (k : Cabinet). RoundStands k b.streams b.happened some.0) (sym same) some.1),
      ));
    }

pub returns : goal.returns
returns c =
    let b = c.args.self.now in
    let same = c.deref_mut.ensures.value in
    let pass : ℕ = pass_of c.args.way in
    let frames = c.frames_of-frames.result.now in
    let goes : HappenedGoesOn b.happened c.add_reply.new.self pass [] (reply_of pass c.receive-text.result.text c.receive-text.result.load ∷ []) =
    goes-by b.happened c.add_reply.new.self c.pass_of-pass.result pass c.receive-text.result.text c.receive-text.result.load c.pass_of-pass.ensures c.add_reply.ensures.goes in
    let next_is : c.next_of-octets.result.now ≡ get_or (texts_of frames) (length frames - get_or b.left pass 0) [] =
    c.next_of-octets.ensures ∙ ap (λ (p : ℕ). get_or (texts_of frames) (length frames - get_or b.left p 0) []) c.pass_of-pass.ensures in
    let rest = slice_set b.left c.pass_of-pass.result (get_or b.left c.pass_of-pass.result 0 - 1) in
    let o = one-taken b.left c.pass_of-pass.result pass c.pass_of-pass.ensures c.requires.some in
    record {
      stands = λ cabinet_history so. replied c.deref_mut.result.now c.receive-text.new.self b.streams b.left b.happened c.add_reply.new.self pass (length frames - get_or b.left pass 0) frames
          c.next_of-octets.result.now c.receive-text.result.text c.receive-text.result.load (way-low c.args.way) b.tallied c.frames_of-frames.ensures
          (left-of-frames b.streams b.left b.happened pass frames (way-low c.args.way) b.tallied c.frames_of-frames.ensures) c.requires.some next_is
          c.receive-text.ensures.text c.receive-text.ensures.load c.receive-text.ensures.stands goes cabinet_history
          (subst (λ (k : Cabinet). RoundStands k b.streams b.happened cabinet_history) (sym same) so);
      streams = refl;
      journal = goes.journal;
      acts = act-next b.streams b.happened c.add_reply.new.self pass goes.journal;
      own = o.own;
      others = o.others;
      ticks = omega (
        arith,
        ap (λ (k : Cabinet). k.ticks) same,
        c.receive-text.ensures.ticks,
        (frame-taken b.left rest pass (way-above c.args.way) (way-within c.args.way) o).ticks_are,
      );
      ignored = λ cabinet_history octets so frame asks.
          let now = cabinet_history_after b.streams b.happened cabinet_history in
          let next = c.next_of-octets.result.now in
          let came : Came next ≡ Came octets =
          frame-next b.streams b.left b.happened pass (length frames - get_or b.left pass 0) frames next (way-low c.args.way) b.tallied c.frames_of-frames.ensures
          (left-of-frames b.streams b.left b.happened pass frames (way-low c.args.way) b.tallied c.frames_of-frames.ensures) c.requires.some next_is
          ∙ frame in
          let quiet = c.receive-text.ensures.nothing now (subst (λ (k : Cabinet). CabinetStands k now) (sym same) so.cabinet)
          (ap (λ (x : List ℕ). ask_after now x) (same-octets next octets came) ∙ asks) in
          record {
            cabinet = quiet.0 ∙ same;
            written = goes.written ∙ append-nil (written_of b.happened);
            silence = goes.replies
                ∙ ap (λ (told : Received). answered_of b.happened ++ behind (length (written_of b.happened)) (reply_of pass told.text told.load ∷ [])) quiet.1;
          };
    }
