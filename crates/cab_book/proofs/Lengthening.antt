-- An item more at the end of a stream: what was brought stays the same, and the item is what its pass brings next.
use Rattle.std.proofs.Common.{◌≡◌, ◌≢◌, ◌≤◌, ◌<◌, ◌+◌, ◌∙◌, ℕ, inl, inr, List, [], ◌∷◌, ◌++◌, length, get_or, slice_set, refl, sym, ap, subst, length-append, None, arith}
use Rattle.std.proofs.lemmas.List.{get_or-set_same, get_or-set_other, get_or_append_left}
use Rattle.std.proofs.lemmas.Bool.{cases_lt}
use Rattle.std.proofs.lemmas.Bool.Decides.{eqb_tells}
use Rattle.std.proofs.Math.Seq.{get_or-append_seam}
use Rattle.sig_types.specs.declared.frame.Field.{Field}
use Rattle.sig_types.specs.declared.frame.Frame.{Frame}
use Rattle.sig_types.specs.declared.streams.Streams.{Streams}
use Rattle.sig_types.specs.declared.streams.Stream.{Stream}
use Rattle.sig_types.specs.Passes.{number_of}
use Rattle.sig_types.specs.Items.{Item, Ticked, items_of}
use Rattle.tick_context.specs.CanRun.{NamesPlace}
use Rattle.cabinet_history.specs.declared.Reply.{Reply}
use Rattle.cabinet_history.specs.CabinetHistory.{CabinetHistory, after}
use Rattle.cabinet_history.specs.Coming.{ask_after}
use Rattle.cabinet_history.specs.Journals.{Act, times, act_of, acts_from, acts_of, items_in}
use Rattle.cab_book.specs.declared.book.Book.{Book}
use Rattle.cab_book.specs.declared.cabinet.Cabinet.{Cabinet}
use Rattle.cab_book.specs.declared.happened.Answered.{Answered}
use Rattle.cab_book.specs.declared.happened.Happened.{Happened}
use Rattle.cab_book.specs.CabinetStands.{CabinetStands}
use Rattle.cab_book.specs.Happenings.{interleaved, replies_in, AreInOrder}
use Rattle.cab_book.specs.Happened.{IsSameRound, IsWritten, behind, journal_in, written_of, answered_of}
use Rattle.cab_book.specs.Rounds.{ArePlaced, AreShort, AreTallied, RoundStands, acts_so_far}
use Rattle.cab_book.specs.Books.{BookStands, IsBrought, IsBroughtAtEnd, IsIgnored, IsLengthened, IgnoresWhatAsksNothing, acts_in, answered_in, cabinet_in, cabinet_history_now, journal_of, left_of, next_act, streams_in, ticks_by_end, written_in}
use Rattle.cab_book.specs.Shares.{ticks_left}
use Rattle.cab_book.proofs.Parts.{count-here, count-else}
use Rattle.cab_book.proofs.Bringing.{Taken}
use Rattle.cab_book.proofs.OnePart.{one-stays}

-- `with_last`, at the place of a stream among the others
abbrev pub with_last_at : List (List Item) → ℕ → Item → List (List Item)
with_last_at streams place item = slice_set streams place (get_or streams place [] ++ item ∷ [])

-- the stream of the pass, and another's
pub own-stream : (streams : List (List Item)) (pass : ℕ) (item : Item) → pass < length streams
    → get_or (with_last_at streams pass item) pass [] ≡ get_or streams pass [] ++ item ∷ []
own-stream streams pass item low = get_or-set_same streams pass (get_or streams pass [] ++ item ∷ []) [] low

pub other-stream : (streams : List (List Item)) (pass p : ℕ) (item : Item) → p ≢ pass → get_or (with_last_at streams pass item) p [] ≡ get_or streams p []
other-stream streams pass p item ne = get_or-set_other streams pass p (get_or streams pass [] ++ item ∷ []) [] ne

-- a pass counts the same whether it is before or in what follows
moved : (p q : ℕ) (before journal : List ℕ) → times p (q ∷ before) + times p journal ≡ times p before + times p (q ∷ journal)
moved p q before journal = elim (eqb_tells p q) [
  | inl (t, e) ↦ omega (arith, count-here p q before e, count-here p q journal e)
  | inr (t, ne) ↦ omega (arith, count-else p q before ne, count-else p q journal ne)
]

-- streams whose items are the same as far as a journal goes bring the same
acts-from-same : (streams next : List (List Item)) (before journal : List ℕ)
    → ((p n : ℕ) → n < times p before + times p journal → get_or (get_or next p []) n Ticked ≡ get_or (get_or streams p []) n Ticked)
    → acts_from next before journal ≡ acts_from streams before journal
acts-from-same streams next before [] same = refl
acts-from-same streams next before (q ∷ journal) same =
    let within : times q before < times q before + times q (q ∷ journal) = omega (arith, count-here q q journal refl) in
    let own : act_of next before q ≡ act_of streams before q = ap (λ (i : Item). with_item_of q i) (same q (times q before) within) in
    ap (λ (act : Act). act ∷ acts_from next (q ∷ before) journal) own
    ∙ ap (λ (acts : List Act). act_of streams before q ∷ acts)
    (acts-from-same streams next (q ∷ before) journal (λ p n below. same p n (omega (arith, below, moved p q before journal))))
  where
    with_item_of : ℕ → Item → Act
    with_item_of q i = record { pass = q; item = i }

pub acts-lengthened : (streams : List (List Item)) (journal : List ℕ) (pass : ℕ) (item : Item) → pass < length streams
    → times pass journal ≤ length (get_or streams pass []) → acts_of (with_last_at streams pass item) journal ≡ acts_of streams journal
acts-lengthened streams journal pass item low few = acts-from-same streams (with_last_at streams pass item) [] journal same
  where
    here : (n : ℕ) → n < length (get_or streams pass []) → get_or (get_or (with_last_at streams pass item) pass []) n Ticked ≡ get_or (get_or streams pass []) n Ticked
    here n below =
        ap (λ (x : List Item). get_or x n Ticked) (own-stream streams pass item low)
        ∙ get_or_append_left (get_or streams pass []) (item ∷ []) Ticked n below

    same : (p n : ℕ) → n < times p [] + times p journal → get_or (get_or (with_last_at streams pass item) p []) n Ticked ≡ get_or (get_or streams p []) n Ticked
    same p n below = elim (eqb_tells p pass) [
      | inl (t, e) ↦
          subst (λ (q : ℕ). get_or (get_or (with_last_at streams pass item) q []) n Ticked ≡ get_or (get_or streams q []) n Ticked) (sym e)
          (here n (omega (arith, below, few, ap (λ (q : ℕ). times q journal) e)))
      | inr (t, ne) ↦ ap (λ (x : List Item). get_or x n Ticked) (other-stream streams pass p item ne)
    ]

-- the round of a cabinet is as before, where what was brought and what is kept of it are the same
pub round-same : (c : Cabinet) (streams next : Streams) (old new : Happened) (cabinet_history : CabinetHistory) → acts_so_far next new ≡ acts_so_far streams old
    → written_of new ≡ written_of old → answered_of new ≡ answered_of old → RoundStands c streams old cabinet_history → RoundStands c next new cabinet_history
round-same c streams next old new cabinet_history acts written replies so = record {
  cabinet = subst (λ (x : List Act). CabinetStands c (after cabinet_history (items_in x))) (sym acts) so.cabinet;
  written = subst (IsWritten new cabinet_history) (sym acts) (record {
    frames = written ∙ so.written.frames;
    replies = ap replies_in replies ∙ so.written.replies;
    order = ap (λ (x : List (ℕ × Frame)). interleaved 0 x (answered_of new)) written ∙ ap (interleaved 0 (written_of old)) replies ∙ so.written.order;
    counts = subst (λ (x : List (ℕ × Frame)). AreInOrder 0 (answered_of new) (length x)) (sym written)
        (subst (λ (x : List Answered). AreInOrder 0 x (length (written_of old))) (sym replies) so.written.counts);
  });
}

-- streams with the same items in other memory
module _ (streams next : Streams) (left : List ℕ) (old new : Happened) (same : items_of next ≡ items_of streams) (journal : journal_in new ≡ journal_in old) where
  pub tallied-same : AreTallied streams left old → AreTallied next left new
  tallied-same tallied =
      let long : (p : ℕ) → length (get_or (items_of next) p []) ≡ length (get_or (items_of streams) p []) = λ p.
      ap (λ (x : List (List Item)). length (get_or x p [])) same in
      let count : (p : ℕ) → times p (journal_in new) ≡ times p (journal_in old) = λ p. ap (times p) journal in
      record {
        each = λ p less. omega (arith, long p, count p, tallied.each p less);
        ticks = omega (arith, long 4, count 4, count 5, count 6, count 7, tallied.ticks);
        others = λ p high. omega (arith, count p, tallied.others p high);
      }

  pub acts-same : acts_so_far next new ≡ acts_so_far streams old
  acts-same = ap (λ (x : List (List Item)). acts_of x (journal_in new)) same ∙ ap (acts_of (items_of streams)) journal

pub short-same : (streams next : Streams) → items_of next ≡ items_of streams → AreShort streams → AreShort next
short-same streams next same short p =
    let long : length (get_or (items_of next) p []) ≡ length (get_or (items_of streams) p []) = ap (λ (x : List (List Item)). length (get_or x p [])) same in
    omega (arith, long, short p)

pub placed-same : (streams next : Streams) → next.fields.items ≡ streams.fields.items → ArePlaced streams → ArePlaced next
placed-same streams next same placed k d below =
    let many : length next.fields.items ≡ length streams.fields.items = ap (λ (x : List Field). length x) same in
    subst NamesPlace (ap (λ (x : List Field). get_or x k d) (sym same)) (placed k d (omega (arith, below, many)))

-- one more of a pass is left
pub added : (left : List ℕ) (pass : ℕ) → pass < length left → Taken (slice_set left pass (get_or left pass 0 + 1)) left pass 1
added left pass low = record {
  own = sym (get_or-set_same left pass (get_or left pass 0 + 1) 0 low);
  others = λ p ne. sym (get_or-set_other left pass p (get_or left pass 0 + 1) 0 ne);
}

-- the streams of a round, of which one has an item more, and what is left of them
module _ (streams next : Streams) (pass : ℕ) (item : Item) (low : pass < 4) (longer : items_of next ≡ with_last_at (items_of streams) pass item) where
  own-length : length (get_or (items_of next) pass []) ≡ length (get_or (items_of streams) pass []) + 1
  own-length =
      ap (λ (x : List (List Item)). length (get_or x pass [])) longer
      ∙ ap (λ (x : List Item). length x) (own-stream (items_of streams) pass item (omega (arith, low)))
      ∙ length-append (get_or (items_of streams) pass []) (item ∷ [])

  other-length : (p : ℕ) → p ≢ pass → length (get_or (items_of next) p []) ≡ length (get_or (items_of streams) p [])
  other-length p ne =
      ap (λ (x : List (List Item)). length (get_or x p [])) longer
      ∙ ap (λ (x : List Item). length x) (other-stream (items_of streams) pass p item ne)

  pub tallied-lengthened : (left rest : List ℕ) (old new : Happened) → Taken rest left pass 1 → journal_in new ≡ journal_in old → AreTallied streams left old
      → AreTallied next rest new
  tallied-lengthened left rest old new o journal tallied =
      let same : (p : ℕ) → times p (journal_in new) ≡ times p (journal_in old) = λ p. ap (times p) journal in
      record {
        each = λ p less. elim (eqb_tells p pass) [
          | inl (t, e) ↦
              let own : get_or left p 0 + 1 ≡ get_or rest p 0 = subst (λ (q : ℕ). get_or left q 0 + 1 ≡ get_or rest q 0) (sym e) o.own in
              let more : length (get_or (items_of next) p []) ≡ length (get_or (items_of streams) p []) + 1 =
              subst (λ (q : ℕ). length (get_or (items_of next) q []) ≡ length (get_or (items_of streams) q []) + 1) (sym e) own-length in
              omega (arith, own, more, same p, tallied.each p less)
          | inr (t, ne) ↦ omega (arith, o.others p ne, other-length p ne, same p, tallied.each p less)
        ];
        ticks = omega (
          arith,
          o.others 4 (omega (arith, low)),
          o.others 5 (omega (arith, low)),
          o.others 6 (omega (arith, low)),
          o.others 7 (omega (arith, low)),
          same 4,
          same 5,
          same 6,
          same 7,
          other-length 4 (omega (arith, low)),
          tallied.ticks,
        );
        others = λ p high. omega (arith, o.others p (omega (arith, low, high)), same p, tallied.others p high);
      }

  pub short-lengthened : AreShort streams → length (get_or (items_of streams) pass []) < 2147483648 → AreShort next
  short-lengthened short few p = elim (eqb_tells p pass) [
    | inl (t, e) ↦ subst (λ (q : ℕ). length (get_or (items_of next) q []) ≤ 4294967294) (sym e) (omega (arith, own-length, few))
    | inr (t, ne) ↦ omega (arith, other-length p ne, short p)
  ]

  pub acts-stay : (left : List ℕ) (old new : Happened) → AreTallied streams left old → journal_in new ≡ journal_in old → acts_so_far next new ≡ acts_so_far streams old
  acts-stay left old new tallied journal =
      ap (λ (x : List (List Item)). acts_of x (journal_in new)) longer
      ∙ ap (acts_of (with_last_at (items_of streams) pass item)) journal
      ∙ acts-lengthened (items_of streams) (journal_in old) pass item (omega (arith, low)) (omega (arith, tallied.each pass low))

-- each input has its place, also the new one
pub placed-more : (streams next : Streams) (field : Field) → next.fields.items ≡ streams.fields.items ++ field ∷ [] → NamesPlace field → ArePlaced streams → ArePlaced next
placed-more streams next field longer own placed k d below = elim (cases_lt k (length streams.fields.items)) [
  | inl less ↦
      let same : get_or next.fields.items k d ≡ get_or streams.fields.items k d =
      ap (λ (x : List Field). get_or x k d) longer ∙ get_or_append_left streams.fields.items (field ∷ []) d k less in
      subst NamesPlace (sym same) (placed k d less)
  | inr most ↦
      let many : length next.fields.items ≡ length streams.fields.items + 1 =
      ap (λ (x : List Field). length x) longer ∙ length-append streams.fields.items (field ∷ []) in
      let last : k ≡ length streams.fields.items = omega (arith, most, below, many) in
      let same : get_or next.fields.items k d ≡ field =
      ap (λ (x : List Field). get_or x k d) longer
      ∙ ap (λ (n : ℕ). get_or (streams.fields.items ++ field ∷ []) n d) last
      ∙ get_or-append_seam streams.fields.items field [] d in
      subst NamesPlace (sym same) own
]

-- what a book is now of which nothing has changed but the room and the memory of its streams
pub record Unchanged (old : Book) (c : Cabinet) (streams : Streams) (left : List ℕ) (h : Happened) : Type 0 where
  pub cabinet_histories : (cabinet_history : CabinetHistory) → BookStands old cabinet_history → RoundStands c streams h cabinet_history
  pub no_others : (cabinet_history : CabinetHistory) → RoundStands c streams h cabinet_history → BookStands old cabinet_history
  pub acts : acts_so_far streams h ≡ acts_in old
  pub left_is : (p : ℕ) → get_or left p 0 ≡ left_of old p
  pub ticks : c.ticks + ticks_left left ≡ ticks_by_end old

pub unchanged : (old : Book) (c : Cabinet) (streams : Streams) (left : List ℕ) (h : Happened) → c ≡ cabinet_in old → items_of streams ≡ streams_in old → left ≡ old.left
    → IsSameRound old.happened h → Unchanged old c streams left h
unchanged old c streams left h cabinet longer same_left same =
    let acts : acts_so_far streams h ≡ acts_in old = acts-same old.streams streams old.left old.happened h longer same.journal in
    record {
      cabinet_histories = λ cabinet_history so.
          subst (λ (k : Cabinet). RoundStands k streams h cabinet_history) (sym cabinet)
          (round-same (cabinet_in old) old.streams streams old.happened h cabinet_history acts same.written same.replies so);
      no_others = λ cabinet_history so.
          subst (λ (k : Cabinet). RoundStands k old.streams old.happened cabinet_history) cabinet
          (round-same c streams old.streams h old.happened cabinet_history (sym acts) (sym same.written) (sym same.replies) so);
      acts = acts;
      left_is = λ p. ap (λ (l : List ℕ). get_or l p 0) same_left;
      ticks = omega (arith, ap (λ (k : Cabinet). k.ticks) cabinet, ap ticks_left same_left);
    }

-- what a book is now one of whose streams has an item more, which is left
pub record Longer (old : Book) (c : Cabinet) (streams : Streams) (left : List ℕ) (h : Happened) (pass : ℕ) : Type 0 where
  pub stands : (cabinet_history : CabinetHistory) → BookStands old cabinet_history → RoundStands c streams h cabinet_history
  pub acts : acts_so_far streams h ≡ acts_in old
  pub own : get_or left pass 0 ≡ left_of old pass + 1
  pub others : (p : ℕ) → p ≢ pass → get_or left p 0 ≡ left_of old p
  pub ticks : c.ticks + ticks_left left ≡ ticks_by_end old

pub longer_by : (old : Book) (c : Cabinet) (streams : Streams) (left : List ℕ) (h : Happened) (pass : ℕ) (item : Item) → pass < 4 → c ≡ cabinet_in old
    → items_of streams ≡ with_last_at (streams_in old) pass item → Taken left old.left pass 1 → IsSameRound old.happened h → Longer old c streams left h pass
longer_by old c streams left h pass item low cabinet longer o same =
    let acts : acts_so_far streams h ≡ acts_in old = acts-stay old.streams streams pass item low longer old.left old.happened h old.tallied same.journal in
    record {
      stands = λ cabinet_history so.
          subst (λ (k : Cabinet). RoundStands k streams h cabinet_history) (sym cabinet)
          (round-same (cabinet_in old) old.streams streams old.happened h cabinet_history acts same.written same.replies so);
      acts = acts;
      own = sym o.own;
      others = λ p ne. sym (o.others p ne);
      ticks = omega (
        arith,
        ap (λ (k : Cabinet). k.ticks) cabinet,
        o.others 4 (omega (arith, low)),
        o.others 5 (omega (arith, low)),
        o.others 6 (omega (arith, low)),
        o.others 7 (omega (arith, low)),
      );
    }

-- the item is what its pass brings next
pub brought_at_end : (old mid new : Book) (stream : Stream) (item : Item) → number_of stream < 4 → left_of old (number_of stream) ≡ 0 → IsLengthened old mid stream item → IsBrought mid new (number_of stream)
    → IsBroughtAtEnd old new stream item
brought_at_end old mid new stream item low none longer brought = record {
  stands = λ cabinet_history stood. brought.stands cabinet_history (longer.stands cabinet_history stood);
  streams = brought.streams ∙ longer.streams;
  journal = journal;
  acts = brought.acts
      ∙ ap (λ (acts : List Act). acts ++ next_act mid (number_of stream) ∷ []) longer.acts
      ∙ ap (λ (i : Item). acts_in old ++ act (number_of stream) i ∷ []) own;
  left = left;
  ticks = brought.ticks ∙ longer.ticks;
  one = λ one. one-stays mid new (number_of stream) 1 (omega (arith, low)) brought.journal brought.others
      (λ p high. omega (arith, longer.others p (omega (arith, low, high)), ap (times p) longer.journal, one p high));
  ignored = ignored;
}
  where
    act : ℕ → Item → Act
    act p i = record { pass = p; item = i }

    journal : journal_of new ≡ journal_of old ++ number_of stream ∷ []
    journal = brought.journal ∙ ap (λ (passes : List ℕ). passes ++ number_of stream ∷ []) longer.journal

    place : times (number_of stream) (journal_of mid) ≡ length (get_or (streams_in old) (number_of stream) [])
    place = omega (arith, ap (times (number_of stream)) longer.journal, old.tallied.each (number_of stream) low, none)

    own : get_or (get_or (streams_in mid) (number_of stream) []) (times (number_of stream) (journal_of mid)) Ticked ≡ item
    own =
        ap (λ (x : List (List Item)). get_or (get_or x (number_of stream) []) (times (number_of stream) (journal_of mid)) Ticked) longer.streams
        ∙ ap (λ (x : List Item). get_or x (times (number_of stream) (journal_of mid)) Ticked) (own-stream (streams_in old) (number_of stream) item (omega (arith, low)))
        ∙ ap (λ (n : ℕ). get_or (get_or (streams_in old) (number_of stream) [] ++ item ∷ []) n Ticked) place
        ∙ get_or-append_seam (get_or (streams_in old) (number_of stream) []) item [] Ticked

    left : (p : ℕ) → left_of new p ≡ left_of old p
    left p = elim (eqb_tells p (number_of stream)) [
      | inl (t, e) ↦ subst (λ (q : ℕ). left_of new q ≡ left_of old q) (sym e) (omega (arith, brought.own, longer.own))
      | inr (t, ne) ↦ brought.others p ne ∙ longer.others p ne
    ]

    silence : Reply
    silence = record { pass = number_of stream; text = None; load = None }

    ignored : IgnoresWhatAsksNothing old new (number_of stream) item
    ignored cabinet_history octets stood frame asks =
        let same : cabinet_history_now mid cabinet_history ≡ cabinet_history_now old cabinet_history =
        ap (λ (x : List Act). after cabinet_history (items_in x)) longer.acts in
        let quiet : IsIgnored mid new (number_of stream) = brought.ignored cabinet_history octets (longer.stands cabinet_history stood) (own ∙ frame)
        (ap (λ (h : CabinetHistory). ask_after h octets) same ∙ asks) in
        record {
          cabinet = quiet.cabinet ∙ longer.cabinet;
          written = quiet.written ∙ longer.written;
          silence = quiet.silence
              ∙ ap (λ (x : List Answered). x ++ behind (length (written_in mid)) (silence ∷ [])) longer.answered
              ∙ ap (λ (x : List (ℕ × Frame)). answered_in old ++ behind (length x) (silence ∷ [])) longer.written;
        }
