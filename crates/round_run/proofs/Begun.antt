-- A round is begun on one book after another.
use Rattle.std.proofs.Common.{◌≡◌, ◌≢◌, ◌<◌, ◌≤◌, ◌+◌, ◌∙◌, ℕ, suc, List, [], ◌∷◌, length, drop, drop-cons, length-drop, add-one, get_or, slice_set, inl, inr, sym, ap, subst, arith}
use Rattle.std.proofs.lemmas.Bool.{cases_lt}
use Rattle.std.proofs.lemmas.List.{get_or_default, get_or-set_same, get_or-set_other, get_or-map, length-set, length-map}
use Rattle.sig_types.proofs.InTurn.{InTurn, InTurn-set}
use Rattle.scenario_data.specs.Content.{ScenarioContent}
use Rattle.sig_types.specs.declared.streams.Streams.{Streams}
use Rattle.sig_types.specs.Items.{Item, items_of}
use Rattle.cabinet_history.specs.Journals.{times}
use Rattle.run_definition.specs.CabinetState.{CabinetState, coming_streams}
use Rattle.cab_book.specs.declared.book.Book.{Book}
use Rattle.cab_book.specs.Books.{BookStands, CanBeTaken, streams_in, journal_of, left_of, ticks_by_end}
use Rattle.cab_book.proofs.OnePart.{one-tally}
use Rattle.cab_book.proofs.Beginning.{taken-small}
use Rattle.round_run.specs.CabinetStates.{IsAt, AreAt, HasRun, HaveRun, no_journals, TicksWithin}
use Rattle.round_run.specs.Joined.{AreFresh, HaveFewLeft}
use Rattle.round_run.specs.Opening.{CanOpen, AreComing, TicksAtMost, Begins, BeginsSome}

-- an element of a list that has one
some_of : (xs : List Streams) (k : ℕ) → k < length xs → Streams
some_of [] k below = absurd (omega (arith, below))
some_of (x ∷ xs) k below = x

-- the streams that are taken next, and those that are left after them
pub record IsNext (streams rest : List Streams) (k : ℕ) (one : Streams) : Type 0 where
  pub within : k < length streams
  pub own : one ≡ get_or streams k one
  pub left : rest ≡ drop (k + 1) streams

pub next-one : (streams now rest : List Streams) (k : ℕ) (one : Streams) → now ≡ drop k streams → now ≡ one ∷ rest → IsNext streams rest k one
next-one streams now rest k one left is =
    let same : drop k streams ≡ one ∷ rest = sym left ∙ is in
    let within : k < length streams = omega (arith, length-drop k streams, ap length same) in
    let split : drop k streams ≡ get_or streams k one ∷ drop (suc k) streams = drop-cons streams k one within in
    let both : one ∷ rest ≡ get_or streams k one ∷ drop (suc k) streams = sym same ∙ split in
    record {
      within = within;
      own = cc both;
      left = (let later : rest ≡ drop (suc k) streams = cc both in later ∙ ap (λ (n : ℕ). drop n streams) (sym (add-one k)));
    }

pub none-left : (streams now : List Streams) (k : ℕ) → now ≡ drop k streams → length now ≡ 0 → length streams ≤ k
none-left streams now k left none = omega (arith, length-drop k streams, ap length left, none)

-- the book at a place has begun the round
abbrev pub BeginsAt : List Streams → ℕ → Book → Book → Type 0
BeginsAt streams k old new = (one : Streams) → Begins old new (get_or streams k one)

-- the books so far have begun the round, and the others are as before
pub record BegunTo (streams : List Streams) (old now : List Book) (k : ℕ) : Type 0 where
  pub many : length now ≡ length old
  pub each : (b : Book) → InTurn (BeginsAt streams) b old now k

-- one book more: it was as before, and has begun the round
pub begun-more : (streams : List Streams) (old now : List Book) (k : ℕ) (was new : Book) (one : Streams) → k < length old → k < length streams
    → BegunTo streams old now k → was ≡ get_or now k was → one ≡ get_or streams k one → Begins was new one → BegunTo streams old (slice_set now k new) (k + 1)
begun-more streams old now k was new one below within begun is own begins = record {
  many = length-set now k new ∙ begun.many;
  each = λ b.
      let here : k < length now = omega (arith, below, begun.many) in
      let same : was ≡ get_or old k b = is ∙ get_or_default now k was b here ∙ (begun.each b).rest k (omega arith) in
      InTurn-set (BeginsAt streams) b old now k new here (begun.each b)
      (λ other. subst (λ (x : Book). Begins x new (get_or streams k other)) same
      (subst (λ (x : Streams). Begins was new x) (own ∙ get_or_default streams k one other within) begins));
}

pub begins-few : (streams : List Streams) (old now : List Book) (k : ℕ) (was : Book) (one : Streams) → k < length old
    → BegunTo streams old now k → was ≡ get_or now k was → one ≡ get_or streams k one → CanOpen old streams → ticks_by_end was + one.ticks ≤ 4294967294
begins-few streams old now k was one below begun is own can =
    let same : was ≡ get_or old k was = is ∙ (begun.each was).rest k (omega arith) in
    subst (λ (x : Streams). ticks_by_end was + x.ticks ≤ 4294967294) (sym own)
    (subst (λ (b : Book). ticks_by_end b + (get_or streams k one).ticks ≤ 4294967294) (sym same) (can.few k was one below))

-- where memory ran out, the book is as it was
pub begun-some : (streams : List Streams) (old now : List Book) (k : ℕ) (was new : Book) → k < length old
    → BegunTo streams old now k → was ≡ get_or now k was → new ≡ was → BeginsSome old (slice_set now k new) streams
begun-some streams old now k was new below begun is stays = record {
  many = length-set now k new ∙ begun.many;
  each = λ j b one within.
      let here : k < length now = omega (arith, below, begun.many) in
      elim (cases_lt j k) [
        | inl less ↦
            let other : j ≢ k = omega (arith, less) in
            inr (subst (λ (x : Book). Begins (get_or old j b) x (get_or streams j one)) (sym (get_or-set_other now k j new b other)) ((begun.each b).done j less one))
        | inr most ↦ elim (cases_lt k j) [
          | inl more ↦
              let other : j ≢ k = omega (arith, more) in
              inl (get_or-set_other now k j new b other ∙ (begun.each b).rest j (omega (arith, more)))
          | inr least ↦
              let same : k ≡ j = omega (arith, most, least) in
              inl (subst (λ (i : ℕ). get_or (slice_set now k new) i b ≡ get_or old i b) same
              (get_or-set_same now k new b here ∙ stays ∙ is ∙ get_or_default now k was b here ∙ (begun.each b).rest k (omega arith)))
        ]
      ];
}

-- a book that was at what its cabinet had reached has then run nothing of the streams that come
pub begins-run : (s : ScenarioContent) (cab : ℕ) (t : CabinetState) (old new : Book) (one : Streams) → IsAt old t
    → items_of one ≡ coming_streams s cab t → Begins old new one → HasRun s cab t [] new
begins-run s cab t old new one at coming begins = record {
  stands = subst (BookStands new) at.now (begins.stands at.began at.stands);
  streams = begins.streams ∙ coming;
  journal_is = begins.journal;
  one = begins.whole;
}

pub begun-run : (s : ScenarioContent) (ts : List CabinetState) (streams : List Streams) (old now : List Book) (k : ℕ) → length old ≤ k
    → BegunTo streams old now k → AreAt old ts → AreComing s ts streams → HaveRun s ts (no_journals ts) now
begun-run s ts streams old now k all begun at coming = record {
  many = begun.many ∙ at.many;
  as_many = length-map ts (λ t. []);
  each = λ j b t journal below.
      let less : j < k = omega (arith, below, all, at.many) in
      let one : Streams = some_of streams j (omega (arith, below, coming.many)) in
      subst (λ (passes : List ℕ). HasRun s (j + 1) (get_or ts j t) passes (get_or now j b)) (sym (get_or-map (λ (u : CabinetState). []) ts j t journal below))
      (begins-run s (j + 1) (get_or ts j t) (get_or old j b) (get_or now j b) (get_or streams j one) (at.each j b t below) (coming.each j t one below)
      ((begun.each b).done j less one));
}

pub begun-ticks : (streams : List Streams) (old now : List Book) (k most ticks : ℕ) → length old ≤ k → length streams ≡ length old
    → BegunTo streams old now k → TicksWithin most old → TicksAtMost ticks streams → TicksWithin (most + ticks) now
begun-ticks streams old now k most ticks all many begun few short j b below =
    let one : Streams = some_of streams j (omega (arith, below, begun.many, many)) in
    let less : j < k = omega (arith, below, all, begun.many) in
    let begins : Begins (get_or old j b) (get_or now j b) (get_or streams j one) = (begun.each b).done j less one in
    omega (arith, begins.ticks, few j b (omega (arith, below, begun.many)), short j one (omega (arith, below, begun.many, many)))

pub begun-fresh : (streams : List Streams) (old now : List Book) (k : ℕ) → length old ≤ k → length streams ≡ length old → BegunTo streams old now k → AreFresh now
begun-fresh streams old now k all many begun j b below =
    let one : Streams = some_of streams j (omega (arith, below, begun.many, many)) in
    let less : j < k = omega (arith, below, all, begun.many) in
    let begins : Begins (get_or old j b) (get_or now j b) (get_or streams j one) = (begun.each b).done j less one in
    (begins.journal, begins.whole)

-- each book has few items left where its streams are short
begins-small : (b new : Book) (one : Streams) → CanBeTaken one → one.ticks ≤ 2147483648 → Begins b new one → (p : ℕ) → left_of new p ≤ 2147483648
begins-small b new one can few begins p =
    let never : times p (journal_of new) ≡ 0 = ap (times p) begins.journal in
    let many : length (get_or (streams_in new) p []) ≡ length (get_or (items_of one) p []) =
    ap (λ (streams : List (List Item)). length (get_or streams p [])) begins.streams in
    omega (arith, one-tally new begins.whole p, never, many, taken-small one can few p)

pub begun-small : (streams : List Streams) (old now : List Book) (k : ℕ) → length old ≤ k → CanOpen old streams → TicksAtMost 2147483648 streams
    → BegunTo streams old now k → HaveFewLeft now
begun-small streams old now k all can short begun j b below =
    let within : j < length old = omega (arith, below, begun.many) in
    let one : Streams = some_of streams j (omega (arith, within, can.many)) in
    let less : j < k = omega (arith, within, all) in
    begins-small (get_or old j b) (get_or now j b) (get_or streams j one) (can.taken j one within) (short j one (omega (arith, within, can.many)))
    ((begun.each b).done j less one)
