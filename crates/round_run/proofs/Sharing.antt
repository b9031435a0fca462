-- Ticks of books that are shared among passes, and joined again.
use Rattle.std.proofs.Common.{◌≡◌, ◌<◌, ◌≤◌, ◌+◌, ◌∙◌, ℕ, inl, inr, All, List, [], ◌∷◌, length, get_or, slice_set, refl, sym, ap, subst, arith}
use Rattle.std.specs.Global.{Box}
use Rattle.std.proofs.lemmas.Bool.{cases_lt}
use Rattle.std.proofs.lemmas.List.{ext_get_or, get_or_default, length-set}
use Rattle.sig_types.proofs.InTurn.{InTurn, InTurn-start, InTurn-set}
use Rattle.sig_types.specs.declared.streams.Streams.{Streams}
use Rattle.sig_types.specs.Items.{items_of}
use Rattle.cabinet_history.specs.CabinetHistory.{CabinetHistory}
use Rattle.cab_book.specs.declared.book.Book.{Book}
use Rattle.cab_book.specs.declared.cabinet.Cabinet.{Cabinet}
use Rattle.cab_book.specs.declared.happened.Happened.{Happened}
use Rattle.cab_book.specs.Happened.{journal_in}
use Rattle.cab_book.specs.Rounds.{RoundStands}
use Rattle.cab_book.specs.Books.{BookStands, IsOnePart, Shares, streams_in, journal_of, left_of, ticks_by_end}
use Rattle.cab_book.proofs.Bringing.{pass-within}
use Rattle.round_run.specs.Joined.{AreFresh, AreShared, HaveFewLeft, IsShared, Finishes}

shared-stands : (old new : Book) → Shares old new → (cabinet_history : CabinetHistory) → BookStands old cabinet_history → BookStands new cabinet_history
shared-stands old new is cabinet_history so =
    subst (λ (c : Box Cabinet). RoundStands c.value new.streams new.happened cabinet_history) (sym is.cabinet)
    (subst (λ (s : Streams). RoundStands old.cabinet.value s new.happened cabinet_history) (sym is.streams)
    (subst (λ (h : Happened). RoundStands old.cabinet.value old.streams h cabinet_history) (sym is.happened) so))

shared-streams : (old new : Book) → Shares old new → streams_in new ≡ streams_in old
shared-streams old new is = ap items_of is.streams

shared-journal : (old new : Book) → Shares old new → journal_of new ≡ journal_of old
shared-journal old new is = ap journal_in is.happened

shared-ticks : (old new : Book) → Shares old new → ticks_by_end new ≡ ticks_by_end old
shared-ticks old new is = let same = ap (λ (c : Box Cabinet). c.value.ticks) is.cabinet in omega (arith, same, is.ticks)

shared-small : (old new : Book) → Shares old new → ((p : ℕ) → 8 ≤ p → left_of new p ≡ 0) → IsOnePart old → ((p : ℕ) → left_of old p ≤ 2147483648)
    → (p : ℕ) → left_of new p ≤ 2147483648
shared-small old new is above one few p = elim (cases_lt p 4) [
  | inl low ↦ omega (arith, is.others p low, few p)
  | inr from ↦ elim (cases_lt p 8) [
    | inl less ↦
        omega (arith, pass-within new.left p from (omega (arith, less)), is.ticks, few 4, one 5 (omega arith), one 6 (omega arith), one 7 (omega arith))
    | inr high ↦ omega (arith, above p high)
  ]
]

-- everything that arrived at a book whose ticks were shared is everything that had arrived at it before
pub shared-whole : (parts : ℕ) (old new now : Book) → IsShared parts old new → Finishes new now → Finishes old now
shared-whole parts old new now is finishes = record {
  stands = λ cabinet_history so. finishes.stands cabinet_history (shared-stands old new is.shares cabinet_history so);
  streams = finishes.streams ∙ shared-streams old new is.shares;
  merges = finishes.merges;
  one = finishes.one;
  ticks = finishes.ticks ∙ shared-ticks old new is.shares;
}

-- the books before this place have their ticks shared, and the others are as before
pub record SharedTo (parts : ℕ) (old now : List Book) (k : ℕ) : Type 0 where
  pub many : length now ≡ length old
  pub each : (b : Book) → InTurn (λ j was is. IsShared parts was is) b old now k

pub shared-none : (parts : ℕ) (books : List Book) → SharedTo parts books books 0
shared-none parts books = record { many = refl; each = λ b. InTurn-start (λ j was is. IsShared parts was is) b books }

-- the book at the place is as it was
same-there : (parts : ℕ) (old now : List Book) (k : ℕ) (was b : Book) → k < length old → SharedTo parts old now k → was ≡ get_or now k was → was ≡ get_or old k b
same-there parts old now k was b below so is =
    let here : k < length now = omega (arith, below, so.many) in
    is ∙ get_or_default now k was b here ∙ (so.each b).rest k (omega arith)

pub shared-fresh : (parts : ℕ) (old now : List Book) (k : ℕ) (was : Book) → k < length old → SharedTo parts old now k → was ≡ get_or now k was → AreFresh old
    → journal_of was ≡ []
shared-fresh parts old now k was below so is fresh =
    ap journal_of (same-there parts old now k was was below so is) ∙ (fresh k was below).0

pub shared-more : (parts : ℕ) (old now : List Book) (k : ℕ) (was new : Book) → k < length old → SharedTo parts old now k → was ≡ get_or now k was
    → IsShared parts was new → SharedTo parts old (slice_set now k new) (k + 1)
shared-more parts old now k was new below so is shares = record {
  many = length-set now k new ∙ so.many;
  each = λ b.
      let here : k < length now = omega (arith, below, so.many) in
      InTurn-set (λ j x y. IsShared parts x y) b old now k new here (so.each b)
      (subst (λ (x : Book). IsShared parts x new) (same-there parts old now k was b below so is) shares);
}

pub shared-all : (parts : ℕ) (old now : List Book) (k : ℕ) → length old ≤ k → SharedTo parts old now k → AreShared parts old now
shared-all parts old now k all so = record { many = so.many; each = λ j b below. (so.each b).done j (omega (arith, below, all)) }

pub all-fresh : (parts : ℕ) (old now : List Book) → AreShared parts old now → AreFresh old → All (λ (b : Book). journal_of b ≡ []) now
all-fresh parts old now so fresh k b below =
    let less : k < length old = omega (arith, below, so.many) in
    shared-journal (get_or old k b) (get_or now k b) (so.each k b less).shares ∙ (fresh k b less).0

pub all-small : (parts : ℕ) (old now : List Book) → AreShared parts old now → AreFresh old → HaveFewLeft old → HaveFewLeft now
all-small parts old now so fresh few k b below =
    let less : k < length old = omega (arith, below, so.many) in
    shared-small (get_or old k b) (get_or now k b) (so.each k b less).shares (so.each k b less).above (fresh k b less).1 (few k b less)

-- a book whose ticks are those of one pass again is as it was before they were shared
abbrev pub Undone : Book → Book → Type 0
Undone shared new = (first : Book) → journal_of first ≡ [] → IsOnePart first → Shares first shared → new ≡ first

pub record UndoneTo (old now : List Book) (k : ℕ) : Type 0 where
  pub many : length now ≡ length old
  pub each : (b : Book) → InTurn (λ j was is. Undone was is) b old now k

pub undone-none : (books : List Book) → UndoneTo books books 0
undone-none books = record { many = refl; each = λ b. InTurn-start (λ j was is. Undone was is) b books }

pub undone-more : (old now : List Book) (k : ℕ) (was new : Book) → k < length old → UndoneTo old now k → was ≡ get_or now k was → Undone was new
    → UndoneTo old (slice_set now k new) (k + 1)
undone-more old now k was new below so is undone = record {
  many = length-set now k new ∙ so.many;
  each = λ b.
      let here : k < length now = omega (arith, below, so.many) in
      let same : was ≡ get_or old k b = is ∙ get_or_default now k was b here ∙ (so.each b).rest k (omega arith) in
      InTurn-set (λ j x y. Undone x y) b old now k new here (so.each b) (subst (λ (x : Book). Undone x new) same undone);
}

pub undone-all : (parts : ℕ) (first old now : List Book) (k : ℕ) → length old ≤ k → UndoneTo old now k → AreFresh first → AreShared parts first old → now ≡ first
undone-all parts first old now k all so fresh shared =
    alike now (so.many ∙ shared.many) (λ j b below. (so.each b).done j (omega (arith, below, all, shared.many)) (get_or first j b) (fresh j b below).0 (fresh j b below).1
    (shared.each j b below).shares)
  where
    alike : (now : List Book) → length now ≡ length first → ((j : ℕ) (b : Book) → j < length first → get_or now j b ≡ get_or first j b) → now ≡ first
    alike [] many same = none first many
      where
        none : (xs : List Book) → 0 ≡ length xs → [] ≡ xs
        none [] e = refl
        none (x ∷ xs) e = absurd (omega (arith, e))
    alike (b ∷ books) many same = ext_get_or b (b ∷ books) first many (λ j below. same j b (omega (arith, below, many)))
