-- What a round by workers makes of the books is what a run with their journals makes of them.
use Rattle.std.proofs.Common.{◌≡◌, ◌<◌, ◌+◌, ◌∙◌, ℕ, zero, suc, List, [], ◌∷◌, length, get_or, refl, sym, ap, subst, arith}
use Rattle.std.specs.List.{AllZip}
use Rattle.std.proofs.lemmas.List.{get_or-map, length-map}
use Rattle.scenario_data.specs.Content.{ScenarioContent}
use Rattle.sig_types.specs.Items.{Item}
use Rattle.cabinet_history.specs.Journals.{IsMerge}
use Rattle.run_definition.specs.CabinetState.{CabinetState, coming_streams}
use Rattle.run_definition.specs.Orders.{EachMerges}
use Rattle.cab_row.specs.Whole.{ComesFrom}
use Rattle.cab_book.specs.declared.book.Book.{Book}
use Rattle.cab_book.specs.Books.{Replays, journal_of, left_of}
use Rattle.round_run.specs.CabinetStates.{HasRun, HaveRun, no_journals, TicksWithin}
use Rattle.round_run.specs.Joined.{journals_in, AreShared, HaveMerged, Finishes}
use Rattle.round_run.proofs.Sharing.{shared-whole}

-- lists that are side by side
module _ {A : Type 0} (R : A → A → Type 0) where
  pub zip-length : (xs ys : List A) → AllZip R xs ys → length ys ≡ length xs
  zip-length [] [] h = refl
  zip-length [] (y ∷ ys) h = absurd h
  zip-length (x ∷ xs) [] h = absurd h
  zip-length (x ∷ xs) (y ∷ ys) h = ap suc (zip-length xs ys h.1)

  pub zip-at : (xs ys : List A) (k : ℕ) (d : A) → k < length xs → AllZip R xs ys → R (get_or xs k d) (get_or ys k d)
  zip-at [] ys k d below h = absurd (omega (arith, below))
  zip-at (x ∷ xs) [] k d below h = absurd h
  zip-at (x ∷ xs) (y ∷ ys) zero d below h = h.0
  zip-at (x ∷ xs) (y ∷ ys) (suc k) d below h = zip-at xs ys k d (omega (arith, below)) h.1

-- a book that workers left comes from the first one
abbrev pub BookComes : Book → Book → Type 0
BookComes first left = ComesFrom journal_of left_of Replays first left

-- once everything that was left has been brought, everything that arrived at the first one has been brought
pub whole-book : (first left now : Book) → BookComes first left → Finishes left now → Finishes first now
whole-book first left now comes finishes = record {
  stands = λ cabinet_history stood. finishes.stands cabinet_history (comes.replays.cabinet_histories cabinet_history stood);
  streams = finishes.streams ∙ comes.replays.streams;
  merges = finishes.merges;
  one = finishes.one;
  ticks = finishes.ticks ∙ comes.replays.ticks;
}

-- it has run the round to come by its journal
run_whole : (s : ScenarioContent) (cab : ℕ) (t : CabinetState) (first now : Book) → HasRun s cab t [] first → Finishes first now → HasRun s cab t (journal_of now) now
run_whole s cab t first now run whole = record {
  stands = whole.stands t.cabinet_history run.stands;
  streams = whole.streams ∙ run.streams;
  journal_is = refl;
  one = whole.one;
}

each_merges : (s : ScenarioContent) (first : ℕ) (ts : List CabinetState) (books : List Book) → length books ≡ length ts
    → ((k : ℕ) (t : CabinetState) (b : Book) → k < length ts → IsMerge (coming_streams s (first + k) (get_or ts k t)) (journal_of (get_or books k b)))
    → EachMerges s first ts (journals_in books)
each_merges s first [] [] many each = tt
each_merges s first [] (b ∷ books) many each = absurd (omega (arith, many))
each_merges s first (t ∷ ts) [] many each = absurd (omega (arith, many))
each_merges s first (t ∷ ts) (b ∷ books) many each =
    let here : first + 0 ≡ first = omega arith in (
      subst (λ (cab : ℕ). IsMerge (coming_streams s cab t) (journal_of b)) here (each 0 t b (omega arith)),
      each_merges s (first + 1) ts books (omega (arith, many)) (λ k u c below.
          let there : first + suc k ≡ first + 1 + k = omega arith in
          subst (λ (cab : ℕ). IsMerge (coming_streams s cab (get_or ts k u)) (journal_of (get_or books k c))) there (each (suc k) u c (omega (arith, below)))),
    )

-- nothing was brought to the book at a place yet
own_round : (s : ScenarioContent) (ts : List CabinetState) (books : List Book) (k : ℕ) (b : Book) (t : CabinetState) → k < length ts
    → HaveRun s ts (no_journals ts) books → HasRun s (k + 1) (get_or ts k t) [] (get_or books k b)
own_round s ts books k b t below have =
    subst (λ (passes : List ℕ). HasRun s (k + 1) (get_or ts k t) passes (get_or books k b)) (get_or-map (λ (u : CabinetState). []) ts k t [] below)
    (have.each k b t [] below)

-- the books have brought everything that arrived at the first ones
pub record AreWhole (old now : List Book) : Type 0 where
  pub many : length now ≡ length old
  pub each : (k : ℕ) (b : Book) → k < length old → Finishes (get_or old k b) (get_or now k b)

pub all-whole : (parts : ℕ) (old shared left now : List Book) → AreShared parts old shared → AllZip BookComes shared left → length now ≡ length left
    → ((k : ℕ) (b : Book) → k < length left → Finishes (get_or left k b) (get_or now k b)) → AreWhole old now
all-whole parts old shared left now so come many finishes =
    let same : length left ≡ length shared = zip-length BookComes shared left come in
    record {
      many = many ∙ same ∙ so.many;
      each = λ k b below.
          let within : k < length shared = omega (arith, below, so.many) in
          shared-whole parts (get_or old k b) (get_or shared k b) (get_or now k b) (so.each k b below)
          (whole-book (get_or shared k b) (get_or left k b) (get_or now k b) (zip-at BookComes shared left k b within come)
          (finishes k b (omega (arith, within, same))));
    }

-- so they have where all of it was left to bring
pub all-at-once : (old now : List Book) → length now ≡ length old → ((k : ℕ) (b : Book) → k < length old → Finishes (get_or old k b) (get_or now k b)) → AreWhole old now
all-at-once old now many finishes = record { many = many; each = finishes }

pub joined-run : (s : ScenarioContent) (ts : List CabinetState) (old now : List Book) → AreWhole old now → HaveRun s ts (no_journals ts) old
    → HaveMerged s ts now
joined-run s ts old now whole have =
    let many : length now ≡ length ts = whole.many ∙ have.many in
    let run : (k : ℕ) (b : Book) (t : CabinetState) → k < length ts → HasRun s (k + 1) (get_or ts k t) (journal_of (get_or now k b)) (get_or now k b) =
    λ k b t below. run_whole s (k + 1) (get_or ts k t) (get_or old k b) (get_or now k b) (own_round s ts old k b t below have)
    (whole.each k b (omega (arith, below, have.many))) in
    record {
      merges = each_merges s 1 ts now many (λ k t b below.
          let number : k + 1 ≡ 1 + k = omega arith in
          subst (λ (cab : ℕ). IsMerge (coming_streams s cab (get_or ts k t)) (journal_of (get_or now k b))) number
          (subst (λ (streams : List (List Item)). IsMerge streams (journal_of (get_or now k b))) (run k b t below).streams
          (whole.each k b (omega (arith, below, have.many))).merges));
      run = record {
        many = many;
        as_many = length-map now journal_of ∙ many;
        each = λ k b t journal below.
            subst (λ (passes : List ℕ). HasRun s (k + 1) (get_or ts k t) passes (get_or now k b))
            (sym (get_or-map journal_of now k b journal (omega (arith, below, many)))) (run k b t below);
      };
    }

pub joined-ticks : (old now : List Book) (most : ℕ) → AreWhole old now → TicksWithin most old → TicksWithin most now
joined-ticks old now most whole few k b below =
    let less : k < length old = omega (arith, below, whole.many) in
    omega (arith, (whole.each k b less).ticks, few k b less)
