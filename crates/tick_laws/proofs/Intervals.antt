-- Intervals: for how many moments a test has held, and by which tables. What is shown of a colour is shown of a signal.
use Rattle.std.proofs.Common.{◌≡◌, ◌+◌, ℕ, ◌<◌, Bool, true, false, if◌then◌else◌, List, [], ◌∷◌, refl, arith}
use Rattle.std.proofs.lemmas.Bool.{both_ways}
use Rattle.sig_types.specs.declared.frame.Frame.{Frame}
use Rattle.sig_tables.specs.declared.tables.Tables.{Tables}
use Rattle.sig_tables.specs.Past.{Moment, first_frame}
use Rattle.sig_tables.specs.Looking.{in_a_row, begun, last_frame}
use Rattle.tick_laws.specs.Each.{EachMoment}

-- a rule for the tables at the first moment of an interval and its length so far is kept at each moment
abbrev pub Counted : (Moment → Bool) → (Tables → ℕ → Type 0) → List Moment → Moment → Type 0
Counted test keeps past m = keeps (begun test m.tables (m ∷ past)) (in_a_row test (m ∷ past))

-- what is kept at each moment is kept after them, whatever tables are then in force
pub so-far : (test : Moment → Bool) (keeps : Tables → ℕ → Type 0) → ((t : Tables) → keeps t 0) → (t : Tables) (moments : List Moment)
    → EachMoment (Counted test keeps) moments → keeps (begun test t moments) (in_a_row test moments)
so-far test keeps none t [] h = none t
so-far test keeps none t (m ∷ past) h = split (test m) h.0
  where
    split : (b : Bool) → keeps (if b then begun test m.tables past else m.tables) (if b then in_a_row test past + 1 else 0)
        → keeps (if b then begun test m.tables past else t) (if b then in_a_row test past + 1 else 0)
    split true k = k
    split false k = none t

-- and it is kept at the next moment where it is with one more
pub one-more : (test : Moment → Bool) (keeps : Tables → ℕ → Type 0) → ((t : Tables) → keeps t 0) → (m : Moment) (past : List Moment)
    → (test m ≡ true → keeps (begun test m.tables past) (in_a_row test past + 1)) → Counted test keeps past m
one-more test keeps none m past h = split (test m) h
  where
    split : (b : Bool) → (b ≡ true → keeps (begun test m.tables past) (in_a_row test past + 1))
        → keeps (if b then begun test m.tables past else m.tables) (if b then in_a_row test past + 1 else 0)
    split true k = k refl
    split false k = none m.tables

-- where the last frame does not pass, nothing has run, and the tables are those now in force
pub fresh : (look : Frame → Bool) (t : Tables) (moments : List Moment) → look (last_frame moments) ≡ false
    → (in_a_row (λ m. look m.frame) moments ≡ 0) × (begun (λ m. look m.frame) t moments ≡ t)
fresh look t [] h = (refl, refl)
fresh look t (m ∷ past) h = (rw h refl, rw h refl)

-- where it passes, and the frame before any tick does not, something has
pub running : (look : Frame → Bool) (moments : List Moment) → look first_frame ≡ false → look (last_frame moments) ≡ true
    → 0 < in_a_row (λ m. look m.frame) moments
running look [] n h = absurd (both_ways (look first_frame) n h)
running look (m ∷ past) n h = rw h (omega arith)
