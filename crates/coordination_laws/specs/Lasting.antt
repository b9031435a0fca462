-- Ticks in a row under one version of the tables: those that seek a pattern, and those coordinated in it.
use Rattle.std.specs.Prelude.{ℕ, zero, suc, ◌≡◌, List, [], ◌∷◌}
use Rattle.sig_tables.specs.declared.tables.Tables.{Tables}
use Rattle.sig_tables.specs.View.{View}
use Rattle.sig_tables.specs.Past.{Moment}
use Rattle.sig_types.specs.declared.frame.Mode.TheVariants.{Seek}
use Rattle.sig_tables.specs.Goals.{goal_in}
use Rattle.coordination_laws.specs.Search.{Sought, Gives as SearchGives}
use Rattle.tick_laws.specs.Zero.{Sees, Gives, ZeroHolds}

-- moment m is that of a tick that seeks pattern n, after the moments l ∷ past
pub record SeekTick (t : Tables) (n : ℕ) (m l : Moment) (past : List Moment) : Type 0 where
  pub view : View
  pub tables : view.tables ≡ t
  pub lasting : view.past ≡ l ∷ past
  pub sought : Sought view n (goal_in t (Seek n))
  pub gives : SearchGives view (goal_in t (Seek n)) m

-- since the moments `start`, this number of ticks have sought pattern n
abbrev pub Searches : Tables → ℕ → List Moment → ℕ → List Moment → Type 0
Searches t n start zero now = now ≡ start
Searches t n start (suc k) [] = ⊥
Searches t n start (suc k) (m ∷ []) = ⊥
Searches t n start (suc k) (m ∷ l ∷ past) = SeekTick t n m l past × Searches t n start k (l ∷ past)

-- moment m is that of a tick coordinated in pattern n, after the moments l ∷ past
pub record StepTick (t : Tables) (n : ℕ) (m l : Moment) (past : List Moment) : Type 0 where
  pub view : View
  pub tables : view.tables ≡ t
  pub lasting : view.past ≡ l ∷ past
  pub sees : Sees view n
  pub gives : Gives view n l.frame.counter m
  pub counter : m.frame.counter ≡ view.counter

-- since the moments `start`, this number of ticks have been coordinated in pattern n
abbrev pub RunsInStep : Tables → ℕ → List Moment → ℕ → List Moment → Type 0
RunsInStep t n start zero now = now ≡ start
RunsInStep t n start (suc k) [] = ⊥
RunsInStep t n start (suc k) (m ∷ []) = ⊥
RunsInStep t n start (suc k) (m ∷ l ∷ past) = StepTick t n m l past × RunsInStep t n start k (l ∷ past)

-- at each of this number of last moments with counter 0, both coordinated phases are Green and every other phase is Red
abbrev pub EachZeroHolds : Tables → ℕ → ℕ → List Moment → Type 0
EachZeroHolds t n zero now = Unit {0}
EachZeroHolds t n (suc k) [] = Unit {0}
EachZeroHolds t n (suc k) (m ∷ past) = (m.frame.counter ≡ 0 → ZeroHolds t n m) × EachZeroHolds t n k past
