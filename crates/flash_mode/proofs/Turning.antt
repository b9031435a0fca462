-- What the rings do, mode by mode.
use Rattle.std.proofs.Common.{◌≡◌, ℕ, List, [], ◌∷◌, refl, sym, ◌∙◌, ap}
use Rattle.sig_types.specs.Phases.{all_phases, is_in}
use Rattle.sig_types.specs.PhaseSet.{has, phases_of}
use Rattle.sig_types.specs.declared.phase_set.PhaseSet.{PhaseSet}
use Rattle.sig_types.specs.declared.frame.Mode.{Mode}
use Rattle.sig_types.specs.declared.frame.Mode.TheVariants.{Start, Free, Seek, Coord, Ending, Flash, Entry, Track, Dwell, Exit}
use Rattle.sig_types.proofs.Sets.{in-phases, those-same, listed-phase}
use Rattle.sig_tables.specs.declared.tables.Tables.{Tables}
use Rattle.sig_tables.specs.Tables.{starts_up}
use Rattle.sig_tables.specs.Goals.{listed_goal, goal_in}
use Rattle.sig_tables.specs.TickState.{RingTurn, StartUp, Goal, startup_phases, first_ring_turn, ring_turn_in, ring_turn_from_start}
use Rattle.sig_tables.specs.Layout.{Has}

-- a set that has the phases of a list of phases is that list
pub goal-same : (t : Tables) (mode : Mode) (goal : PhaseSet) → Has goal (is_in (goal_in t mode)) → phases_of goal ≡ goal_in t mode
goal-same t mode goal h =
    those-same (has goal) (is_in (goal_in t mode)) all_phases (λ p i. h p (listed-phase p i))
    ∙ those-same (is_in (goal_in t mode)) (is_in (listed_goal t mode)) all_phases
    (λ p i. in-phases (is_in (listed_goal t mode)) p (listed-phase p i))

-- a mode in which the rings neither rest nor run by the rules of actuated control has a goal
pub has-goal : (t : Tables) (mode : Mode) → (mode ≡ Start → ⊥) → (mode ≡ Flash → ⊥) → (mode ≡ Free → ⊥) → ((n : ℕ) → mode ≡ Coord n → ⊥)
    → ring_turn_in t mode ≡ Goal (goal_in t mode)
has-goal t Start s f r c = absurd (s refl)
has-goal t Free s f r c = absurd (r refl)
has-goal t (Seek n) s f r c = refl
has-goal t (Coord n) s f r c = absurd (c n refl)
has-goal t Ending s f r c = refl
has-goal t Flash s f r c = absurd (f refl)
has-goal t (Entry i) s f r c = refl
has-goal t (Track i) s f r c = refl
has-goal t (Dwell i) s f r c = refl
has-goal t (Exit i) s f r c = refl

-- the tick after Start
pub from-start : (t : Tables) (mode : Mode) → (mode ≡ Start → ⊥) → (mode ≡ Flash → ⊥)
    → ring_turn_from_start t mode ≡ first_ring_turn (startup_phases t) (ring_turn_in t mode)
from-start t Start s f = absurd (s refl)
from-start t Free s f = refl
from-start t (Seek n) s f = refl
from-start t (Coord n) s f = refl
from-start t Ending s f = refl
from-start t Flash s f = absurd (f refl)
from-start t (Entry i) s f = refl
from-start t (Track i) s f = refl
from-start t (Dwell i) s f = refl
from-start t (Exit i) s f = refl

-- the phases that start up as a set
starting : (t : Tables) (s : PhaseSet) → Has s (starts_up t) → phases_of s ≡ startup_phases t
starting t s h = those-same (has s) (starts_up t) all_phases (λ p i. h p (listed-phase p i))

pub none-up : (t : Tables) (s : PhaseSet) (ring_turn : RingTurn) → Has s (starts_up t) → phases_of s ≡ [] → ring_turn ≡ first_ring_turn (startup_phases t) ring_turn
none-up t s ring_turn h e = ap (λ (xs : List ℕ). first_ring_turn xs ring_turn) (sym e ∙ starting t s h)

pub some-up : (t : Tables) (s : PhaseSet) (ring_turn : RingTurn) → Has s (starts_up t) → (phases_of s ≡ [] → ⊥)
    → StartUp ≡ first_ring_turn (startup_phases t) ring_turn
some-up t s ring_turn h ne = cons (phases_of s) ne ∙ ap (λ (xs : List ℕ). first_ring_turn xs ring_turn) (starting t s h)
  where
    cons : (xs : List ℕ) → (xs ≡ [] → ⊥) → StartUp ≡ first_ring_turn xs ring_turn
    cons [] ne = absurd (ne refl)
    cons (x ∷ xs) ne = refl
