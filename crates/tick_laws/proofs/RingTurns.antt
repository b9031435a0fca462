-- The turn of a tick, and its mode.
use Rattle.std.proofs.Common.{◌≡◌, ◌⊎◌, inl, inr, ℕ, Bool, true, false, if◌then◌else◌, List, [], ◌∷◌, refl, subst}
use Rattle.std.proofs.lemmas.Bool.{false≢true}
use Rattle.sig_types.specs.declared.frame.Colour.{Colour}
use Rattle.sig_types.specs.declared.frame.Mode.{Mode}
use Rattle.sig_types.specs.declared.frame.Mode.TheVariants.{Start, Seek, Coord, Ending, Flash}
use Rattle.sig_types.specs.Colour.{is_start}
use Rattle.sig_tables.specs.declared.tables.Tables.{Tables}
use Rattle.sig_tables.specs.Modes.{stage_of}
use Rattle.sig_tables.specs.Goals.{goal_in}
use Rattle.sig_tables.specs.Past.{Moment}
use Rattle.sig_tables.specs.Looking.{last_frame}
use Rattle.sig_tables.specs.Choosing.{are_all_red, are_coordinated_green, mode_reached}
use Rattle.sig_tables.specs.TickState.{RingTurn, Rest, StartUp, Rings, Goal, startup_phases, first_ring_turn, ring_turn_in, ring_turn_from_start, ring_turn_of}
use Rattle.tick_laws.specs.Lawful.{is_dark}

-- a turn goes with a mode: the rings move where no preempt is served, and a goal is that of the mode
abbrev pub Suited : Tables → Mode → RingTurn → Type 0
Suited t mode Rings = stage_of mode ≡ 0
Suited t mode (Goal goal) = goal ≡ goal_in t mode
Suited t mode _ = Unit {0}

in-suited : (mode : Mode) (t : Tables) → Suited t mode (ring_turn_in t mode)
in-suited Start t = tt
in-suited Flash t = tt
in-suited _ t = refl

first-suited : (ps : List ℕ) (ring_turn : RingTurn) (mode : Mode) (t : Tables) → Suited t mode ring_turn → Suited t mode (first_ring_turn ps ring_turn)
first-suited [] ring_turn mode t h = h
first-suited (p ∷ ps) ring_turn mode t h = tt

start-suited : (mode : Mode) (t : Tables) → Suited t mode (ring_turn_from_start t mode)
start-suited Start t = tt
start-suited Flash t = tt
start-suited mode t = first-suited (startup_phases t) (ring_turn_in t mode) mode t (in-suited mode t)

pub ring_turn-suited : (mode : Mode) (t : Tables) (past : List Moment) → Suited t mode (ring_turn_of t past mode)
ring_turn-suited mode t past = split (is_start (last_frame past).mode)
  where
    split : (b : Bool) → Suited t mode (if b then ring_turn_from_start t mode else ring_turn_in t mode)
    split true = start-suited mode t
    split false = in-suited mode t

-- where nothing is to be on nothing moves
pub dark-rests : (mode : Mode) (t : Tables) (past : List Moment) → is_dark mode ≡ true → ring_turn_of t past mode ≡ Rest
dark-rests mode t past h = split mode h (is_start (last_frame past).mode)
  where
    split : (m : Mode) → is_dark m ≡ true → (b : Bool) → (if b then ring_turn_from_start t m else ring_turn_in t m) ≡ Rest
    split Start h true = refl
    split Start h false = refl
    split Flash h true = refl
    split Flash h false = refl
    split _ h b = absurd (false≢true h)

abbrev NotStartUp : RingTurn → Type 0
NotStartUp StartUp = ⊥
NotStartUp _ = Unit {0}

in-not-up : (mode : Mode) (t : Tables) → NotStartUp (ring_turn_in t mode)
in-not-up Start t = tt
in-not-up _ t = tt

start-dark : (mode : Mode) → is_start mode ≡ true → is_dark mode ≡ true
start-dark Start h = refl
start-dark _ h = absurd (false≢true h)

-- phases start up only out of Start
pub up-from-dark : (mode : Mode) (t : Tables) (past : List Moment) → ring_turn_of t past mode ≡ StartUp → is_dark (last_frame past).mode ≡ true
up-from-dark mode t past h = start-dark (last_frame past).mode (split (is_start (last_frame past).mode) h)
  where
    split : (b : Bool) → (if b then ring_turn_from_start t mode else ring_turn_in t mode) ≡ StartUp → b ≡ true
    split true e = refl
    split false e = absurd (subst NotStartUp e (in-not-up mode t))

-- the mode of the frame is the one that the tick sought, but where no preempt is served in either
pub reached-as : (mode : Mode) (t : Tables) (veh : List Colour)
    → (mode_reached mode t veh ≡ mode) ⊎ ((stage_of (mode_reached mode t veh) ≡ 0) × (stage_of mode ≡ 0))
reached-as (Seek n) t veh = inr (split (are_coordinated_green t n veh), refl)
  where
    split : (b : Bool) → stage_of (if b then Coord n else Seek n) ≡ 0
    split true = refl
    split false = refl
reached-as Ending t veh = inr (split (are_all_red veh), refl)
  where
    split : (b : Bool) → stage_of (if b then Flash else Ending) ≡ 0
    split true = refl
    split false = refl
reached-as _ t veh = inl refl

-- and nothing is on in it only where nothing was to be, or where all is Red
pub reached-dark : (mode : Mode) (t : Tables) (veh : List Colour) → is_dark (mode_reached mode t veh) ≡ true
    → (is_dark mode ≡ true) ⊎ (are_all_red veh ≡ true)
reached-dark (Seek n) t veh h = absurd (split (are_coordinated_green t n veh) h)
  where
    split : (b : Bool) → is_dark (if b then Coord n else Seek n) ≡ true → ⊥
    split true i = false≢true i
    split false i = false≢true i
reached-dark Ending t veh h = split (are_all_red veh) refl h
  where
    split : (b : Bool) → are_all_red veh ≡ b → is_dark (if b then Flash else Ending) ≡ true → (is_dark Ending ≡ true) ⊎ (are_all_red veh ≡ true)
    split true e i = inr e
    split false e i = absurd (false≢true i)
reached-dark _ t veh h = inl h
