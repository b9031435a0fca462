-- Where Walk begins, from the sets of the crosswalks.
use Rattle.std.proofs.Common.{◌≡◌, ℕ, Bool, true, false, ◌&&◌, ◌||◌, List, Option, Some, refl, subst}
use Rattle.std.specs.Borrow.{Bor}
use Rattle.std.proofs.Math.Bool.{or-false}
use Rattle.sig_types.specs.declared.frame.Colour.{Colour}
use Rattle.sig_types.specs.declared.frame.Colour.TheVariants.{Green, Red}
use Rattle.sig_types.specs.declared.frame.Ped.{Ped}
use Rattle.sig_types.specs.declared.frame.Ped.TheVariants.{Dont}
use Rattle.sig_types.specs.declared.frame.Mode.{Mode}
use Rattle.sig_types.specs.declared.frame.Mode.TheVariants.{Free, Seek, Coord}
use Rattle.sig_types.specs.Phases.{is_in}
use Rattle.sig_types.specs.Colour.{same_colour, same_signal}
use Rattle.sig_tables.specs.declared.tables.Tables.{Tables}
use Rattle.sig_tables.specs.Tables.{has_pedestrian_recall, starts_with_walk}
use Rattle.sig_tables.specs.TickState.{RingTurn, Rest, StartUp, Rings, Goal}
use Rattle.sig_tables.specs.Walking.{Crossing, has_walk, walks_at_green, walk_begins}
use Rattle.pattern_plan.specs.declared.split_options.SplitOptions.{SplitOptions}
use Rattle.pattern_plan.specs.Options.{SplitSays, AreActivePattern}
use Rattle.call_store.specs.declared.crossing.Greens.TheVariants.{Rest as NoGreens, StartUp as StartUpGreens, Rings as RingGreens}
use Rattle.call_store.specs.Walks.{greens_of, may_walk, SaysInCoord}

-- what asks for Walk with the Green of p: nothing where the rings rest, and more at start-up than at another tick
pub at-rest : (ring_turn : RingTurn) (t : Tables) (pedestrian : List ℕ) (p : ℕ) → greens_of ring_turn ≡ NoGreens → false ≡ walks_at_green ring_turn t pedestrian p
at-rest Rest t pedestrian p e = refl
at-rest StartUp t pedestrian p e = absurd (cc e)
at-rest Rings t pedestrian p e = absurd (cc e)
at-rest (Goal goal) t pedestrian p e = absurd (cc e)

pub at-startup : (ring_turn : RingTurn) (t : Tables) (pedestrian : List ℕ) (p : ℕ) → greens_of ring_turn ≡ StartUpGreens
    → (is_in pedestrian p || has_pedestrian_recall t p || starts_with_walk t p) ≡ walks_at_green ring_turn t pedestrian p
at-startup Rest t pedestrian p e = absurd (cc e)
at-startup StartUp t pedestrian p e = refl
at-startup Rings t pedestrian p e = absurd (cc e)
at-startup (Goal goal) t pedestrian p e = absurd (cc e)

pub after-startup : (ring_turn : RingTurn) (t : Tables) (pedestrian : List ℕ) (p : ℕ) → greens_of ring_turn ≡ RingGreens
    → (is_in pedestrian p || has_pedestrian_recall t p) ≡ walks_at_green ring_turn t pedestrian p
after-startup Rest t pedestrian p e = absurd (cc e)
after-startup StartUp t pedestrian p e = absurd (cc e)
after-startup Rings t pedestrian p e = refl
after-startup (Goal goal) t pedestrian p e = refl

-- in coordination the options are those of the pattern's split
pub in-coord : (options : Option (Bor SplitOptions)) (mode : Mode) (t : Tables) (n : ℕ) (o : Bor SplitOptions) → mode ≡ Coord n
    → options ≡ Some o → SaysInCoord options mode t → SplitSays o.now t n
in-coord options mode t n o m e says =
    let coord : SaysInCoord options (Coord n) t = subst (λ (x : Mode). SaysInCoord options x t) m says in
    subst (λ (q : Option (Bor SplitOptions)). AreActivePattern q (Some n) t) e coord

pub in-ring_turn : (z w h a : Bool) → (z && (w && h && a)) ≡ (z && w && h && a)
in-ring_turn true w h a = refl
in-ring_turn false w h a = refl

-- Walk begins, from the colours and the signal as tests: with the Green, or in it, of which x says so
pub walk-is : (c : Crossing) (mode : Mode) (p : ℕ) (before after : Colour) (signal : Ped) (x : Bool)
    → (same_colour before Green ≡ true → x ≡ walk_begins c mode p Green Green Dont)
    → (same_colour before Red && same_colour after Green && walk_begins c mode p Red Green Dont
    || same_colour before Green && same_colour after Green && same_signal signal Dont && x)
    ≡ walk_begins c mode p before after signal
walk-is c Free p Red Green signal x e = or-false (walk_begins c Free p Red Green Dont)
walk-is c (Seek n) p Red Green signal x e = or-false (walk_begins c (Seek n) p Red Green Dont)
walk-is c (Coord n) p Red Green signal x e = or-false (walk_begins c (Coord n) p Red Green Dont)
walk-is c mode p Green Green Dont x e = e refl
walk-is c mode p Red Green signal x e = refl
walk-is c mode p before after signal x e = refl

-- no Walk begins with Green in a mode in which none may, and in the others except Coord it begins where it is asked for
pub no-green : (c : Crossing) (mode : Mode) (p : ℕ) → may_walk mode ≡ false → false ≡ walk_begins c mode p Red Green Dont
no-green c Free p e = absurd (cc e)
no-green c (Seek n) p e = absurd (cc e)
no-green c (Coord n) p e = absurd (cc e)
no-green c mode p e = refl

pub with-green : (c : Crossing) (mode : Mode) (p : ℕ) → may_walk mode ≡ true → ((n : ℕ) → mode ≡ Coord n → ⊥)
    → (has_walk c.tables p && walks_at_green c.ring_turn c.tables c.pedestrian p) ≡ walk_begins c mode p Red Green Dont
with-green c Free p e not = refl
with-green c (Seek n) p e not = refl
with-green c (Coord n) p e not = absurd (not n refl)
with-green c mode p e not = absurd (cc e)

-- no Walk begins in Green but in Free and Coord
pub no-rest : (c : Crossing) (mode : Mode) (p : ℕ) → (mode ≡ Free → ⊥) → ((n : ℕ) → mode ≡ Coord n → ⊥)
    → false ≡ walk_begins c mode p Green Green Dont
no-rest c Free p free coord = absurd (free refl)
no-rest c (Coord n) p free coord = absurd (coord n refl)
no-rest c mode p free coord = refl
