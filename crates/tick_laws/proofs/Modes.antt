-- A tick is coordinated in a pattern only where the frame before it is, or where it picks the pattern up.
use Rattle.std.proofs.Common.{◌≡◌, ◌⊎◌, inl, inr, ℕ, Bool, true, false, ◌==◌, if◌then◌else◌, List, Option, Some, None, refl, sym, ◌∙◌, ap}
use Rattle.std.proofs.lemmas.Bool.{false≢true}
use Rattle.sig_types.specs.declared.frame.Colour.{Colour}
use Rattle.sig_types.specs.declared.frame.Frame.{Frame}
use Rattle.sig_types.specs.declared.frame.Mode.{Mode}
use Rattle.sig_types.specs.declared.frame.Mode.TheVariants.{Start, Free, Seek, Coord, Ending, Flash}
use Rattle.sig_types.proofs.Lists.{eq-true}
use Rattle.sig_tables.specs.declared.tables.Tables.{Tables}
use Rattle.sig_tables.specs.Slots.{is_defined}
use Rattle.sig_tables.specs.Modes.{same_mode}
use Rattle.sig_tables.specs.Past.{Moment}
use Rattle.sig_tables.specs.Looking.{last_frame}
use Rattle.sig_tables.specs.Choosing.{are_all_red, are_coordinated_green, mode_reached, leaves_start, is_in_step, mode_commanded, mode_running, mode_staged, mode_after, mode_sought}
use Rattle.tick_laws.proofs.Sought.{Numbered, IsStage, EachStage, now-stage}

-- a mode of a pattern: it was coordinated before, and is defined
abbrev pub ModeGoesOn : Tables → ℕ → Frame → Mode → Type 0
ModeGoesOn t v f (Coord n) = (is_in_step f v n ≡ true) × (is_defined t n ≡ true)
ModeGoesOn t v f mode = Unit {0}

commanded : (t : Tables) (v n : ℕ) (f : Frame) → ModeGoesOn t v f (mode_commanded t v n f)
commanded t v n f = split (is_defined t n) (is_in_step f v n) refl refl
  where
    split : (a b : Bool) → is_defined t n ≡ a → is_in_step f v n ≡ b → ModeGoesOn t v f (if a then (if b then Coord n else Seek n) else Free)
    split true true e k = (k, e)
    split true false e k = tt
    split false b e k = tt

running : (t : Tables) (v n : ℕ) (f : Frame) → ModeGoesOn t v f (mode_running t v n f)
running t v n f = split (n == 255)
  where
    split : (b : Bool) → ModeGoesOn t v f (if b then Ending else mode_commanded t v n f)
    split true = tt
    split false = commanded t v n f

stage-goes : (mode : Mode) (t : Tables) (v : ℕ) (f : Frame) → IsStage mode → ModeGoesOn t v f mode
stage-goes (Coord n) t v f h = absurd h
stage-goes _ t v f h = tt

staged : (stage : Option Mode) (t : Tables) (v n : ℕ) (f : Frame) → EachStage stage → ModeGoesOn t v f (mode_staged stage t v n f)
staged None t v n f h = running t v n f
staged (Some mode) t v n f h = stage-goes mode t v f h

after : (mode : Mode) (t : Tables) (v n : ℕ) (on : List ℕ) (past : List Moment) → Numbered (last_frame past).mode
    → ModeGoesOn t v (last_frame past) (mode_after mode t v n on past)
after Start t v n on past k = split (leaves_start past) (n == 255)
  where
    split : (a b : Bool) → ModeGoesOn t v (last_frame past) (if a then (if b then Flash else mode_commanded t v n (last_frame past)) else Start)
    split true true = tt
    split true false = commanded t v n (last_frame past)
    split false b = tt
after Flash t v n on past k = split (n == 255)
  where
    split : (b : Bool) → ModeGoesOn t v (last_frame past) (if b then Flash else Start)
    split true = tt
    split false = tt
after _ t v n on past k = staged _ t v n (last_frame past) (now-stage t on past k)

-- a tick seeks a pattern's mode only after a frame that was coordinated in it
pub sought-goes : (t : Tables) (v n : ℕ) (on : List ℕ) (past : List Moment) → Numbered (last_frame past).mode
    → ModeGoesOn t v (last_frame past) (mode_sought t v n on past)
sought-goes t v n on past k = after (last_frame past).mode t v n on past k

-- modes that a test distinguishes, by the pattern that they name
abbrev is_coord : Mode → Bool
is_coord (Coord n) = true
is_coord mode = false

abbrev pattern_in : Mode → ℕ
pattern_in (Coord n) = n
pattern_in (Seek n) = n
pattern_in mode = 0

apart : (mode : Mode) (n : ℕ) → is_coord mode ≡ false → mode ≡ Coord n → ⊥
apart mode n f e = false≢true (sym f ∙ ap is_coord e)

-- a frame is in a pattern's mode where its tick continued in it, or sought it and found its coordinated phases Green
pub reached-coord : (mode : Mode) (t : Tables) (veh : List Colour) (n : ℕ) → mode_reached mode t veh ≡ Coord n
    → (mode ≡ Coord n) ⊎ ((mode ≡ Seek n) × (are_coordinated_green t n veh ≡ true))
reached-coord (Seek k) t veh n e = split (are_coordinated_green t k veh) refl e
  where
    split : (b : Bool) → are_coordinated_green t k veh ≡ b → (if b then Coord k else Seek k) ≡ Coord n
        → (Seek k ≡ Coord n) ⊎ ((Seek k ≡ Seek n) × (are_coordinated_green t n veh ≡ true))
    split true g i =
        let same : k ≡ n = ap pattern_in i in
        inr (ap Seek same, ap (λ (x : ℕ). are_coordinated_green t x veh) (sym same) ∙ g)
    split false g i = absurd (apart (Seek k) n refl i)
reached-coord Ending t veh n e = split (are_all_red veh) e
  where
    split : (b : Bool) → (if b then Flash else Ending) ≡ Coord n → (Ending ≡ Coord n) ⊎ ((Ending ≡ Seek n) × (are_coordinated_green t n veh ≡ true))
    split true i = absurd (apart Flash n refl i)
    split false i = absurd (apart Ending n refl i)
reached-coord _ t veh n e = inl e

-- a mode that is the same as a pattern's is that
pub same-coord : (mode : Mode) (n : ℕ) → same_mode mode (Coord n) ≡ true → mode ≡ Coord n
same-coord (Coord k) n h = ap Coord (eq-true k n h)
same-coord _ n h = absurd (false≢true h)
