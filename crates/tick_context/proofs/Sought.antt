-- What is known of the mode that a tick seeks: a pattern that it names is defined, and continues exactly where the last
-- frame is coordinated in it.
use Rattle.std.proofs.Common.{◌≡◌, ◌⊎◌, ◌<◌, inl, inr, ℕ, Bool, true, false, ◌==◌, nat_le, if◌then◌else◌}
use Rattle.std.proofs.Common.{List, [], ◌∷◌, Option, Some, None, refl, sym, ◌∙◌, ap}
use Rattle.std.proofs.lemmas.Bool.{false≢true, leb-false}
use Rattle.sig_types.specs.declared.frame.Colour.{Colour}
use Rattle.sig_types.specs.declared.frame.Frame.{Frame}
use Rattle.sig_types.specs.declared.frame.Mode.{Mode}
use Rattle.sig_types.specs.declared.frame.Mode.TheVariants.{Start, Free, Seek, Coord, Ending, Flash, Entry, Track, Dwell, Exit}
use Rattle.sig_types.specs.Colour.{is_start, same_mode}
use Rattle.sig_types.specs.Phases.{has_some}
use Rattle.sig_types.proofs.Lists.{eq-true}
use Rattle.sig_tables.specs.declared.tables.Tables.{Tables}
use Rattle.sig_tables.specs.Slots.{is_defined}
use Rattle.sig_tables.specs.Past.{Moment}
use Rattle.sig_tables.specs.Looking.{last_frame, start_run}
use Rattle.sig_tables.specs.Preempts.{track_set, exit_set, entry_set, has_reached, is_track_over, is_dwell_over}
use Rattle.sig_tables.specs.Preempts.{exit_from, stage_after, breaks_in, preempt_called, stage_now}
use Rattle.sig_tables.specs.Choosing.{are_all_red, are_coordinated_green, mode_reached, leaves_start, is_in_step, mode_commanded}
use Rattle.sig_tables.specs.Choosing.{mode_started, mode_running, mode_staged, mode_after, mode_sought}
use Rattle.tick_context.specs.Binds.{Names}

-- the mode is none of a pattern
abbrev IsOther : Mode → Type 0
IsOther (Seek n) = ⊥
IsOther (Coord n) = ⊥
IsOther _ = Unit {0}

abbrev EachOther : Option Mode → Type 0
EachOther None = Unit {0}
EachOther (Some mode) = IsOther mode

if-other : (b : Bool) (x y : Option Mode) → EachOther x → EachOther y → EachOther (if b then x else y)
if-other true x y h k = h
if-other false x y h k = k

exit-other : (ps : List ℕ) (i : ℕ) → EachOther (exit_from ps i)
exit-other [] i = tt
exit-other (p ∷ ps) i = tt

after-other : (mode : Mode) (t : Tables) (on : List ℕ) (past : List Moment) → EachOther (stage_after t mode on past)
after-other (Entry i) t on past =
    if-other (has_reached (last_frame past) (entry_set t i)) _ _ (if-other (has_some (track_set t i)) (Some (Track i)) (Some (Dwell i)) tt tt) tt
after-other (Track i) t on past = if-other (is_track_over t i past) (Some (Dwell i)) (Some (Track i)) tt tt
after-other (Dwell i) t on past = if-other (is_dwell_over t i on past) _ (Some (Dwell i)) (exit-other (exit_set t i) i) tt
after-other (Exit i) t on past = if-other (has_reached (last_frame past) (exit_set t i)) None _ tt (exit-other (exit_set t i) i)
after-other _ t on past = tt

now-other : (t : Tables) (on : List ℕ) (past : List Moment) → EachOther (stage_now t on past)
now-other t on past =
    if-other (breaks_in (preempt_called t on past) (last_frame past).mode) (Some (Entry (preempt_called t on past))) _ tt
    (after-other (last_frame past).mode t on past)

-- a pattern that is sought or coordinated is defined, and it is coordinated exactly where the frame is
abbrev pub Chosen : Tables → ℕ → Frame → Mode → Type 0
Chosen t v f (Seek n) = (is_defined t n ≡ true) × (is_in_step f v n ≡ false)
Chosen t v f (Coord n) = (is_defined t n ≡ true) × (is_in_step f v n ≡ true)
Chosen t v f _ = Unit {0}

other-chosen : (mode : Mode) (t : Tables) (v : ℕ) (f : Frame) → IsOther mode → Chosen t v f mode
other-chosen (Seek n) t v f h = absurd h
other-chosen (Coord n) t v f h = absurd h
other-chosen _ t v f h = tt

commanded-chosen : (t : Tables) (v n : ℕ) (f : Frame) → Chosen t v f (mode_commanded t v n f)
commanded-chosen t v n f = split (is_defined t n) (is_in_step f v n) refl refl
  where
    split : (a b : Bool) → is_defined t n ≡ a → is_in_step f v n ≡ b → Chosen t v f (if a then (if b then Coord n else Seek n) else Free)
    split true true e g = (e, g)
    split true false e g = (e, g)
    split false b e g = tt

started-chosen : (t : Tables) (v n : ℕ) (f : Frame) → Chosen t v f (mode_started t v n f)
started-chosen t v n f = split (n == 255)
  where
    split : (b : Bool) → Chosen t v f (if b then Flash else mode_commanded t v n f)
    split true = tt
    split false = commanded-chosen t v n f

running-chosen : (t : Tables) (v n : ℕ) (f : Frame) → Chosen t v f (mode_running t v n f)
running-chosen t v n f = split (n == 255)
  where
    split : (b : Bool) → Chosen t v f (if b then Ending else mode_commanded t v n f)
    split true = tt
    split false = commanded-chosen t v n f

staged-chosen : (stage : Option Mode) (t : Tables) (v n : ℕ) (f : Frame) → EachOther stage → Chosen t v f (mode_staged stage t v n f)
staged-chosen None t v n f h = running-chosen t v n f
staged-chosen (Some mode) t v n f h = other-chosen mode t v f h

after-chosen : (mode : Mode) (t : Tables) (v n : ℕ) (on : List ℕ) (past : List Moment) → Chosen t v (last_frame past) (mode_after mode t v n on past)
after-chosen Start t v n on past = split (leaves_start past)
  where
    split : (b : Bool) → Chosen t v (last_frame past) (if b then mode_started t v n (last_frame past) else Start)
    split true = started-chosen t v n (last_frame past)
    split false = tt
after-chosen Flash t v n on past = split (n == 255)
  where
    split : (b : Bool) → Chosen t v (last_frame past) (if b then Flash else Start)
    split true = tt
    split false = tt
after-chosen _ t v n on past = staged-chosen _ t v n (last_frame past) (now-other t on past)

pub sought-chosen : (t : Tables) (v n : ℕ) (on : List ℕ) (past : List Moment) → Chosen t v (last_frame past) (mode_sought t v n on past)
sought-chosen t v n on past = after-chosen (last_frame past).mode t v n on past

pub chosen-named : (mode : Mode) (t : Tables) (v : ℕ) (f : Frame) → Chosen t v f mode → Names t mode
chosen-named (Seek n) t v f h = h.0
chosen-named (Coord n) t v f h = h.0
chosen-named _ t v f h = tt

-- a frame coordinated in a pattern is that of a tick that was, or its pickup
pub reached-from : (mode : Mode) (t : Tables) (veh : List Colour) (n : ℕ) → same_mode (mode_reached mode t veh) (Coord n) ≡ true
    → (mode ≡ Coord n) ⊎ (mode ≡ Seek n)
reached-from (Coord k) t veh n h = inl (ap Coord (eq-true k n h))
reached-from (Seek k) t veh n h = split (are_coordinated_green t k veh) h
  where
    split : (b : Bool) → same_mode (if b then Coord k else Seek k) (Coord n) ≡ true → (Seek k ≡ Coord n) ⊎ (Seek k ≡ Seek n)
    split true e = inr (ap Seek (eq-true k n e))
    split false e = absurd (false≢true e)
reached-from Ending t veh n h = split (are_all_red veh) h
  where
    split : (b : Bool) → same_mode (if b then Flash else Ending) (Coord n) ≡ true → (Ending ≡ Coord n) ⊎ (Ending ≡ Seek n)
    split true e = absurd (false≢true e)
    split false e = absurd (false≢true e)
reached-from Start t veh n h = absurd (false≢true h)
reached-from Free t veh n h = absurd (false≢true h)
reached-from Flash t veh n h = absurd (false≢true h)
reached-from (Entry i) t veh n h = absurd (false≢true h)
reached-from (Track i) t veh n h = absurd (false≢true h)
reached-from (Dwell i) t veh n h = absurd (false≢true h)
reached-from (Exit i) t veh n h = absurd (false≢true h)

-- Start does not follow itself once it is over
start-is : (m : Mode) → is_start m ≡ true → m ≡ Start
start-is Start e = refl
start-is Free e = absurd (false≢true e)
start-is (Seek n) e = absurd (false≢true e)
start-is (Coord n) e = absurd (false≢true e)
start-is Ending e = absurd (false≢true e)
start-is Flash e = absurd (false≢true e)
start-is (Entry i) e = absurd (false≢true e)
start-is (Track i) e = absurd (false≢true e)
start-is (Dwell i) e = absurd (false≢true e)
start-is (Exit i) e = absurd (false≢true e)

started-not : (t : Tables) (v n : ℕ) (f : Frame) (veh : List Colour) → is_start (mode_reached (mode_started t v n f) t veh) ≡ false
started-not t v n f veh = split (n == 255) (is_defined t n) (is_in_step f v n) (are_coordinated_green t n veh) refl
  where
    sought : (c : Bool) → is_start (if c then Coord n else Seek n) ≡ false
    sought true = refl
    sought false = refl

    split : (a b s c : Bool) → are_coordinated_green t n veh ≡ c
        → is_start (mode_reached (if a then Flash else (if b then (if s then Coord n else Seek n) else Free)) t veh) ≡ false
    split true b s c e = refl
    split false true true c e = refl
    split false true false c e = sought (are_coordinated_green t n veh)
    split false false s c e = refl

pub start-again : (t : Tables) (v n : ℕ) (on : List ℕ) (past : List Moment) (veh : List Colour) → is_start (last_frame past).mode ≡ true
    → is_start (mode_reached (mode_sought t v n on past) t veh) ≡ true → start_run past < 60
start-again t v n on past veh s h =
    split (nat_le 60 (start_run past)) refl
    (sym (ap (λ (m : Mode). is_start (mode_reached (mode_after m t v n on past) t veh)) (start-is (last_frame past).mode s)) ∙ h)
  where
    split : (b : Bool) → nat_le 60 (start_run past) ≡ b
        → is_start (mode_reached (if b then mode_started t v n (last_frame past) else Start) t veh) ≡ true → start_run past < 60
    split true e k = absurd (false≢true (sym (started-not t v n (last_frame past) veh) ∙ k))
    split false e k = leb-false 60 (start_run past) e
