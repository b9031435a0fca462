-- What each moment says: the mode of its tick is what the command asks for, and its target what the clock asks for.
use Rattle.std.proofs.Common.{◌≡◌, inl, inr, ℕ, ◌==◌, Bool, true, false, if◌then◌else◌, List, Option, Some, None, refl, arith}
use Rattle.std.proofs.Math.Nat.{mod-lt}
use Rattle.sig_types.specs.declared.frame.Colour.{Colour}
use Rattle.sig_types.specs.declared.frame.Frame.{Frame}
use Rattle.sig_types.specs.declared.frame.Mode.{Mode}
use Rattle.sig_types.specs.declared.frame.Mode.TheVariants.{Start, Free, Seek, Coord, Ending, Flash, Entry, Track, Dwell, Exit}
use Rattle.sig_tables.specs.declared.tables.Tables.{Tables}
use Rattle.sig_tables.specs.Slots.{is_defined}
use Rattle.sig_tables.specs.Clock.{target_in, clock_now}
use Rattle.sig_tables.specs.Command.{command_now}
use Rattle.sig_tables.specs.Preempts.{preempts_on}
use Rattle.sig_tables.specs.Choosing.{are_all_red, are_coordinated_green, mode_reached, leaves_start}
use Rattle.sig_tables.specs.Choosing.{is_in_step, mode_commanded, mode_running, mode_staged, mode_after}
use Rattle.sig_tables.specs.Past.{Past, Moment, first_moment}
use Rattle.sig_tables.specs.Looking.{last_frame, last_moment}
use Rattle.sig_tables.specs.Seen.{mode_seen, moves_seen}
use Rattle.sig_tables.specs.Decide.{colours_of, next_moment}
use Rattle.tick_laws.proofs.Sought.{Numbered, IsStage, EachStage, now-stage}
use Rattle.tick_laws.proofs.InStep.{next-named}
use Rattle.coordination_laws.specs.MomentTold.{Obeys, ModeFollows, MomentTold}

commanded : (t : Tables) (v n : ℕ) (f : Frame) → Obeys t v f n (mode_commanded t v n f)
commanded t v n f = split (is_defined t n) (is_in_step f v n) refl refl
  where
    split : (a b : Bool) → is_defined t n ≡ a → is_in_step f v n ≡ b → Obeys t v f n (if a then (if b then Coord n else Seek n) else Free)
    split true true e k = (refl, e, k)
    split true false e k = (refl, e, k)
    split false b e k = e

running : (t : Tables) (v n : ℕ) (f : Frame) → Obeys t v f n (mode_running t v n f)
running t v n f = split (n == 255)
  where
    split : (b : Bool) → Obeys t v f n (if b then Ending else mode_commanded t v n f)
    split true = tt
    split false = commanded t v n f

stage-obeys : (mode : Mode) (t : Tables) (v n : ℕ) (f : Frame) → IsStage mode → Obeys t v f n mode
stage-obeys (Entry i) t v n f h = tt
stage-obeys (Track i) t v n f h = tt
stage-obeys (Dwell i) t v n f h = tt
stage-obeys (Exit i) t v n f h = tt
stage-obeys _ t v n f h = absurd h

staged : (stage : Option Mode) (t : Tables) (v n : ℕ) (f : Frame) → EachStage stage → Obeys t v f n (mode_staged stage t v n f)
staged None t v n f h = running t v n f
staged (Some mode) t v n f h = stage-obeys mode t v n f h

after : (mode : Mode) (t : Tables) (v n : ℕ) (on : List ℕ) (past : List Moment) → Numbered (last_frame past).mode
    → Obeys t v (last_frame past) n (mode_after mode t v n on past)
after Start t v n on past k = split (leaves_start past) (n == 255)
  where
    split : (a b : Bool) → Obeys t v (last_frame past) n (if a then (if b then Flash else mode_commanded t v n (last_frame past)) else Start)
    split true true = tt
    split true false = commanded t v n (last_frame past)
    split false b = tt
after Flash t v n on past k = split (n == 255)
  where
    split : (b : Bool) → Obeys t v (last_frame past) n (if b then Flash else Start)
    split true = tt
    split false = tt
after _ t v n on past k = staged _ t v n (last_frame past) (now-stage t on past k)

-- the mode of a tick is what its command asks for
pub obeys : (past : Past) → Numbered (last_frame past.moments).mode
    → Obeys past.tables past.version (last_frame past.moments) (command_now past) (mode_seen past)
obeys past k =
    after (last_frame past.moments).mode past.tables past.version (command_now past)
    (preempts_on past.heard (last_moment past.tables past.moments)) past.moments k

reached-follows : (mode : Mode) (t : Tables) (v n : ℕ) (f : Frame) (veh : List Colour) → Obeys t v f n mode → ModeFollows t n (mode_reached mode t veh)
reached-follows Free t v n f veh h = h
reached-follows (Seek k) t v n f veh h = split (are_coordinated_green t k veh)
  where
    split : (b : Bool) → ModeFollows t n (if b then Coord k else Seek k)
    split true = h.0
    split false = h.0
reached-follows (Coord k) t v n f veh h = h.0
reached-follows Ending t v n f veh h = split (are_all_red veh)
  where
    split : (b : Bool) → ModeFollows t n (if b then Flash else Ending)
    split true = tt
    split false = tt
reached-follows _ t v n f veh h = tt

reached-target : (mode : Mode) (t : Tables) (veh : List Colour) (time : ℕ) → target_in t mode time ≡ target_in t (mode_reached mode t veh) time
reached-target (Seek k) t veh time = split (are_coordinated_green t k veh)
  where
    split : (b : Bool) → target_in t (Seek k) time ≡ target_in t (if b then Coord k else Seek k) time
    split true = refl
    split false = refl
reached-target Ending t veh time = split (are_all_red veh)
  where
    split : (b : Bool) → target_in t Ending time ≡ target_in t (if b then Flash else Ending) time
    split true = refl
    split false = refl
reached-target _ t veh time = refl

pub next-told : (past : Past) → Numbered (last_frame past.moments).mode → MomentTold (next_moment past)
next-told past k = record {
  clock = mod-lt _ (omega arith);
  named = next-named past;
  mode = reached-follows (mode_seen past) past.tables past.version (command_now past) (last_frame past.moments) (colours_of past (moves_seen past))
      (obeys past k);
  target = reached-target (mode_seen past) past.tables (colours_of past (moves_seen past)) (clock_now past);
}

pub first-told : (t : Tables) → MomentTold (first_moment t)
first-told t = record {
  clock = omega arith;
  named = λ r which. elim which [ inl one ↦ inl (rw one refl) | inr two ↦ inl (rw two refl) ];
  mode = tt;
  target = refl;
}
