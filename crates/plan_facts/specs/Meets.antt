-- What coordination promises about a history that is left undisturbed: local zeros occur, both coordinated phases are
-- Green at each of them, and the cabinet reaches its offset. Each condition looks back from one moment and holds at
-- every moment, so each tick has to keep it only for its own moment.
use Rattle.std.specs.Prelude.{ℕ, ◌+◌, ◌-◌, ◌*◌, ◌==◌, ◌&&◌, ◌||◌, ◌≤◌, ◌<◌, nat_le, nat_lt, Bool, true, false, ◌≡◌, if◌then◌else◌, List, [], ◌∷◌}
use Rattle.sig_types.specs.declared.frame.Colour.{Colour}
use Rattle.sig_types.specs.declared.frame.Mode.{Mode}
use Rattle.sig_types.specs.declared.frame.Mode.TheVariants.{Coord}
use Rattle.sig_tables.specs.declared.tables.Tables.{Tables}
use Rattle.sig_tables.specs.Slots.{is_defined, cycle_time}
use Rattle.sig_tables.specs.Counting.{tick_later, needed}
use Rattle.sig_tables.specs.Counters.{correction_of}
use Rattle.sig_tables.specs.Choosing.{are_coordinated_green}
use Rattle.sig_tables.specs.Walking.{is_local_zero}
use Rattle.sig_tables.specs.Past.{Moment, History}
use Rattle.sig_tables.specs.Looking.{last_frame}
use Rattle.sig_tables.specs.Decide.{past_at}
use Rattle.plan_facts.specs.Disturbances.{Drift, drift_of, drifts, is_disturbed, quiet_for}
use Rattle.plan_facts.specs.Bounds.{shortest_cycle, zero_bound, offset_bound}

-- the last moment is a local zero
abbrev pub is_zero : List Moment → Bool
is_zero [] = false
is_zero (m ∷ past) = is_local_zero m.frame.mode m.frame.counter (last_frame past)

-- the mode is Coord, and both coordinated phases of its pattern are Green
abbrev pub is_green : Mode → Tables → List Colour → Bool
is_green (Coord n) t veh = are_coordinated_green t n veh
is_green mode t veh = false

-- if the last moment is a local zero, both coordinated phases are Green at it
abbrev pub green_at_zero : List Moment → Bool
green_at_zero [] = true
green_at_zero (m ∷ past) = if is_zero (m ∷ past) then is_green m.frame.mode m.tables m.frame.veh else true

-- the moments up to an earlier local zero; without one, all moments if the last one is a local zero, otherwise none
abbrev pub zero_or_now : List Moment → List Moment → List Moment
zero_or_now [] past = if is_zero past then past else []
zero_or_now (z ∷ older) past = z ∷ older

-- the moments up to the first local zero since the last disturbance; none if there has been no local zero
abbrev pub first_zero : Drift → List Moment → List Moment
first_zero d [] = []
first_zero d (m ∷ past) = if is_disturbed d (m ∷ past) then [] else zero_or_now (first_zero d past) (m ∷ past)

abbrev pub is_some : List Moment → Bool
is_some [] = false
is_some (m ∷ past) = true

-- there has been a local zero since the last disturbance
abbrev pub has_zero : Drift → List Moment → Bool
has_zero d past = is_some (first_zero d past)

-- the target of the first local zero since the last disturbance
abbrev pub zero_target : Drift → List Moment → ℕ
zero_target d past = (last_frame (first_zero d past)).target

-- there has been a local zero since the last disturbance, or the last disturbance was fewer than `most` ticks ago
abbrev pub zero_within : Drift → ℕ → List Moment → Bool
zero_within d most past = if has_zero d past then true else nat_lt (quiet_for d past) most

-- the cabinet is on offset: its counter equals its target
abbrev pub is_met : Moment → Bool
is_met m = m.frame.counter == m.frame.target

-- the counter equals its target; if the clock drifts, they may differ by one tick, modulo the cycle
abbrev pub is_near : Drift → Moment → Bool
is_near d m =
    is_met m || drifts d
    && (tick_later (cycle_time m.tables m.command) m.frame.counter == m.frame.target
    || tick_later (cycle_time m.tables m.command) m.frame.target == m.frame.counter)

-- at a moment since the first local zero, at most `most` ticks after the last disturbance, the counter equalled its
-- target, and it has stayed near its target since then
abbrev pub holds_since : Drift → ℕ → List Moment → Bool
holds_since d most [] = false
holds_since d most (m ∷ past) =
    if is_near d m && has_zero d (m ∷ past)
    then (if is_met m && nat_le (quiet_for d (m ∷ past)) most then true else holds_since d most past)
    else false

-- the cabinet has been on offset as in `holds_since`, or the last disturbance was fewer than `most` ticks ago
abbrev pub offset_within : Drift → ℕ → List Moment → Bool
offset_within d most past = if nat_le most (quiet_for d past) then holds_since d most past else true

-- the correction can follow the clock: only shortway can follow a clock that gains ticks
abbrev pub can_follow : Drift → Tables → Bool
can_follow d t = d.gain == 0 || t.unit.mode == 3

-- if a pattern is commanded, a local zero occurs within its bound
abbrev pub zero_in_time : Drift → List Moment → Bool
zero_in_time d [] = true
zero_in_time d (m ∷ past) =
    if is_defined m.tables m.command then zero_within d (zero_bound (m ∷ past) m.tables m.command) (m ∷ past) else true

-- if a pattern is commanded, its correction can follow the clock, and there has been a local zero, the cabinet is on
-- offset within its bound and stays there
abbrev pub offset_in_time : Drift → List Moment → Bool
offset_in_time d [] = true
offset_in_time d (m ∷ past) =
    if is_defined m.tables m.command && can_follow d m.tables && has_zero d (m ∷ past)
    then offset_within d (offset_bound d (m ∷ past) m.tables m.command (zero_target d (m ∷ past))) (m ∷ past)
    else true

-- the conditions on the last moment
pub record MeetsNow (d : Drift) (past : List Moment) : Type 0 where
  pub green : green_at_zero past ≡ true
  pub zero : zero_in_time d past ≡ true
  pub offset : offset_in_time d past ≡ true

-- the conditions hold at every moment
abbrev pub MeetsEach : Drift → List Moment → Type 0
MeetsEach d [] = Unit {0}
MeetsEach d (m ∷ past) = MeetsNow d (m ∷ past) × MeetsEach d past

-- the history keeps what coordination promises
abbrev pub Meets : History → Type 0
Meets h = MeetsEach (drift_of (past_at h)) (past_at h).moments

-- a correction isn't faster than computed. Suppose the mode is Coord of pattern n, the target wasn't 0 at the first
-- local zero, and the counter equals its target. Then more ticks have passed since that local zero than in all but one
-- of the needed cycles, each at its shortest
abbrev pub NotSooner : Drift → ℕ → List Moment → Type 0
NotSooner d n [] = Unit {0}
NotSooner d n (m ∷ past) =
    m.frame.mode ≡ Coord n → has_zero d (m ∷ past) ≡ true → 1 ≤ zero_target d (m ∷ past) → m.frame.counter ≡ m.frame.target
    → quiet_for d (first_zero d (m ∷ past)) + (needed (correction_of m.tables n) (zero_target d (m ∷ past)) - 1) * shortest_cycle m.tables n
    < quiet_for d (m ∷ past)
