-- The counter of a cycle, and how it is brought onto the offset (FHWA Signal Timing Manual, offset transition; the
-- names dwell, shortway and add only after NTCIP 1202; the ticks at which the counter waits and skips, and the limits
-- of a cycle, are this project's own). A list of counters has one for each frame since the last pickup, newest first;
-- its last entry is the 0 of the pickup. All times are in ticks.
use Rattle.std.specs.Prelude.{ℕ, zero, suc, Bool, true, false, not, ◌+◌, ◌-◌, ◌*◌, ◌/◌, ◌%◌, ◌==◌, ◌&&◌, ◌||◌, ◌≤◌, ◌<◌, min, max, nat_le, if◌then◌else◌, List, [], ◌∷◌}

-- the values on which a correction depends: the cycle, the window after local zero in which the counter may be
-- corrected, the mode (2 dwell, 3 shortway, 4 add only), and the most ticks that one cycle may dwell, add and subtract
pub record Correction : Type 0 where
  pub cycle : ℕ
  pub window : ℕ
  pub mode : ℕ
  pub dwell : ℕ
  pub add : ℕ
  pub subtract : ℕ

-- the counter of the last frame; 0 without a frame
abbrev pub last_counter : List ℕ → ℕ
last_counter [] = 0
last_counter (c ∷ before) = c

-- the last step took the counter from another value to 0
abbrev pub changes_to_zero : ℕ → ℕ → Bool
changes_to_zero c before = c == 0 && not (before == 0)

-- how often the counter has waited since it last returned to 0, or since the pickup
abbrev pub stands : List ℕ → ℕ
stands [] = 0
stands (c ∷ []) = 0
stands (c ∷ b ∷ before) =
    if changes_to_zero c b then 0 else if c == b then stands (b ∷ before) + 1 else stands (b ∷ before)

-- how often the counter has advanced by 2 since it last returned to 0, or since the pickup
abbrev pub skips : List ℕ → ℕ
skips [] = 0
skips (c ∷ []) = 0
skips (c ∷ b ∷ before) =
    if changes_to_zero c b then 0 else if c == b + 2 then skips (b ∷ before) + 1 else skips (b ∷ before)

-- the last step changed the counter; a pickup counts as a change
abbrev pub last_step_changed : List ℕ → Bool
last_step_changed [] = true
last_step_changed (c ∷ []) = true
last_step_changed (c ∷ b ∷ before) = not (c == b)

-- a cycle has just begun: at the pickup, or when the counter returned to 0
abbrev pub begins_cycle : List ℕ → Bool
begins_cycle [] = false
begins_cycle (c ∷ []) = c == 0
begins_cycle (c ∷ b ∷ before) = changes_to_zero c b

-- the point of the cycle one tick after `moment`
abbrev pub tick_later : ℕ → ℕ → ℕ
tick_later cycle moment = (moment + 1) % cycle

-- by how many ticks the target would be ahead of the counter, modulo the cycle, if the counter advanced from c by one
-- tick
abbrev pub ahead : ℕ → ℕ → ℕ → ℕ
ahead cycle target c = (target + cycle - c - 1) % cycle

-- how many steps of at most `most` ticks are needed for n ticks
abbrev pub steps_for : ℕ → ℕ → ℕ
steps_for n most = (n + most - 1) / most

-- adding takes no more cycles than subtracting, so shortway adds
abbrev pub adds_sooner : Correction → ℕ → Bool
adds_sooner k error = nat_le (steps_for (k.cycle - error) k.add) (steps_for error k.subtract)

-- the counter after c with dwell: it waits at local zero, for up to `dwell` ticks a cycle
abbrev pub dwelling : Correction → List ℕ → ℕ → ℕ
dwelling k past c = if c == 0 && not (nat_le k.dwell (stands past)) then c else tick_later k.cycle c

-- the counter after c with adding: it waits at every second tick, up to `add` times a cycle
abbrev pub adding : Correction → List ℕ → ℕ → ℕ
adding k past c = if last_step_changed past && not (nat_le k.add (stands past)) then c else tick_later k.cycle c

-- the counter after c with skipping: it advances by 2, up to `subtract` times a cycle, and never past the window
abbrev pub skipping : Correction → List ℕ → ℕ → ℕ
skipping k past c = if nat_le (c + 2) k.window && not (nat_le k.subtract (skips past)) then c + 2 else tick_later k.cycle c

-- the counter after c by the mode of correction, if the target is `error` ticks ahead
abbrev pub corrected : Correction → List ℕ → ℕ → ℕ → ℕ
corrected k past c error =
    if k.mode == 2 then dwelling k past c
    else if k.mode == 4 then adding k past c
    else if k.mode == 3 then (if adds_sooner k error then adding k past c else skipping k past c)
    else tick_later k.cycle c

-- the counter after c: it advances by one tick if the target isn't ahead or the window is over, otherwise it is
-- corrected
abbrev pub counter_after : Correction → List ℕ → ℕ → ℕ → ℕ
counter_after k past c error =
    if error == 0 || nat_le k.window c then tick_later k.cycle c else corrected k past c error

-- the counter of the next frame, given the counters before it and the target of that frame
abbrev pub next_counter : Correction → List ℕ → ℕ → ℕ
next_counter k past target = counter_after k past (last_counter past) (ahead k.cycle target (last_counter past))

-- the counters after n more ticks, given the target of the last frame; the target advances by one at each tick
abbrev pub counted : Correction → ℕ → ℕ → List ℕ → List ℕ
counted k zero target past = past
counted k (suc n) target past =
    counted k n (tick_later k.cycle target) (next_counter k past (tick_later k.cycle target) ∷ past)

-- the target after n more ticks
abbrev pub target_after : Correction → ℕ → ℕ → ℕ
target_after k n target = (target + n) % k.cycle

-- the greatest number of ticks by which the correction makes one cycle longer or shorter
abbrev pub most_a_cycle : Correction → ℕ
most_a_cycle k =
    if k.mode == 2 then k.dwell
    else if k.mode == 4 then k.add
    else max k.add k.subtract

-- the number of cycles until the counter equals the target, counted from a local zero with this target
abbrev pub needed : Correction → ℕ → ℕ
needed k target =
    if k.mode == 2 then steps_for ((k.cycle - target) % k.cycle) k.dwell
    else if k.mode == 4 then steps_for ((k.cycle - target) % k.cycle) k.add
    else min (steps_for ((k.cycle - target) % k.cycle) k.add) (steps_for target k.subtract)

-- the limits within which a correction works: a valid mode, limits of at least one tick, and a window that is shorter
-- than the cycle and long enough for the waits and the skips of one cycle
pub record HasRoom (k : Correction) : Type 0 where
  pub least_mode : 2 ≤ k.mode
  pub greatest_mode : k.mode ≤ 4
  pub dwell : 1 ≤ k.dwell
  pub add : 1 ≤ k.add
  pub subtract : 1 ≤ k.subtract
  pub stands : k.add ≤ k.window
  pub skips : 2 * k.subtract ≤ k.window
  pub window : k.window < k.cycle
  pub cycle : 10 ≤ k.cycle
