-- For how many steps in a row each number has been in a set that is given at each step: what looking back over the
-- moments gives.
use Rattle.std.specs.Prelude.{ℕ, ◌≡◌, ◌<◌, ◌≤◌, ◌+◌, ◌-◌, Bool, true, false, if◌then◌else◌, List, ◌∷◌, get_or}
use Rattle.sig_types.specs.declared.phase_set.PhaseSet.{PhaseSet}
use Rattle.sig_types.specs.PhaseSet.{has}
use Rattle.sig_tables.specs.Past.{Moment}
use Rattle.sig_tables.specs.Looking.{in_a_row}
use Rattle.phase_clock.specs.declared.member_runs.MemberRuns.{MemberRuns}

-- no number is in the set
abbrev pub HasNone : MemberRuns → Type 0
HasNone runs = (p : ℕ) → has runs.members p ≡ false

-- the number of steps in a row, up to step `last`, at which number p has been in the set
abbrev pub count_of : MemberRuns → ℕ → ℕ → ℕ
count_of runs last p = if has runs.members p then last - get_or runs.since (p - 1) 0 else 0

-- after `steps` steps the run of number p is that of the last moments in a row that pass the test
pub record MemberRunsStand (runs : MemberRuns) (steps : ℕ) (p : ℕ) (test : Moment → Bool) (past : List Moment) : Type 0 where
  pub inside : has runs.members p ≡ true → get_or runs.since (p - 1) 0 + in_a_row test past ≡ steps
  pub outside : has runs.members p ≡ false → in_a_row test past ≡ 0

-- `new` is `old` after one more moment, that of the step after `last`, for which `members` are the numbers that pass
-- the test
abbrev pub MemberRunsStep : MemberRuns → MemberRuns → PhaseSet → ℕ → Type 0
MemberRunsStep old new members last =
    (test : Moment → Bool) (past : List Moment) (m : Moment) (p : ℕ) → 0 < p → p ≤ 16 → test m ≡ has members p
    → MemberRunsStand old last p test past → MemberRunsStand new (last + 1) p test (m ∷ past)
