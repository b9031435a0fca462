-- A look back over what is kept is one over the moments.
use Rattle.std.proofs.Common.{◌≡◌, ◌≤◌, ◌+◌, ℕ, min, true, false, List, ◌∷◌, sym, ◌∙◌, ap}
use Rattle.std.proofs.Math.Nat.{zero-min}
use Rattle.sig_tables.specs.Past.{Moment}
use Rattle.sig_tables.specs.Looking.{in_a_row}
use Rattle.look_back.specs.declared.sample.Look.{Look}
use Rattle.look_back.specs.declared.frame_runs.FrameRuns.{FrameRuns}
use Rattle.look_back.specs.Look.{is_so, is_told, LooksAtPhase}
use Rattle.look_back.specs.Spread.{spread, told_run}
use Rattle.look_back.specs.FrameRunsKeep.{FrameRunsKeep}
use Rattle.look_back.proofs.Runs.{same-run, told-newest}
use Rattle.look_back.proofs.SampleTold.{tells-so}

-- as many as `most`, of at most 4,096, give the same answer
pub look-is : (s : FrameRuns) (look : Look) (most : ℕ) (past : List Moment) → LooksAtPhase look → most ≤ 4096 → FrameRunsKeep s past
    → min (told_run (is_told look) (s.newest ∷ s.older.items)) most ≡ min (in_a_row (is_so look) past) most
look-is s look most past is le keeps =
    ap (λ (n : ℕ). min n most) (told-newest (is_told look) s.newest s.older.items keeps.newest keeps.older)
    ∙ same-run most 4096 (spread (s.newest ∷ s.older.items)) past (is_told look) (is_so look) (λ g m. tells-so look g m is) le keeps.tells

-- where it is so in the last frame, and where it is not
pub look-some : (s : FrameRuns) (look : Look) (most : ℕ) (past : List Moment) → LooksAtPhase look → most ≤ 4096 → FrameRunsKeep s past
    → is_told look s.newest.sample ≡ true
    → min (s.newest.ticks + told_run (is_told look) s.older.items) most ≡ min (in_a_row (is_so look) past) most
look-some s look most past is le keeps told = rw told at (look-is s look most past is le keeps)

pub look-none : (s : FrameRuns) (look : Look) (most : ℕ) (past : List Moment) → LooksAtPhase look → most ≤ 4096 → FrameRunsKeep s past
    → is_told look s.newest.sample ≡ false → 0 ≡ min (in_a_row (is_so look) past) most
look-none s look most past is le keeps told = sym (zero-min most) ∙ (rw told at (look-is s look most past is le keeps))
