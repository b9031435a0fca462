-- Runs of frames with the same sample, newest first; a sample is what is stored of a frame.
use Rattle.std.specs.Prelude.{ℕ, zero, suc, ◌+◌, ◌≤◌, nat_lt, Bool, if◌then◌else◌, List, [], ◌∷◌, ◌++◌, replicate}
use Rattle.sig_tables.specs.Past.{Moment}
use Rattle.look_back.specs.declared.sample.Sample.{Sample}
use Rattle.look_back.specs.declared.frame_runs.FrameRun.{FrameRun}
use Rattle.look_back.specs.Look.{Tells}

-- a run of this number of frames with this sample
abbrev pub frame_run : Sample → ℕ → FrameRun
frame_run g ticks = record { sample = g; ticks = ticks }

-- the sample of each frame
abbrev pub spread : List FrameRun → List Sample
spread [] = []
spread (s ∷ older) = replicate s.ticks s.sample ++ spread older

-- each run has at least one frame
abbrev pub EachLasts : List FrameRun → Type 0
EachLasts [] = Unit {0}
EachLasts (s ∷ older) = (1 ≤ s.ticks) × EachLasts older

-- the number of last frames in a row whose sample passes the test
abbrev pub told_run : (Sample → Bool) → List FrameRun → ℕ
told_run test [] = 0
told_run test (s ∷ older) = if test s.sample then s.ticks + told_run test older else 0

-- this number of frames plus one; 4,096 means that many or more
abbrev pub more_of : ℕ → ℕ
more_of ticks = if nat_lt ticks 4096 then ticks + 1 else ticks

-- the samples are what is stored of the last n moments, or of all if there are fewer
abbrev pub TellLast : ℕ → List Sample → List Moment → Type 0
TellLast zero kept past = Unit {0}
TellLast (suc n) [] [] = Unit {0}
TellLast (suc n) [] (m ∷ past) = ⊥
TellLast (suc n) (g ∷ kept) [] = ⊥
TellLast (suc n) (g ∷ kept) (m ∷ past) = Tells g m × TellLast n kept past
