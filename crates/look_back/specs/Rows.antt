-- The number of last moments in a row that pass a test.
use Rattle.std.specs.Prelude.{ℕ, ◌≡◌, ◌==◌, min, Bool, List, ◌∷◌}
use Rattle.sig_tables.specs.Past.{Moment}
use Rattle.sig_tables.specs.Looking.{in_a_row, last_frame}
use Rattle.sig_tables.specs.Modes.{stage_of}
use Rattle.look_back.specs.declared.row.Row.{Row}

-- the greatest number that is stored; it means that many or more
abbrev pub most : ℕ
most = 4294967295

-- the number that is read if a row doesn't exist
abbrev pub no_row : Row
no_row = record { frames = 0 }

-- the number is that of the last moments in a row that pass the test
abbrev pub RowStands : Row → (Moment → Bool) → List Moment → Type 0
RowStands row test past = row.frames ≡ min (in_a_row test past) most

-- `new` is `old` after one more moment, which passes the test or doesn't
abbrev pub RowSteps : Row → Row → Bool → Type 0
RowSteps old new passes =
    (test : Moment → Bool) (past : List Moment) (m : Moment) → RowStands old test past → passes ≡ test m → RowStands new test (m ∷ past)

-- `new` is `old` after one more moment. The old number counts the last moments in a row that serve the preempt of the
-- last frame, and the new number those that serve the preempt of this frame; `goes_on` says whether they are the same
abbrev pub StagesStep : Row → Row → Bool → Type 0
StagesStep old new goes_on =
    (before : ℕ) (past : List Moment) (m : Moment) → before ≡ stage_of (last_frame past).mode → goes_on ≡ (stage_of m.frame.mode == before)
    → RowStands old (λ n. stage_of n.frame.mode == before) past
    → RowStands new (λ n. stage_of n.frame.mode == stage_of m.frame.mode) (m ∷ past)
