-- The runs of members that are kept are those of looking back.
use Rattle.std.proofs.Common.{◌≡◌, ◌+◌, ◌-◌, ℕ, Bool, true, false, if◌then◌else◌, List, [], ◌∷◌, get_or, refl, sym, ◌∙◌, arith}
use Rattle.std.proofs.lemmas.Bool.{false≢true}
use Rattle.sig_types.specs.PhaseSet.{has}
use Rattle.sig_tables.specs.Past.{Moment}
use Rattle.sig_tables.specs.Looking.{in_a_row}
use Rattle.phase_clock.specs.declared.member_runs.MemberRuns.{MemberRuns}
use Rattle.phase_clock.specs.MemberRuns.{HasNone, MemberRunsStand, count_of}

pub counted : (runs : MemberRuns) (last p : ℕ) (test : Moment → Bool) (past : List Moment) → MemberRunsStand runs last p test past
    → count_of runs last p ≡ in_a_row test past
counted runs last p test past stands = split (has runs.members p) refl
  where
    split : (b : Bool) → has runs.members p ≡ b → (if b then last - get_or runs.since (p - 1) 0 else 0) ≡ in_a_row test past
    split true e = let h : get_or runs.since (p - 1) 0 + in_a_row test past ≡ last = stands.inside e in omega arith
    split false e = sym (stands.outside e)

-- nothing was in the set at the moment before any tick
pub first_runs : (runs : MemberRuns) → HasNone runs → (p : ℕ) (test : Moment → Bool) (m : Moment) → test m ≡ false → MemberRunsStand runs 0 p test (m ∷ [])
first_runs runs none p test m fails = record {
  inside = λ h. absurd (false≢true (sym (none p) ∙ h));
  outside = λ h. rw fails refl;
}
