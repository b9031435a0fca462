-- For how many last moments in a row something was so, by what is kept of them.
use Rattle.std.proofs.Common.{◌≡◌, ◌≤◌, ◌+◌, ◌⊎◌, inl, inr, ℕ, zero, suc, min, Bool, true, false, if◌then◌else◌, List, [], ◌∷◌, ◌++◌, replicate, refl, sym, ◌∙◌, ap, arith}
use Rattle.std.proofs.lemmas.Bool.{cases_Bool}
use Rattle.std.proofs.Math.Nat.{min-zero}
use Rattle.sig_tables.specs.Past.{Moment}
use Rattle.sig_tables.specs.Looking.{in_a_row}
use Rattle.look_back.specs.declared.sample.Sample.{Sample}
use Rattle.look_back.specs.declared.frame_runs.FrameRun.{FrameRun}
use Rattle.look_back.specs.Look.{Tells}
use Rattle.look_back.specs.Spread.{spread, EachLasts, TellLast, told_run}

-- for how many in a row what is kept passes a test
abbrev pub kept_run : (Sample → Bool) → List Sample → ℕ
kept_run test [] = 0
kept_run test (g ∷ kept) = if test g then kept_run test kept + 1 else 0

min-more : (a b most : ℕ) → min a most ≡ min b most → min (a + 1) (suc most) ≡ min (b + 1) (suc most)
min-more a b most e = omega arith

-- as many as `most` are counted alike
pub same-run : (most n : ℕ) (kept : List Sample) (past : List Moment) (told : Sample → Bool) (so : Moment → Bool)
    → ((g : Sample) (m : Moment) → Tells g m → told g ≡ so m) → most ≤ n → TellLast n kept past
    → min (kept_run told kept) most ≡ min (in_a_row so past) most
same-run zero n kept past told so e le h = min-zero _ ∙ sym (min-zero _)
same-run (suc most) zero kept past told so e le h = absurd (omega arith)
same-run (suc most) (suc n) [] [] told so e le h = refl
same-run (suc most) (suc n) [] (m ∷ past) told so e le h = absurd h
same-run (suc most) (suc n) (g ∷ kept) [] told so e le h = absurd h
same-run (suc most) (suc n) (g ∷ kept) (m ∷ past) told so e le h =
    rw (e g m h.0) (more (so m) (same-run most n kept past told so e (omega arith) h.1))
  where
    more : (b : Bool) → min (kept_run told kept) most ≡ min (in_a_row so past) most
        → min (if b then kept_run told kept + 1 else 0) (suc most) ≡ min (if b then in_a_row so past + 1 else 0) (suc most)
    more true ih = min-more _ _ most ih
    more false ih = refl

-- a run that passes counts whole, and one that does not ends the count
passes-all : (t : ℕ) (test : Sample → Bool) (g : Sample) (kept : List Sample) → test g ≡ true
    → kept_run test (replicate t g ++ kept) ≡ t + kept_run test kept
passes-all zero test g kept e = omega arith
passes-all (suc t) test g kept e = rw (e, passes-all t test g kept e) (omega arith)

passes-none : (t : ℕ) (test : Sample → Bool) (g : Sample) (kept : List Sample) → test g ≡ false → 1 ≤ t
    → kept_run test (replicate t g ++ kept) ≡ 0
passes-none zero test g kept e le = absurd (omega arith)
passes-none (suc t) test g kept e le = rw e refl

ends-alone : (t : ℕ) (test : Sample → Bool) (g : Sample) → test g ≡ false → kept_run test (replicate t g ++ []) ≡ 0
ends-alone zero test g e = refl
ends-alone (suc t) test g e = rw e refl

pub told-run : (test : Sample → Bool) (ss : List FrameRun) → EachLasts ss → told_run test ss ≡ kept_run test (spread ss)
told-run test [] lasts = refl
told-run test (s ∷ ss) lasts = elim (cases_Bool (test s.sample)) [
  | inl e ↦ rw (e, passes-all s.ticks test s.sample (spread ss) e) (ap (λ (n : ℕ). s.ticks + n) (told-run test ss lasts.1))
  | inr e ↦ rw (e, passes-none s.ticks test s.sample (spread ss) e lasts.0) refl
]

-- the same where the newest run may have no frame yet
pub told-newest : (test : Sample → Bool) (s : FrameRun) (ss : List FrameRun) → (1 ≤ s.ticks) ⊎ (ss ≡ []) → EachLasts ss
    → told_run test (s ∷ ss) ≡ kept_run test (spread (s ∷ ss))
told-newest test s ss (inl some) lasts = told-run test (s ∷ ss) (some, lasts)
told-newest test s ss (inr none) lasts = elim (cases_Bool (test s.sample)) [
  | inl e ↦ rw (none, e, passes-all s.ticks test s.sample [] e) refl
  | inr e ↦ rw (none, e, ends-alone s.ticks test s.sample e) refl
]
