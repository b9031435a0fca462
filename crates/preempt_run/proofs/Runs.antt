-- The runs of the last mode and of its stage, and of members of sets, as tests over the last moments.
use Rattle.std.proofs.Common.{◌≡◌, ◌+◌, ◌==◌, ℕ, Bool, true, false, nat_le, if◌then◌else◌, List, ◌∷◌, refl, sym, ◌∙◌}
use Rattle.sig_types.specs.declared.frame.Mode.{Mode}
use Rattle.sig_types.specs.declared.frame.Mode.TheVariants.{Dwell}
use Rattle.sig_tables.specs.Modes.{same_mode, stage_of}
use Rattle.sig_tables.specs.Past.{Past, Moment}
use Rattle.sig_tables.specs.Looking.{in_a_row, lasts, last_frame}
use Rattle.sig_tables.specs.Seen.{frame_seen}
use Rattle.sig_tables.proofs.Lasting.{lasts-counted}
use Rattle.phase_clock.specs.declared.member_runs.MemberRuns.{MemberRuns}
use Rattle.preempt_run.specs.declared.Preempts.{Preempts}
use Rattle.phase_clock.specs.MemberRuns.{MemberRunsStand, count_of}
use Rattle.preempt_run.specs.PreemptsKeep.{PreemptsStand}
use Rattle.phase_clock.proofs.Counted.{counted}
use Rattle.preempt_stages.proofs.Goes.{goes_on, begins, same_mode-itself, one-mode}
use Rattle.std.proofs.lemmas.Bool.Decides.{Decides-eqb, eqb_tells}
use Rattle.std.proofs.Common.{inl, inr}

-- the last mode has lasted
pub mode-lasts : (c : Preempts) (past : Past) (mode : Mode) (n run : ℕ) → PreemptsStand c past → (frame_seen past).mode ≡ mode
    → run ≡ in_a_row (λ m. same_mode m.frame.mode c.mode) past.moments
    → lasts n (λ m. same_mode m.frame.mode mode) past.moments ≡ nat_le n run
mode-lasts c past mode n run stands at count =
    let e : c.mode ≡ mode = stands.mode ∙ at in
    lasts-counted n (λ m. same_mode m.frame.mode mode) past.moments ∙ rw (count, e) refl

-- the stages of the preempt that dwells have lasted
pub stage-lasts : (c : Preempts) (past : Past) (i n run : ℕ) → PreemptsStand c past → (frame_seen past).mode ≡ Dwell i
    → run ≡ in_a_row (λ m. stage_of m.frame.mode == stage_of c.mode) past.moments
    → lasts n (λ m. stage_of m.frame.mode == i) past.moments ≡ nat_le n run
stage-lasts c past i n run stands at count =
    let e : c.mode ≡ Dwell i = stands.mode ∙ at in
    lasts-counted n (λ m. stage_of m.frame.mode == i) past.moments ∙ rw (count, e) refl

-- a run that is counted has lasted
pub runs-lasts : (runs : MemberRuns) (last p n : ℕ) (test : Moment → Bool) (past : List Moment) → MemberRunsStand runs last p test past
    → nat_le n (count_of runs last p) ≡ lasts n test past
runs-lasts runs last p n test past stands = rw (counted runs last p test past stands) (sym (lasts-counted n test past))

-- the run of the mode after one more moment
pub mode-steps : (since last : ℕ) (old new : Mode) (m : Moment) (past : List Moment) (same : Bool) → same ≡ same_mode old new
    → old ≡ (last_frame past).mode → m.frame.mode ≡ new → since + in_a_row (λ m. same_mode m.frame.mode old) past ≡ last + 1
    → (if same then since else last + 1) + in_a_row (λ m. same_mode m.frame.mode new) (m ∷ past) ≡ last + 1 + 1
mode-steps since last old new m past true e was is run =
    let one : old ≡ new = one-mode old new (sym e) in
    let passes : same_mode m.frame.mode new ≡ true = rw is (same_mode-itself new) in
    goes_on (λ m. same_mode m.frame.mode new) m past since last passes (rw one at run)
mode-steps since last old new m past false e was is run =
    let passes : same_mode m.frame.mode new ≡ true = rw is (same_mode-itself new) in
    let fails : same_mode (last_frame past).mode new ≡ false = rw (← was) (sym e) in
    begins (λ mode. same_mode mode new) m past (last + 1) passes fails

-- and that of its stage
pub stage-steps : (since last : ℕ) (old new : Mode) (m : Moment) (past : List Moment) (same : Bool) → same ≡ (stage_of new == stage_of old)
    → old ≡ (last_frame past).mode → m.frame.mode ≡ new → since + in_a_row (λ m. stage_of m.frame.mode == stage_of old) past ≡ last + 1
    → (if same then since else last + 1) + in_a_row (λ m. stage_of m.frame.mode == stage_of new) (m ∷ past) ≡ last + 1 + 1
stage-steps since last old new m past true e was is run =
    let one : stage_of new ≡ stage_of old = (Decides-eqb (stage_of new) (stage_of old)).0 (sym e) in
    let itself : (stage_of new == stage_of new) ≡ true = (Decides-eqb (stage_of new) (stage_of new)).1 refl in
    let passes : (stage_of m.frame.mode == stage_of new) ≡ true = rw is itself in
    goes_on (λ m. stage_of m.frame.mode == stage_of new) m past since last passes (rw (← one) at run)
stage-steps since last old new m past false e was is run =
    let itself : (stage_of new == stage_of new) ≡ true = (Decides-eqb (stage_of new) (stage_of new)).1 refl in
    let passes : (stage_of m.frame.mode == stage_of new) ≡ true = rw is itself in
    let fails : (stage_of (last_frame past).mode == stage_of new) ≡ false = rw (← was) (turned (stage_of new) (stage_of old) (sym e)) in
    begins (λ mode. stage_of mode == stage_of new) m past (last + 1) passes fails
  where
    turned : (a b : ℕ) → (a == b) ≡ false → (b == a) ≡ false
    turned a b h = elim (eqb_tells b a) [
      | inl (t, k) ↦ rw k (rw k at h)
      | inr (t, k) ↦ t
    ]
