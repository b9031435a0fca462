-- The preempts whose input is on, and those that are called.
use Rattle.std.proofs.Common.{◌≡◌, ◌<◌, ◌⊎◌, ℕ, Bool, true, false, ◌&&◌, List, refl, ◌∙◌}
use Rattle.sig_types.specs.Phases.{is_in}
use Rattle.sig_types.proofs.Sets.{in-those-is}
use Rattle.sig_tables.specs.declared.tables.Tables.{Tables}
use Rattle.sig_tables.specs.Past.{Past, Moment}
use Rattle.sig_tables.specs.Looking.{last_moment}
use Rattle.sig_tables.specs.Seen.{moment_seen}
use Rattle.sig_tables.specs.Preempts.{all_preempts, preempt_on, preempts_on, is_preempt_called}
use Rattle.preempt_stages.specs.Inputs.{preempts_seen}
use Rattle.preempt_stages.proofs.Least.{unlisted}

-- the preempts whose input is on, as a tick looks at them
pub seen-is : (past : Past) → preempts_seen past ≡ preempts_on past.heard (last_moment past.tables past.moments)
unfolding preempts_seen
seen-is past = refl

-- what is called is on
pub not-called : (t : Tables) (on : List ℕ) (past : List Moment) (i : ℕ) → is_in on i ≡ false → is_preempt_called t on past i ≡ false
not-called t on past i off = rw off refl

-- no number but 1 to 8 is on
pub none-beyond : (past : Past) (i : ℕ) → (i ≡ 0) ⊎ (8 < i) → is_in (preempts_seen past) i ≡ false
unfolding preempts_seen
none-beyond past i h =
    in-those-is (λ k. preempt_on (is_in (moment_seen past).preempts k) past.heard k) all_preempts i
    ∙ rw (unlisted i h) (and-false (preempt_on (is_in (moment_seen past).preempts i) past.heard i))
  where
    and-false : (b : Bool) → (b && false) ≡ false
    and-false true = refl
    and-false false = refl
