-- The preempts whose input is on, after one more event.
use Rattle.std.proofs.Common.{◌≡◌, ◌<◌, ◌≤◌, ◌==◌, ℕ, Bool, false, if◌then◌else◌, List, [], refl, sym, ◌∙◌, ap, arith}
use Rattle.sig_types.specs.declared.frame.Field.TheVariants.{Preempt as PreemptInput}
use Rattle.sig_types.specs.declared.phase_set.PhaseSet.{PhaseSet}
use Rattle.sig_types.specs.Phases.{is_in}
use Rattle.sig_types.specs.PhaseSet.{has, phases_of}
use Rattle.sig_types.proofs.Sets.{those-same, empty-has}
use Rattle.sig_tables.specs.Past.{Past, Moment, Input}
use Rattle.sig_tables.specs.Decide.{with_event, with_moment}
use Rattle.sig_tables.specs.Seen.{moment_seen}
use Rattle.sig_tables.specs.Preempts.{all_preempts, preempt_on}
use Rattle.sig_tables.proofs.Below.{phase-is}
use Rattle.preempt_stages.specs.Inputs.{preempts_seen}
use Rattle.preempt_stages.proofs.Least.{in-preempts, preempt-above, preempt-within}

-- the set has the preempts whose input is on
abbrev pub AreOn : PhaseSet → Past → Type 0
AreOn s past = (i : ℕ) → 0 < i → i ≤ 8 → has s i ≡ is_in (preempts_seen past) i

-- the input of preempt i at the next tick
abbrev pub on_next : Past → ℕ → Bool
on_next past i = preempt_on (is_in (moment_seen past).preempts i) past.heard i

pub on-at : (past : Past) (i : ℕ) → 0 < i → i ≤ 8 → is_in (preempts_seen past) i ≡ on_next past i
unfolding preempts_seen
on-at past i above within = in-preempts (λ k. preempt_on (is_in (moment_seen past).preempts k) past.heard k) i above within

-- an event that changes no preempt input keeps the set correct
pub kept-on : (s : PhaseSet) (past next : Past) → ((i : ℕ) → on_next past i ≡ on_next next i) → AreOn s past → AreOn s next
kept-on s past next same old i above within =
    old i above within ∙ on-at past i above within ∙ same i ∙ sym (on-at next i above within)

-- an input of preempt j changes only this preempt in the set
pub turned-on : (s new : PhaseSet) (past : Past) (j : ℕ) (on : Bool) → AreOn s past
    → ((i : ℕ) → 0 < i → i ≤ 8 → has new i ≡ (if j == i then on else has s i)) → AreOn new (with_event (Input (PreemptInput j on)) past)
turned-on s new past j on old is i above within =
    is i above within
    ∙ ap (λ (b : Bool). if j == i then on else b) (old i above within ∙ on-at past i above within)
    ∙ sym (on-at (with_event (Input (PreemptInput j on)) past) i above within)

-- a tick keeps the set of the inputs that are on at its moment
pub seen-on : (s : PhaseSet) (past : Past) (m : Moment) → m.preempts ≡ preempts_seen past → AreOn s past → AreOn s (with_moment past m)
seen-on s past m e old i above within =
    old i above within ∙ ap (λ (xs : List ℕ). is_in xs i) (sym e) ∙ sym (on-at (with_moment past m) i above within)

-- if the set is empty, no preempt input is on
pub none-on : (s : PhaseSet) (past : Past) → AreOn s past → phases_of s ≡ [] → preempts_seen past ≡ []
unfolding preempts_seen
none-on s past on empty =
    those-same (λ k. preempt_on (is_in (moment_seen past).preempts k) past.heard k) (λ k. false) all_preempts
    (λ i l.
    let above : 0 < i = preempt-above i l in
    let within : i ≤ 8 = preempt-within i l in
    let few : i ≤ 16 = omega arith in
    sym (on-at past i above within) ∙ sym (on i above within) ∙ empty-has s i (phase-is i above few) empty)
