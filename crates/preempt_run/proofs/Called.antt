-- When a preempt is called, by the count of ticks at which its input has been on.
use Rattle.std.proofs.Common.{◌≡◌, ◌+◌, ◌*◌, ◌<◌, ◌≤◌, ℕ, Bool, true, false, not, ◌&&◌, ◌||◌, ◌==◌, nat_le, nat_lt, List, [], refl, sym, ◌∙◌, ap, arith, add-one}
use Rattle.std.proofs.Math.Dec.{leb-suc-suc}
use Rattle.std.proofs.lemmas.Bool.Decides.{nat_tests}
use Rattle.sig_types.specs.PhaseSet.{has, phases_of}
use Rattle.sig_types.specs.Phases.{is_in, has_some, those}
use Rattle.sig_types.proofs.Sets.{in-phases, those-same}
use Rattle.sig_tables.specs.declared.tables.Tables.{Tables}
use Rattle.sig_tables.specs.Cells.{preempt_of}
use Rattle.sig_tables.specs.Past.{Past, Moment}
use Rattle.sig_tables.specs.Looking.{in_a_row}
use Rattle.sig_tables.specs.Seen.{moment_seen}
use Rattle.sig_tables.specs.Preempts.{all_preempts, preempt_on, has_been_on, dwell_set, is_preempt_called, preempt_called}
use Rattle.sig_tables.proofs.Below.{phase-is}
use Rattle.sig_tables.proofs.Lasting.{lasts_now-counted}
use Rattle.preempt_run.specs.declared.Preempts.{Preempts}
use Rattle.preempt_stages.specs.Inputs.{preempts_seen}
use Rattle.preempt_run.specs.PreemptsKeep.{PreemptsStand}
use Rattle.preempt_stages.proofs.Inputs.{not-called}
use Rattle.preempt_stages.proofs.Least.{in-preempts, preempt-above, preempt-within, least-none}

-- the input of a preempt is on where the set has it
pub seen-on : (c : Preempts) (past : Past) → PreemptsStand c past → (i : ℕ) → 0 < i → i ≤ 8 → is_in (preempts_seen past) i ≡ has c.on i
unfolding preempts_seen
seen-on c past stands i above within =
    in-preempts (λ k. preempt_on (is_in (moment_seen past).preempts k) past.heard k) i above within
    ∙ sym (stands.on past.tables i above within)

-- the preempts of the set are those whose input is on
pub those-on : (c : Preempts) (past : Past) → PreemptsStand c past → those (has c.on) all_preempts ≡ preempts_seen past
unfolding preempts_seen
those-on c past stands =
    those-same (has c.on) (λ k. preempt_on (is_in (moment_seen past).preempts k) past.heard k) all_preempts
    (λ i l. stands.on past.tables i (preempt-above i l) (preempt-within i l))

-- an empty set has no preempt that is called
pub none-called : (t : Tables) (c : Preempts) (past : Past) → PreemptsStand c past → phases_of c.on ≡ []
    → preempt_called t (preempts_seen past) past.moments ≡ 0
none-called t c past stands empty =
    least-none (is_preempt_called t (preempts_seen past) past.moments) (λ k above within.
    let few : k ≤ 16 = omega arith in
    not-called t (preempts_seen past) past.moments k
    (seen-on c past stands k above within
    ∙ sym (in-phases (has c.on) k (phase-is k above few))
    ∙ ap (λ (xs : List ℕ). is_in xs k) empty))

-- an input that is on now has been on for one tick more than that many last ones in a row
been-on : (ticks i k : ℕ) (on : List ℕ) (past : List Moment) → is_in on i ≡ true → k ≡ in_a_row (λ m. is_in m.preempts i) past
    → has_been_on (ticks + 1) i on past ≡ nat_le ticks k
been-on ticks i k on past is count =
    lasts_now-counted (ticks + 1) (is_in on i) (λ m. is_in m.preempts i) past
    ∙ rw (is, ← count, add-one, add-one, leb-suc-suc) refl

not-yet : (x k : ℕ) → not (nat_le x k) ≡ nat_lt k x
not-yet x k = grind (arith, nat_tests)

pub called-counted : (t : Tables) (on : List ℕ) (past : List Moment) (i k : ℕ) → is_in on i ≡ true
    → k ≡ in_a_row (λ m. is_in m.preempts i) past
    → is_preempt_called t on past i ≡ (has_some (dwell_set t i) && nat_le (10 * (preempt_of t i).delay) k
    && ((preempt_of t i).maximum_presence == 0 || nat_lt k (10 * ((preempt_of t i).delay + (preempt_of t i).maximum_presence))))
called-counted t on past i k is count =
    let first = been-on (10 * (preempt_of t i).delay) i k on past is count in
    let second = been-on (10 * ((preempt_of t i).delay + (preempt_of t i).maximum_presence)) i k on past is count in
    let third = not-yet (10 * ((preempt_of t i).delay + (preempt_of t i).maximum_presence)) k in
    rw (first, second, third, is) refl
