-- The least preempt that is called, and the stage that follows the last frame.
use Rattle.std.proofs.Common.{◌≡◌, ◌<◌, ◌≤◌, ◌⊎◌, ℕ, Bool, true, false, List, [], sym, ◌∙◌, ap, arith}
use Rattle.std.specs.Prelude.{Option, Some}
use Rattle.sig_types.specs.declared.frame.Frame.{Frame}
use Rattle.sig_types.specs.declared.frame.Mode.{Mode}
use Rattle.sig_types.specs.declared.frame.Mode.TheVariants.{Entry}
use Rattle.sig_types.specs.declared.phase_set.PhaseSet.{PhaseSet}
use Rattle.sig_types.specs.Phases.{is_in}
use Rattle.sig_types.specs.PhaseSet.{has, phases_of}
use Rattle.sig_types.proofs.Sets.{in-phases}
use Rattle.sig_tables.specs.declared.tables.Tables.{Tables}
use Rattle.sig_tables.specs.Past.{Moment}
use Rattle.sig_tables.specs.Looking.{last_frame}
use Rattle.sig_tables.specs.Preempts.{is_preempt_called, preempt_called, breaks_in, stage_after, stage_now}
use Rattle.sig_tables.proofs.Below.{phase-is}
use Rattle.preempt_stages.proofs.Least.{least-none}
use Rattle.preempt_stages.proofs.Inputs.{not-called}

-- where no input is on, none is called
pub none-on : (t : Tables) (on : PhaseSet) (inputs : List ℕ) (past : List Moment)
    → ((i : ℕ) → 0 < i → i ≤ 8 → has on i ≡ is_in inputs i) → phases_of on ≡ [] → preempt_called t inputs past ≡ 0
none-on t on inputs past are empty =
    least-none (is_preempt_called t inputs past) (λ k above within.
    let few : k ≤ 16 = omega arith in
    not-called t inputs past k
    (sym (are k above within)
    ∙ sym (in-phases (has on) k (phase-is k above few))
    ∙ ap (λ (xs : List ℕ). is_in xs k) empty))

-- the least preempt that is called breaks in
pub breaks : (t : Tables) (inputs : List ℕ) (past : List Moment) (j : ℕ) (f : Frame) (told : Bool) → j ≡ preempt_called t inputs past
    → f ≡ last_frame past → told ≡ breaks_in j f.mode → told ≡ true → Some (Entry j) ≡ stage_now t inputs past
breaks t inputs past j f told called last is passes =
    let b : breaks_in (preempt_called t inputs past) (last_frame past).mode ≡ true = rw (← called, ← last) (sym is ∙ passes) in
    rw b (ap (λ (i : ℕ). Some (Entry i)) called)

-- or none does, and the stage advances by itself
pub goes-on : (t : Tables) (inputs : List ℕ) (past : List Moment) (j : ℕ) (f : Frame) (told : Bool) (next : Option Mode)
    → j ≡ preempt_called t inputs past → f ≡ last_frame past → told ≡ breaks_in j f.mode → told ≡ false
    → next ≡ stage_after t f.mode inputs past → next ≡ stage_now t inputs past
goes-on t inputs past j f told next called last is fails after =
    let b : breaks_in (preempt_called t inputs past) (last_frame past).mode ≡ false = rw (← called, ← last) (sym is ∙ fails) in
    rw b (after ∙ ap (λ (g : Frame). stage_after t g.mode inputs past) last)

-- no number but 1 to 8 is called
pub none-beyond : (t : Tables) (inputs : List ℕ) (past : List Moment) (i : ℕ) → ((j : ℕ) → (j ≡ 0) ⊎ (8 < j) → is_in inputs j ≡ false)
    → (i ≡ 0) ⊎ (8 < i) → false ≡ is_preempt_called t inputs past i
none-beyond t inputs past i none beyond = sym (not-called t inputs past i (none i beyond))
