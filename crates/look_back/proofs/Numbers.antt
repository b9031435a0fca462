-- Rows as numbers, with one moment more.
use Rattle.std.proofs.Common.{◌≡◌, ◌≢◌, ◌≤◌, ◌<◌, ◌+◌, ◌-◌, ◌==◌, ℕ, zero, suc, min, Bool, true, false, List, [], ◌∷◌, get_or, replicate, refl, sym, ◌∙◌, ap, subst, arith, eq-eqb}
use Rattle.std.proofs.lemmas.Bool.{ne_eqb, eqb-false}
use Rattle.std.proofs.lemmas.List.{get_or-replicate}
use Rattle.sig_types.proofs.Lists.{eq-true}
use Rattle.sig_tables.specs.Past.{Moment}
use Rattle.sig_tables.specs.Modes.{stage_of}
use Rattle.sig_tables.specs.Looking.{in_a_row, lasts, last_frame, last_on, latest_on}
use Rattle.sig_types.specs.declared.phase_set.PhaseSet.{PhaseSet}
use Rattle.sig_types.specs.Phases.{is_in}
use Rattle.sig_types.specs.PhaseSet.{has}
use Rattle.sig_types.specs.Colour.{on_in, is_start}
use Rattle.look_back.specs.declared.row.Row.{Row}
use Rattle.look_back.specs.LastOn.{on_after, latest_after}
use Rattle.look_back.specs.Rows.{most, no_row, RowStands, RowSteps, StagesStep}

-- one more moment that passes, and one that does not
pub row-more : (old new : Row) → new.frames ≡ min (old.frames + 1) most → RowSteps old new true
row-more old new e test past m stands is = rw (← is) (e ∙ omega (arith, stands))

pub row-ends : (old new : Row) → new.frames ≡ 0 → RowSteps old new false
row-ends old new e test past m stands is = rw (← is) e

-- the frames of a stage continue
pub stage-more : (old new : Row) → RowSteps old new true → StagesStep old new true
stage-more old new steps before past m was is stands =
    let same : before ≡ stage_of m.frame.mode = sym (eq-true (stage_of m.frame.mode) before (sym is)) in
    let P : ℕ → Type 0 = λ i. RowStands new (λ n. stage_of n.frame.mode == i) (m ∷ past) in
    subst P same (steps (λ n. stage_of n.frame.mode == before) past m stands is)

-- the last moment, where there is one, serves another preempt
none-of : (i before : ℕ) (past : List Moment) → before ≡ stage_of (last_frame past).mode → (i == before) ≡ false
    → in_a_row (λ n. stage_of n.frame.mode == i) past ≡ 0
none-of i before [] was other = refl
none-of i before (n ∷ past) was other =
    let e : (stage_of n.frame.mode == i) ≡ false = ne_eqb (stage_of n.frame.mode) i (λ k. eqb-false i before other (sym k ∙ sym was)) in
    rw e refl

-- and restart
pub stage-anew : (old none new : Row) → ((test : Moment → Bool) → RowStands none test []) → RowSteps none new true → StagesStep old new false
stage-anew old none new fresh steps before past m was is stands =
    let one : new.frames ≡ 1 = steps (λ n. true) [] m (fresh (λ n. true)) refl in
    let self : (stage_of m.frame.mode == stage_of m.frame.mode) ≡ true = eq-eqb (stage_of m.frame.mode) (stage_of m.frame.mode) refl in
    rw (self, none-of (stage_of m.frame.mode) before past was (sym is)) one

-- a preempt that is not served has lasted for no time at all
pub unserved : (n i before : ℕ) (past : List Moment) → before ≡ stage_of (last_frame past).mode → (i == before) ≡ false
    → (n == 0) ≡ lasts n (λ m. stage_of m.frame.mode == i) past
unserved zero i before past was other = refl
unserved (suc n) i before [] was other = let some : suc n ≢ 0 = omega arith in rw (ne_eqb (suc n) 0 some) refl
unserved (suc n) i before (m ∷ past) was other =
    let some : suc n ≢ 0 = omega arith in
    let e : (stage_of m.frame.mode == i) ≡ false = ne_eqb (stage_of m.frame.mode) i (λ k. eqb-false i before other (sym k ∙ sym was)) in
    rw (ne_eqb (suc n) 0 some, e) refl

-- the phase that was last on in a ring, with one frame more
pub on-steps : (r : ℕ) (m : Moment) (past : List Moment) (starts : Bool) (on before : ℕ) → starts ≡ is_start m.frame.mode → on ≡ on_in m.frame r
    → before ≡ last_on r past → on_after before starts on ≡ last_on r (m ∷ past)
on-steps r m past starts on before s o b = rw (s, o, b) refl

pub latest-steps : (m : Moment) (past : List Moment) (starts : Bool) (first second before : ℕ) → starts ≡ is_start m.frame.mode
    → first ≡ on_in m.frame 1 → second ≡ on_in m.frame 2 → before ≡ latest_on past
    → latest_after before starts first second ≡ latest_on (m ∷ past)
latest-steps m past starts first second before s f g b = rw (s, f, g, b) refl

-- the rows of the inputs, with one tick more
pub inputs-step : (old new : List Row) (on : PhaseSet) (past : List Moment) (m : Moment)
    → ((k : ℕ) → k < 8 → RowSteps (get_or old k no_row) (get_or new k no_row) (has on (k + 1)))
    → ((i : ℕ) → 0 < i → i ≤ 8 → has on i ≡ is_in m.preempts i)
    → ((i : ℕ) → 0 < i → i ≤ 8 → RowStands (get_or old (i - 1) no_row) (λ n. is_in n.preempts i) past)
    → (i : ℕ) → 0 < i → i ≤ 8 → RowStands (get_or new (i - 1) no_row) (λ n. is_in n.preempts i) (m ∷ past)
inputs-step old new on past m steps saw stands i above below =
    let few : i - 1 < 8 = omega arith in
    let place : i - 1 + 1 ≡ i = omega arith in
    let told : has on (i - 1 + 1) ≡ is_in m.preempts i = ap (λ (q : ℕ). has on q) place ∙ saw i above below in
    steps (i - 1) few (λ n. is_in n.preempts i) past m (stands i above below) told

-- before any frame no input has been on
pub inputs-first : (rows : List Row) (row : Row) (i : ℕ) → 0 < i → i ≤ 8 → rows ≡ replicate 8 row
    → ((test : Moment → Bool) → RowStands row test []) → RowStands (get_or rows (i - 1) no_row) (λ m. is_in m.preempts i) []
inputs-first rows row i above below e fresh =
    let few : i - 1 < 8 = omega arith in
    let one : get_or rows (i - 1) no_row ≡ row = ap (λ (xs : List Row). get_or xs (i - 1) no_row) e ∙ get_or-replicate 8 (i - 1) row no_row few in
    rw one (fresh (λ m. is_in m.preempts i))
