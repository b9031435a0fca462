-- Downloads that are put in force are no more than ids have been begun.
use Rattle.std.proofs.Common.{◌≡◌, ◌≤◌, ◌<◌, ℕ, ◌+◌, ◌==◌, ◌∙◌, Bool, true, false, inl, inr, if◌then◌else◌, nat_lt, List, ◌∷◌, refl, sym, arith}
use Rattle.std.proofs.lemmas.Bool.{false≢true, ltb-false}
use Rattle.std.proofs.lemmas.Bool.Decides.{eqb_tells}
use Rattle.sig_types.specs.declared.notes.StageAnswer.{StageAnswer}
use Rattle.sig_types.specs.declared.notes.StageAnswer.TheVariants.{Staged, Repeated, Verified, Accepted, WrongToken, WrongPart, NotVerified, Refused}
use Rattle.sig_tables.specs.declared.tables.Tables.{Tables}
use Rattle.sig_tables.specs.declared.cells.Cell.{Cell}
use Rattle.sig_tables.specs.Cells.{Content}
use Rattle.stage_txn.specs.declared.StageState.{StageState}
use Rattle.stage_txn.specs.declared.StageState.TheVariants.{Rest, Open, Checked, Done}
use Rattle.stage_txn.specs.Calls.{Answered, Deed, begin_deed, part_deed, verify_deed, finish_deed, kept_by, deeds}
use Rattle.stage_txn.specs.Calls.{Begin, Part, Verify, Finish}
use Rattle.stage_txn.specs.Answers.{stage_state_by, kept, taken, staged, stage_state, verify_answer, finish_answer, judged, answer_to, with_answer}
use Rattle.cabinet_history.specs.Installs.{FewInstalls}

pub few-within : (v k : ℕ) (s : StageState) → FewInstalls v k s → v ≤ k
few-within v k Rest few = omega (arith, few.0)
few-within v k Open few = omega (arith, few)
few-within v k Checked few = omega (arith, few)
few-within v k Done few = few

-- by the deeds
abbrev pub Few : ℕ → List Deed → Type 0
Few v past = FewInstalls v (kept_by past) (stage_state_by past)

pub few-begin : (v id : ℕ) (t : Tables) (past : List Answered) → Few v (deeds past) → Few v (deeds (with_answer (Begin id t) past))
few-begin v id t past few = split (id == kept past) (nat_lt id (kept past)) refl refl
  where
    split : (same less : Bool) → (id == kept past) ≡ same → nat_lt id (kept past) ≡ less
        → Few v (begin_deed id t (if same then Repeated else if less then WrongToken else Staged) ∷ deeds past)
    split true less e f = few
    split false true e f = few
    split false false e f = elim (eqb_tells id (kept past)) [
      | inl (u, same) ↦ absurd (false≢true (sym e ∙ u))
      | inr (u, ne) ↦ omega (arith, few-within v (kept past) (stage_state past) few, ne, ltb-false id (kept past) f)
    ]

pub few-part : (v id number : ℕ) (cells : List (Cell × Content)) (past : List Answered) → Few v (deeds past)
    → Few v (deeds (with_answer (Part id number cells) past))
few-part v id number cells past few = cases (answer_to past (Part id number cells))
  where
    cases : (a : StageAnswer) → Few v (part_deed cells a ∷ deeds past)
    cases Staged = few
    cases Repeated = few
    cases Verified = few
    cases Accepted = few
    cases WrongToken = few
    cases (WrongPart n) = few
    cases NotVerified = few
    cases (Refused b) = few

verified-open : (v k due : ℕ) (s : StageState) (all : Bool) (by_rules : StageAnswer) → 1 ≤ k → FewInstalls v k s
    → verify_answer s all due by_rules ≡ Verified → v < k
verified-open v k due Rest all by_rules some few e = absurd (omega (arith, some, few.1))
verified-open v k due Open all by_rules some few e = few
verified-open v k due Checked all by_rules some few e = few
verified-open v k due Done all by_rules some few e = absurd cc

pub few-verify : (v id total : ℕ) (t : Tables) (flashing : Bool) (past : List Answered) → 1 ≤ id → Few v (deeds past)
    → Few v (deeds (with_answer (Verify id total t flashing) past))
few-verify v id total t flashing past some few = cases (answer_to past (Verify id total t flashing)) (own (id == kept past) refl)
  where
    stage : StageAnswer
    stage = verify_answer (stage_state past) (total == taken past) (taken past + 1) (judged (staged past) t flashing Verified)

    own : (same : Bool) → (id == kept past) ≡ same → (if same then stage else WrongToken) ≡ Verified → v < kept past
    own true e a = elim (eqb_tells id (kept past)) [
      | inl (u, same) ↦ verified-open v (kept past) (taken past + 1) (stage_state past) (total == taken past) _ (omega (arith, some, same)) few a
      | inr (u, ne) ↦ absurd (false≢true (sym u ∙ e))
    ]
    own false e a = absurd cc

    cases : (a : StageAnswer) → (a ≡ Verified → v < kept past) → Few v (verify_deed a ∷ deeds past)
    cases Staged less = few
    cases Repeated less = few
    cases Verified less = less refl
    cases Accepted less = few
    cases WrongToken less = few
    cases (WrongPart n) less = few
    cases NotVerified less = few
    cases (Refused b) less = few

pub accepted-checked : (s : StageState) (by_rules a : StageAnswer) → finish_answer s by_rules ≡ a → (a ≡ Repeated → ⊥) → (a ≡ NotVerified → ⊥)
    → (s ≡ Checked) × (by_rules ≡ a)
accepted-checked Rest by_rules a e again early = absurd (early (sym e))
accepted-checked Open by_rules a e again early = absurd (early (sym e))
accepted-checked Checked by_rules a e again early = (refl, e)
accepted-checked Done by_rules a e again early = absurd (again (sym e))

-- the version after a finish with this answer
abbrev pub version_after : ℕ → StageAnswer → ℕ
version_after v Accepted = v + 1
version_after v _ = v

pub few-finish : (v id : ℕ) (t : Tables) (flashing : Bool) (past : List Answered) → Few v (deeds past)
    → Few (version_after v (answer_to past (Finish id t flashing))) (deeds (with_answer (Finish id t flashing) past))
few-finish v id t flashing past few = cases (answer_to past (Finish id t flashing)) (own (id == kept past))
  where
    stage : StageAnswer
    stage = finish_answer (stage_state past) (judged (staged past) t flashing Accepted)

    checked : (s : StageState) → s ≡ Checked → FewInstalls v (kept past) s → v < kept past
    checked Checked e few = few
    checked Rest e few = absurd cc
    checked Open e few = absurd cc
    checked Done e few = absurd cc

    own : (same : Bool) (a : StageAnswer) → (if same then stage else WrongToken) ≡ a → (a ≡ Repeated → ⊥) → (a ≡ NotVerified → ⊥) → (a ≡ WrongToken → ⊥) → v < kept past
    own true a e again early other = checked (stage_state past) (accepted-checked (stage_state past) _ a e again early).0 few
    own false a e again early other = absurd (other (sym e))

    cases : (a : StageAnswer) → ((b : StageAnswer) → a ≡ b → (b ≡ Repeated → ⊥) → (b ≡ NotVerified → ⊥) → (b ≡ WrongToken → ⊥) → v < kept past)
        → Few (version_after v a) (finish_deed a ∷ deeds past)
    cases Staged less = few
    cases Repeated less = few
    cases Verified less = few
    cases Accepted less =
        let lower = less Accepted refl (λ e. cc) (λ e. cc) (λ e. cc) in
        omega (arith, lower)
    cases WrongToken less = few
    cases (WrongPart n) less = few
    cases NotVerified less = few
    cases (Refused b) less = less (Refused b) refl (λ e. cc) (λ e. cc) (λ e. cc)
