-- What is accepted can be run.
use Rattle.std.proofs.Common.{◌≡◌, ℕ, ◌==◌, Bool, true, false, if◌then◌else◌, List, [], ◌∷◌, refl, Result, Ok, Err}
use Rattle.sig_types.specs.declared.notes.Broken.{Broken}
use Rattle.sig_types.specs.declared.notes.StageAnswer.TheVariants.{Accepted, WrongToken}
use Rattle.sig_tables.specs.declared.tables.Tables.{Tables}
use Rattle.rule_book.specs.Rules.{broken, first_of}
use Rattle.rule_facts.proofs.Facts.{accepted-consistent, times-hold}
use Rattle.tick_context.specs.CanRun.{CanRun}
use Rattle.stage_txn.specs.Calls.{Answered, Finish}
use Rattle.stage_txn.specs.Answers.{kept, staged, stage_state, finish_answer, judged, first_broken, unless_broken, answer_to}
use Rattle.cabinet_history.proofs.Installing.{accepted-checked}

unbroken : (r : Result (Unit {0}) Broken) → unless_broken r Accepted ≡ Accepted → r ≡ Ok tt
unbroken (Ok tt) e = refl
unbroken (Err b) e = absurd cc

none_broken : (found : List Broken) → first_of found ≡ Ok tt → found ≡ []
none_broken [] e = refl
none_broken (b ∷ rest) e = absurd cc

runs-them : (t in_force : Tables) (flashing : Bool) → first_broken t in_force flashing ≡ Ok tt → CanRun t
unfolding first_broken
runs-them t in_force flashing e =
    let holds = (times-hold t (accepted-consistent t in_force flashing (none_broken (broken t in_force flashing) e))).correction in
    record { adds = holds.add; subtracts = holds.subtract }

-- what is accepted can be run
pub accepted-runs : (id : ℕ) (t : Tables) (flashing : Bool) (past : List Answered) → answer_to past (Finish id t flashing) ≡ Accepted → CanRun (staged past)
accepted-runs id t flashing past e = own (id == kept past) e
  where
    own : (same : Bool) → (if same then finish_answer (stage_state past) (judged (staged past) t flashing Accepted) else WrongToken) ≡ Accepted → CanRun (staged past)
    own true a =
        let by_rules = (accepted-checked (stage_state past) (judged (staged past) t flashing Accepted) Accepted a (λ e. cc) (λ e. cc)).1 in
        runs-them (staged past) t flashing (unbroken (first_broken (staged past) t flashing) by_rules)
    own false a = absurd cc
