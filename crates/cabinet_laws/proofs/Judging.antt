-- A download that ends is accepted or refused by what the rules say of the staged tables then.
use Rattle.std.proofs.Common.{◌≡◌, ◌≢◌, ℕ, ◌+◌, ◌==◌, List, ◌∷◌, Option, Some, None, Result, Ok, Err, refl, ap, Bool, true, false}
use Rattle.std.specs.Prelude.{if◌then◌else◌, IfSome}
use Rattle.sig_types.specs.declared.notes.Broken.{Broken}
use Rattle.sig_types.specs.declared.notes.StageAnswer.{StageAnswer}
use Rattle.sig_types.specs.declared.notes.StageAnswer.TheVariants.{Staged, Repeated, Verified, Accepted, WrongToken, WrongPart, NotVerified, Refused}
use Rattle.sig_tables.specs.declared.tables.Tables.{Tables}
use Rattle.stage_txn.specs.declared.StageState.{StageState}
use Rattle.stage_txn.specs.declared.StageState.TheVariants.{Rest, Open, Checked, Done}
use Rattle.stage_txn.specs.Calls.{Answered, Verify as VerifyCall, Finish as FinishCall}
use Rattle.stage_txn.specs.Answers.{answered, answer_to, kept, taken, staged, stage_state, first_broken, unless_broken, judged, verify_answer, finish_answer}
use Rattle.stage_txn.specs.Laws.{InstallsWhatKeepsRules}
use Rattle.agent.specs.declared.ask.Wish.{Wish}
use Rattle.agent.specs.declared.ask.Wish.TheVariants.{Get, Next, Direct, Begin, Part, Verify, Finish, Bad}
use Rattle.agent.specs.declared.ask.Ask.{Ask}
use Rattle.sig_types.specs.Items.{Came}
use Rattle.cabinet_history.specs.declared.Load.{Load}
use Rattle.cabinet_history.specs.CabinetHistory.{CabinetHistory, with_item}
use Rattle.cabinet_history.specs.Coming.{Coming, in_force, past_of, is_flashing, answer_in, outcome, installs, with_events, carried_out, heeded, coming, ask_after}
use Rattle.cabinet_history.specs.CabinetAnswers.{verify_end, finish_end, wish_end, ask_end, load_end}
use Rattle.cabinet_laws.specs.Judging.{IsVerdict}

-- ---- a refusal names the first rule

by-rules : (r : Result (Unit {0}) Broken) (answer : StageAnswer) (b : Broken) → answer ≢ Refused b → unless_broken r answer ≡ Refused b → r ≡ Err b
by-rules (Ok fit) answer b other e = absurd (other e)
by-rules (Err broken) answer b other e = ap Err (let same : Refused broken ≡ Refused b = e in cc)

verify-rules : (s : StageState) (complete : Bool) (due : ℕ) (by_rules : StageAnswer) (b : Broken)
    → verify_answer s complete due by_rules ≡ Refused b → by_rules ≡ Refused b
verify-rules Rest true due by_rules b e = e
verify-rules Rest false due by_rules b e = absurd (let bad : WrongPart due ≡ Refused b = e in cc)
verify-rules Open true due by_rules b e = e
verify-rules Open false due by_rules b e = absurd (let bad : WrongPart due ≡ Refused b = e in cc)
verify-rules Checked complete due by_rules b e = absurd (let bad : Repeated ≡ Refused b = e in cc)
verify-rules Done complete due by_rules b e = absurd (let bad : Repeated ≡ Refused b = e in cc)

finish-rules : (s : StageState) (by_rules : StageAnswer) (b : Broken) → finish_answer s by_rules ≡ Refused b → by_rules ≡ Refused b
finish-rules Rest by_rules b e = absurd (let bad : NotVerified ≡ Refused b = e in cc)
finish-rules Open by_rules b e = absurd (let bad : NotVerified ≡ Refused b = e in cc)
finish-rules Checked by_rules b e = e
finish-rules Done by_rules b e = absurd (let bad : Repeated ≡ Refused b = e in cc)

of-token : (same : Bool) (answer : StageAnswer) (b : Broken) → (if same then answer else WrongToken) ≡ Refused b → answer ≡ Refused b
of-token true answer b e = e
of-token false answer b e = absurd (let bad : WrongToken ≡ Refused b = e in cc)

verify-refused : (past : List Answered) (id total : ℕ) (now : Tables) (flashing : Bool) (b : Broken)
    → answer_to past (VerifyCall id total now flashing) ≡ Refused b → first_broken (staged past) now flashing ≡ Err b
verify-refused past id total now flashing b e =
    by-rules (first_broken (staged past) now flashing) Verified b (λ f. cc)
    (verify-rules (stage_state past) (total == taken past) (taken past + 1) (judged (staged past) now flashing Verified) b
    (of-token (id == kept past) (verify_answer (stage_state past) (total == taken past) (taken past + 1) (judged (staged past) now flashing Verified)) b e))

finish-refused : (past : List Answered) (id : ℕ) (now : Tables) (flashing : Bool) (b : Broken)
    → answer_to past (FinishCall id now flashing) ≡ Refused b → first_broken (staged past) now flashing ≡ Err b
finish-refused past id now flashing b e =
    by-rules (first_broken (staged past) now flashing) Accepted b (λ f. cc)
    (finish-rules (stage_state past) (judged (staged past) now flashing Accepted) b
    (of-token (id == kept past) (finish_answer (stage_state past) (judged (staged past) now flashing Accepted)) b e))

-- ---- the end of a load

-- what a load says that a cabinet ends
abbrev Says : Coming → Coming → Option Load → Type 0
Says c after load = IfSome load (λ l. IsVerdict c after l.result)

verify-says : (c after : Coming) (id total : ℕ) (a : StageAnswer)
    → answer_in c (VerifyCall id total (in_force c) (is_flashing (past_of c))) ≡ a → Says c after (verify_end id (Some a))
verify-says c after id total (Refused b) e = verify-refused (answered c.calls) id total (in_force c) (is_flashing (past_of c)) b e
verify-says c after id total Staged e = tt
verify-says c after id total Repeated e = tt
verify-says c after id total Verified e = tt
verify-says c after id total Accepted e = tt
verify-says c after id total WrongToken e = tt
verify-says c after id total (WrongPart n) e = tt
verify-says c after id total NotVerified e = tt

finish-says : ((past : List Answered) → InstallsWhatKeepsRules past) → (c : Coming) (id : ℕ) (a : StageAnswer)
    → answer_in c (FinishCall id (in_force c) (is_flashing (past_of c))) ≡ a
    → Says c
    (record { history = with_events c.history (installs (staged (answered c.calls)) a); calls = FinishCall id (in_force c) (is_flashing (past_of c)) ∷ c.calls })
    (finish_end (past_of c).version id (Some a))
finish-says fit c id Accepted e = ((fit (answered c.calls) id (in_force c) (is_flashing (past_of c)) e).rules, refl)
finish-says fit c id (Refused b) e = finish-refused (answered c.calls) id (in_force c) (is_flashing (past_of c)) b e
finish-says fit c id Staged e = tt
finish-says fit c id Repeated e = tt
finish-says fit c id Verified e = tt
finish-says fit c id WrongToken e = tt
finish-says fit c id (WrongPart n) e = tt
finish-says fit c id NotVerified e = tt

wish-says : ((past : List Answered) → InstallsWhatKeepsRules past) → (c : Coming) (wish : Wish)
    → Says c (carried_out c wish) (wish_end (past_of c).version wish (outcome c wish))
wish-says fit c (Verify id total) =
    verify-says c (carried_out c (Verify id total)) id total (answer_in c (VerifyCall id total (in_force c) (is_flashing (past_of c)))) refl
wish-says fit c (Finish id) = finish-says fit c id (answer_in c (FinishCall id (in_force c) (is_flashing (past_of c)))) refl
wish-says fit c (Direct orders) = tt
wish-says fit c (Begin id) = tt
wish-says fit c (Part id number puts) = tt
wish-says fit c Get = tt
wish-says fit c Next = tt
wish-says fit c (Bad status index) = tt

ask-says : ((past : List Answered) → InstallsWhatKeepsRules past) → (c : Coming) (ask : Option Ask) → Says c (heeded c ask) (ask_end c ask)
ask-says fit c (Some ask) = wish-says fit c ask.wish
ask-says fit c None = tt

pub load-says : ((past : List Answered) → InstallsWhatKeepsRules past) → (cabinet_history : CabinetHistory) (octets : List ℕ)
    → IfSome (load_end cabinet_history octets) (λ load. IsVerdict (coming cabinet_history) (coming (with_item cabinet_history (Came octets))) load.result)
load-says fit cabinet_history octets = ask-says fit (coming cabinet_history) (ask_after cabinet_history octets)
