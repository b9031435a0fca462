-- A cabinet history keeps the opening tables and drift of its history, and each event that it brings may come: tables
-- are put in force only where they break no rule together with those then in force.
use Rattle.std.proofs.Common.{◌≡◌, List, [], ◌∷◌, Ok, Err, refl, sym, subst, inl, inr}
use Rattle.std.specs.Prelude.{Bool}
use Rattle.sig_types.specs.declared.notes.Broken.{Broken}
use Rattle.sig_types.specs.declared.notes.StageAnswer.{StageAnswer}
use Rattle.sig_types.specs.declared.notes.StageAnswer.TheVariants.{Staged, Repeated, Verified, Accepted, WrongToken, WrongPart, NotVerified, Refused}
use Rattle.sig_tables.specs.declared.tables.Tables.{Tables}
use Rattle.sig_tables.specs.Past.{Event, Tick, Input, Install, SetPattern, SetClock, Ask, Cancel, SetDrift, History}
use Rattle.sig_tables.specs.Decide.{past_at, since_opening}
use Rattle.rule_book.specs.Rules.{broken, first_of, Consistent}
use Rattle.rule_facts.specs.Admitted.{Admitted}
use Rattle.stage_txn.specs.Calls.{Call, Answered, Begin, Part, Verify, Finish}
use Rattle.stage_txn.specs.Answers.{answered, staged, first_broken}
use Rattle.stage_txn.specs.Laws.{InstallsWhatKeepsRules}
use Rattle.plan_facts.specs.Disturbances.{Drift, drift_of}
use Rattle.cabinet_history.specs.CabinetHistory.{CabinetHistory}
use Rattle.cabinet_history.specs.Coming.{Coming, past_of, in_force, is_flashing, answer_in, installs, with_events, coming, coming_from, history_of}
use Rattle.cabinet_laws.specs.Openings.{IsOpening}
use Rattle.cabinet_laws.proofs.Steps.{IsPlain, IsMadeAt, called, happened, Any, any, cabinet_history-keeps}

-- ---- the opening tables and the drift stay

-- the history was opened with these tables and this drift
record Begun (t : Tables) (d : Drift) (c : Coming) : Type 0 where
  tables : c.history.tables ≡ t
  drift : drift_of (past_of c) ≡ d

plain-begun : (t : Tables) (d : Drift) (c : Coming) (e : Event) → IsPlain e → Begun t d c → Begun t d (happened c e)
plain-begun t d c Tick is b = record { tables = b.tables; drift = b.drift }
plain-begun t d c (Input field) is b = record { tables = b.tables; drift = b.drift }
plain-begun t d c (Install tables) is b = absurd is
plain-begun t d c (SetPattern n) is b = record { tables = b.tables; drift = b.drift }
plain-begun t d c (SetClock time) is b = record { tables = b.tables; drift = b.drift }
plain-begun t d c (Ask request) is b = record { tables = b.tables; drift = b.drift }
plain-begun t d c (Cancel number) is b = record { tables = b.tables; drift = b.drift }
plain-begun t d c (SetDrift gain lose) is b = absurd is

install-begun : (t : Tables) (d : Drift) (c : Coming) (call : Call) (next : Tables) (a : StageAnswer) → Begun t d c
    → Begun t d (record { history = with_events c.history (installs next a); calls = call ∷ c.calls })
install-begun t d c call next Accepted b = record { tables = b.tables; drift = b.drift }
install-begun t d c call next Staged b = record { tables = b.tables; drift = b.drift }
install-begun t d c call next Repeated b = record { tables = b.tables; drift = b.drift }
install-begun t d c call next Verified b = record { tables = b.tables; drift = b.drift }
install-begun t d c call next WrongToken b = record { tables = b.tables; drift = b.drift }
install-begun t d c call next (WrongPart n) b = record { tables = b.tables; drift = b.drift }
install-begun t d c call next NotVerified b = record { tables = b.tables; drift = b.drift }
install-begun t d c call next (Refused broken) b = record { tables = b.tables; drift = b.drift }

call-begun : (t : Tables) (d : Drift) (c : Coming) (call : Call) → Begun t d c → Begun t d (called c call)
call-begun t d c (Begin id now) b = record { tables = b.tables; drift = b.drift }
call-begun t d c (Part id number cells) b = record { tables = b.tables; drift = b.drift }
call-begun t d c (Verify id total now flashing) b = record { tables = b.tables; drift = b.drift }
call-begun t d c (Finish id now flashing) b =
    install-begun t d c (Finish id now flashing) (staged (answered c.calls)) (answer_in c (Finish id now flashing)) b

opens-begun : (t : Tables) (d : Drift) (h : History) → IsOpening t d h → Begun t d (record { history = h; calls = [] })
opens-begun t d h (command, clock, inl (e, even)) =
    subst (λ (x : History). Begun t d (record { history = x; calls = [] })) (sym e) (record { tables = refl; drift = sym even })
opens-begun t d h (command, clock, inr e) =
    subst (λ (x : History). Begun t d (record { history = x; calls = [] })) (sym e) (record { tables = refl; drift = refl })

cabinet_history-begun : (cabinet_history : CabinetHistory) (t : Tables) (d : Drift) → IsOpening t d cabinet_history.opening → Begun t d (coming cabinet_history)
cabinet_history-begun cabinet_history t d opens =
    cabinet_history-keeps Any (Begun t d) (record { event = plain-begun t d; call = λ c call is before after b. call-begun t d c call b })
    cabinet_history.community cabinet_history.opening (λ items. any (coming_from cabinet_history.community cabinet_history.opening items))
    (opens-begun t d cabinet_history.opening opens) cabinet_history.items

pub same-tables : (cabinet_history : CabinetHistory) (t : Tables) (d : Drift) → IsOpening t d cabinet_history.opening → (history_of cabinet_history).tables ≡ t
same-tables cabinet_history t d opens = (cabinet_history-begun cabinet_history t d opens).tables

pub same-drift : (cabinet_history : CabinetHistory) (t : Tables) (d : Drift) → IsOpening t d cabinet_history.opening → drift_of (past_at (history_of cabinet_history)) ≡ d
same-drift cabinet_history t d opens = (cabinet_history-begun cabinet_history t d opens).drift

-- ---- each event may come

-- each of the tables of a history passed the rules
abbrev IsLawful : Coming → Type 0
IsLawful c = Admitted c.history.tables (since_opening c.history)

plain-lawful : (c : Coming) (e : Event) → IsPlain e → IsLawful c → IsLawful (happened c e)
plain-lawful c Tick is l = (l.0, (tt, l.1))
plain-lawful c (Input field) is l = (l.0, (tt, l.1))
plain-lawful c (Install tables) is l = absurd is
plain-lawful c (SetPattern n) is l = (l.0, (tt, l.1))
plain-lawful c (SetClock time) is l = (l.0, (tt, l.1))
plain-lawful c (Ask request) is l = (l.0, (tt, l.1))
plain-lawful c (Cancel number) is l = (l.0, (tt, l.1))
plain-lawful c (SetDrift gain lose) is l = absurd is

none-broken : (b : List Broken) → first_of b ≡ Ok tt → b ≡ []
none-broken [] e = refl
none-broken (b ∷ rest) e = absurd (let bad : Err b ≡ Ok tt = e in cc)

no-rule : (t in_force : Tables) (flashing : Bool) → first_broken t in_force flashing ≡ Ok tt → broken t in_force flashing ≡ []
unfolding first_broken
no-rule t in_force flashing e = none-broken (broken t in_force flashing) e

-- the staged tables may be put in force where the answer says so
install-lawful : (c : Coming) (call : Call) (next : Tables) (a : StageAnswer)
    → (a ≡ Accepted → broken next (in_force c) (is_flashing (past_of c)) ≡ []) → IsLawful c
    → IsLawful (record { history = with_events c.history (installs next a); calls = call ∷ c.calls })
install-lawful c call next Accepted passed l = (l.0, (passed refl, l.1))
install-lawful c call next Staged passed l = l
install-lawful c call next Repeated passed l = l
install-lawful c call next Verified passed l = l
install-lawful c call next WrongToken passed l = l
install-lawful c call next (WrongPart n) passed l = l
install-lawful c call next NotVerified passed l = l
install-lawful c call next (Refused b) passed l = l

call-lawful : ((past : List Answered) → InstallsWhatKeepsRules past) → (c : Coming) (call : Call) → IsMadeAt c call → IsLawful c
    → IsLawful (called c call)
call-lawful fit c (Begin id now) is l = l
call-lawful fit c (Part id number cells) is l = l
call-lawful fit c (Verify id total now flashing) is l = l
call-lawful fit c (Finish id now flashing) is l =
    install-lawful c (Finish id now flashing) (staged (answered c.calls)) (answer_in c (Finish id now flashing)) passed l
  where
    passed : answer_in c (Finish id now flashing) ≡ Accepted → broken (staged (answered c.calls)) (in_force c) (is_flashing (past_of c)) ≡ []
    passed e =
        let rules : broken (staged (answered c.calls)) now flashing ≡ []
        = no-rule (staged (answered c.calls)) now flashing (fit (answered c.calls) id now flashing e).rules in
        subst (λ (f : Bool). broken (staged (answered c.calls)) (in_force c) f ≡ []) is.1.1
        (subst (λ (x : Tables). broken (staged (answered c.calls)) x flashing ≡ []) is.1.0 rules)

opens-lawful : (t : Tables) (d : Drift) (h : History) → IsOpening t d h → Consistent t → IsLawful (record { history = h; calls = [] })
opens-lawful t d h (command, clock, inl (e, even)) fits =
    subst (λ (x : History). IsLawful (record { history = x; calls = [] })) (sym e) (fits, (tt, (tt, tt)))
opens-lawful t d h (command, clock, inr e) fits =
    subst (λ (x : History). IsLawful (record { history = x; calls = [] })) (sym e) (fits, (tt, (tt, (tt, tt))))

pub cabinet_history-lawful : ((past : List Answered) → InstallsWhatKeepsRules past) → (cabinet_history : CabinetHistory) (t : Tables) (d : Drift)
    → IsOpening t d cabinet_history.opening → Consistent t → Admitted (history_of cabinet_history).tables (since_opening (history_of cabinet_history))
cabinet_history-lawful fit cabinet_history t d opens fits =
    cabinet_history-keeps Any IsLawful (record { event = plain-lawful; call = λ c call is before after l. call-lawful fit c call is l })
    cabinet_history.community cabinet_history.opening (λ items. any (coming_from cabinet_history.community cabinet_history.opening items))
    (opens-lawful t d cabinet_history.opening opens fits) cabinet_history.items
