-- The tables of each version are the opening ones with the content of each download up to it.
use Rattle.std.proofs.Common.{◌≡◌, ℕ, ◌+◌, ◌∙◌, List, [], ◌∷◌, length, drop, refl, sym, ap, subst, inl, inr, zero, suc, arith}
use Rattle.std.proofs.lemmas.Bool.Decides.{eqb_tells}
use Rattle.sig_types.specs.declared.notes.StageAnswer.{StageAnswer}
use Rattle.sig_types.specs.declared.notes.StageAnswer.TheVariants.{Staged, Repeated, Verified, Accepted, WrongToken, WrongPart, NotVerified, Refused}
use Rattle.sig_tables.specs.declared.tables.Tables.{Tables}
use Rattle.sig_tables.specs.declared.cells.Cell.{Cell}
use Rattle.sig_tables.specs.Cells.{Content}
use Rattle.sig_tables.specs.Past.{Event, Tick, Input, Install, SetPattern, SetClock, Ask, Cancel, SetDrift, History}
use Rattle.sig_tables.specs.Decide.{with_one, opening, opening_drifting, past_at}
use Rattle.safety_laws.specs.Written.{tables_of}
use Rattle.stage_txn.specs.Calls.{Call, Begin, Part, Verify, Finish, Deed, begin_deed, part_deed, verify_deed, finish_deed}
use Rattle.stage_txn.specs.Answers.{answered, staged}
use Rattle.sig_types.specs.Items.{Item}
use Rattle.plan_facts.specs.Disturbances.{Drift}
use Rattle.cabinet_history.specs.CabinetHistory.{CabinetHistory}
use Rattle.cabinet_history.specs.Coming.{Coming, past_of, in_force, answer_in, installs, with_events, coming, coming_from, history_of}
use Rattle.cabinet_laws.specs.Openings.{IsOpening}
use Rattle.cabinet_history.specs.Downloads.{content_by, accepted_by, with_downloads, deeds_of}
use Rattle.cabinet_history.proofs.Whole.{whole}
use Rattle.cabinet_laws.proofs.Steps.{IsPlain, called, cabinet_history-keeps}
use Rattle.cabinet_laws.proofs.Downloading.{items-whole}

-- the tables of each version of a history, from these opening tables and these downloads
abbrev Versions : Tables → History → List (List (Cell × Content)) → Type 0
Versions t h accepted =
    (version later : ℕ) → version + later ≡ length accepted → tables_of h version ≡ with_downloads t (drop later accepted)

-- what is known of all that a cabinet history comes to
record Counted (t : Tables) (c : Coming) : Type 0 where
  tables : in_force c ≡ with_downloads t (accepted_by (deeds_of c))
  number : (past_of c).version ≡ length (accepted_by (deeds_of c))

-- ---- a download that is put in force

installed-versions : (t : Tables) (h : History) (next : Tables) (content : List (Cell × Content)) (accepted : List (List (Cell × Content)))
    → (past_at h).version ≡ length accepted → next ≡ with_downloads t (content ∷ accepted) → Versions t h accepted
    → Versions t (with_one h (Install next)) (content ∷ accepted)
installed-versions t h next content accepted number made before version zero e = elim (eqb_tells version ((past_at h).version + 1)) [
  | inl (same, equal) ↦ rw same made
  | inr (other, unequal) ↦ absurd (unequal (omega (arith, e, number)))
]
installed-versions t h next content accepted number made before version (suc later) e = elim (eqb_tells version ((past_at h).version + 1)) [
  | inl (same, equal) ↦ absurd (omega (arith, e, number, equal))
  | inr (other, unequal) ↦ rw other (before version later (omega (arith, e)))
]

-- ---- each call

begin-none : (id : ℕ) (now : Tables) (a : StageAnswer) (past : List Deed) → accepted_by past ≡ accepted_by (begin_deed id now a ∷ past)
begin-none id now Staged past = refl
begin-none id now Repeated past = refl
begin-none id now Verified past = refl
begin-none id now Accepted past = refl
begin-none id now WrongToken past = refl
begin-none id now (WrongPart n) past = refl
begin-none id now NotVerified past = refl
begin-none id now (Refused b) past = refl

part-none : (cells : List (Cell × Content)) (a : StageAnswer) (past : List Deed) → accepted_by past ≡ accepted_by (part_deed cells a ∷ past)
part-none cells Staged past = refl
part-none cells Repeated past = refl
part-none cells Verified past = refl
part-none cells Accepted past = refl
part-none cells WrongToken past = refl
part-none cells (WrongPart n) past = refl
part-none cells NotVerified past = refl
part-none cells (Refused b) past = refl

verify-none : (a : StageAnswer) (past : List Deed) → accepted_by past ≡ accepted_by (verify_deed a ∷ past)
verify-none Staged past = refl
verify-none Repeated past = refl
verify-none Verified past = refl
verify-none Accepted past = refl
verify-none WrongToken past = refl
verify-none (WrongPart n) past = refl
verify-none NotVerified past = refl
verify-none (Refused b) past = refl

finish-versions : (t : Tables) (h : History) (next : Tables) (a : StageAnswer) (past : List Deed) → (past_at h).version ≡ length (accepted_by past)
    → (past_at (with_events h (installs next a))).tables ≡ with_downloads t (accepted_by (finish_deed a ∷ past)) → Versions t h (accepted_by past)
    → Versions t (with_events h (installs next a)) (accepted_by (finish_deed a ∷ past))
finish-versions t h next Accepted past number made v = installed-versions t h next (content_by past) (accepted_by past) number made v
finish-versions t h next Staged past number made v = v
finish-versions t h next Repeated past number made v = v
finish-versions t h next Verified past number made v = v
finish-versions t h next WrongToken past number made v = v
finish-versions t h next (WrongPart n) past number made v = v
finish-versions t h next NotVerified past number made v = v
finish-versions t h next (Refused b) past number made v = v

-- what holds of the versions of a cabinet
abbrev Versioned : Tables → Coming → Type 0
Versioned t c = Versions t c.history (accepted_by (deeds_of c))

call-versioned : (t : Tables) (c : Coming) (call : Call) → Counted t c → Counted t (called c call) → Versioned t c → Versioned t (called c call)
call-versioned t c (Begin id now) before after v =
    subst (Versions t c.history) (begin-none id now (answer_in c (Begin id now)) (deeds_of c)) v
call-versioned t c (Part id number cells) before after v =
    subst (Versions t c.history) (part-none cells (answer_in c (Part id number cells)) (deeds_of c)) v
call-versioned t c (Verify id total now flashing) before after v =
    subst (Versions t c.history) (verify-none (answer_in c (Verify id total now flashing)) (deeds_of c)) v
call-versioned t c (Finish id now flashing) before after v =
    finish-versions t c.history (staged (answered c.calls)) (answer_in c (Finish id now flashing)) (deeds_of c) before.number after.tables v

-- ---- other events

plain-same : (h : History) (e : Event) → IsPlain e → (version : ℕ) → tables_of (with_one h e) version ≡ tables_of h version
plain-same h Tick is version = refl
plain-same h (Input field) is version = refl
plain-same h (Install tables) is version = absurd is
plain-same h (SetPattern n) is version = refl
plain-same h (SetClock time) is version = refl
plain-same h (Ask request) is version = refl
plain-same h (Cancel number) is version = refl
plain-same h (SetDrift gain lose) is version = absurd is

none-later : (t : Tables) (h : History) → ((version : ℕ) → tables_of h version ≡ t) → Versions t h []
none-later t h same version zero e = same version
none-later t h same version (suc later) e = absurd (let bad : version + suc later ≡ 0 = e in omega (arith, bad))

opens-versions : (t : Tables) (d : Drift) (h : History) → IsOpening t d h → Versions t h []
opens-versions t d h (command, clock, inl (e, even)) =
    subst (λ (x : History). Versions t x []) (sym e) (none-later t (opening t command clock) (λ version. refl))
opens-versions t d h (command, clock, inr e) =
    subst (λ (x : History). Versions t x []) (sym e) (none-later t (opening_drifting t command clock d.gain d.lose) (λ version. refl))

opens-even : (t : Tables) (d : Drift) (h : History) → IsOpening t d h → ((past_at h).tables ≡ t) × ((past_at h).version ≡ 0)
opens-even t d h (command, clock, inl (e, even)) = (ap (λ (x : History). (past_at x).tables) e, ap (λ (x : History). (past_at x).version) e)
opens-even t d h (command, clock, inr e) = (ap (λ (x : History). (past_at x).tables) e, ap (λ (x : History). (past_at x).version) e)

items-counted : (t : Tables) (opening : History) (community : List ℕ) → (past_at opening).tables ≡ t → (past_at opening).version ≡ 0
    → (items : List Item) → Counted t (coming_from community opening items)
items-counted t first community same none items = record {
  tables =
      items-whole first community items
      ∙ ap (λ (x : Tables). with_downloads x (accepted_by (deeds_of (coming_from community first items)))) same;
  number =
      let e : (past_of (coming_from community first items)).version
      ≡ (past_at first).version + length (accepted_by (deeds_of (coming_from community first items)))
      = (whole community first items).version in
      omega (arith, e, none);
}

pub version-whole : (cabinet_history : CabinetHistory) (t : Tables) (d : Drift) (version later : ℕ) → IsOpening t d cabinet_history.opening
    → version + later ≡ length (accepted_by (deeds_of (coming cabinet_history)))
    → tables_of (history_of cabinet_history) version ≡ with_downloads t (drop later (accepted_by (deeds_of (coming cabinet_history))))
version-whole cabinet_history t d version later opens sum =
    let even : ((past_at cabinet_history.opening).tables ≡ t) × ((past_at cabinet_history.opening).version ≡ 0) = opens-even t d cabinet_history.opening opens in
    cabinet_history-keeps (Counted t) (Versioned t)
    (record {
      event = λ c e is v. λ version later sum. plain-same c.history e is version ∙ v version later sum;
      call = λ c call is before after v. call-versioned t c call before after v;
    })
    cabinet_history.community cabinet_history.opening (items-counted t cabinet_history.opening cabinet_history.community even.0 even.1) (opens-versions t d cabinet_history.opening opens) cabinet_history.items
    version later sum

pub in-force-whole : (cabinet_history : CabinetHistory) (t : Tables) (d : Drift) → IsOpening t d cabinet_history.opening
    → in_force (coming cabinet_history) ≡ with_downloads t (accepted_by (deeds_of (coming cabinet_history)))
in-force-whole cabinet_history t d opens =
    let even : ((past_at cabinet_history.opening).tables ≡ t) × ((past_at cabinet_history.opening).version ≡ 0) = opens-even t d cabinet_history.opening opens in
    (items-counted t cabinet_history.opening cabinet_history.community even.0 even.1 cabinet_history.items).tables

pub version-counts : (cabinet_history : CabinetHistory) (t : Tables) (d : Drift) → IsOpening t d cabinet_history.opening
    → (past_at (history_of cabinet_history)).version ≡ length (accepted_by (deeds_of (coming cabinet_history)))
version-counts cabinet_history t d opens =
    let even : ((past_at cabinet_history.opening).tables ≡ t) × ((past_at cabinet_history.opening).version ≡ 0) = opens-even t d cabinet_history.opening opens in
    (items-counted t cabinet_history.opening cabinet_history.community even.0 even.1 cabinet_history.items).number
