-- The tables in force are whole accepted downloads: by one induction over the items of a cabinet history.
use Rattle.std.proofs.Common.{◌≡◌, ◌⊎◌, ◌≤◌, ℕ, ◌+◌, ◌==◌, ◌∙◌, Bool, true, false, inl, inr, if◌then◌else◌, List, [], ◌∷◌, ◌++◌, length, map, refl, sym, ap, arith, Option, Some, None}
use Rattle.std.proofs.lemmas.Bool.{false≢true}
use Rattle.std.proofs.lemmas.Bool.Decides.{eqb_tells}
use Rattle.sig_types.specs.declared.notes.StageAnswer.{StageAnswer}
use Rattle.sig_types.specs.declared.notes.StageAnswer.TheVariants.{Staged, Repeated, Verified, Accepted, WrongToken, WrongPart, NotVerified, Refused}
use Rattle.sig_tables.specs.declared.tables.Tables.{Tables}
use Rattle.sig_tables.specs.declared.cells.Cell.{Cell}
use Rattle.sig_tables.specs.Cells.{Content}
use Rattle.sig_tables.specs.Putting.{with_cells, with_put}
use Rattle.sig_tables.specs.Past.{History}
use Rattle.sig_tables.specs.Decide.{past_at, with_one}
use Rattle.stage_txn.specs.declared.StageState.{StageState}
use Rattle.stage_txn.specs.declared.StageState.TheVariants.{Rest, Open, Checked, Done}
use Rattle.stage_txn.specs.Calls.{Call, Answered, Begin as BeginCall, Part as PartCall, Verify as VerifyCall, Finish as FinishCall}
use Rattle.stage_txn.specs.Calls.{Deed, Began, Took, Closed, Installed, Reopened, Idle, begin_deed, part_deed, verify_deed, finish_deed, deeds, kept_by, staged_by}
use Rattle.stage_txn.specs.Answers.{stage_state_by, kept, taken, staged, stage_state, verify_answer, finish_answer, judged, answer_to, answered}
use Rattle.agent.specs.declared.ask.Order.{Order}
use Rattle.agent.specs.declared.ask.Order.TheVariants.{Pattern, Clock, Request, Cancel}
use Rattle.agent.specs.declared.ask.Wish.{Wish}
use Rattle.agent.specs.declared.ask.Wish.TheVariants.{Get, Next, Direct, Begin, Part, Verify, Finish, Bad}
use Rattle.agent.specs.declared.ask.Ask.{Ask}
use Rattle.agent.specs.Asks.{ask_of}
use Rattle.sig_types.specs.Items.{Item, InputTold, Came, Ticked}
use Rattle.cabinet_history.specs.Coming.{Coming, past_of, in_force, is_flashing, order_event, with_events, installs, carried_out, heeded, coming_from}
use Rattle.cabinet_history.specs.Downloads.{content_by, accepted_by, is_under_way, base_by, with_downloads, deeds_of, HaveIds}

with-more : (t : Tables) (cells more : List (Cell × Content)) → with_cells t (cells ++ more) ≡ with_cells (with_cells t cells) more
with-more t [] more = refl
with-more t (put ∷ cells) more = with-more (with_put t put) cells more

-- the staged tables are those over which the download began, with its content
staged-is : (past : List Deed) → staged_by past ≡ with_cells (base_by past) (content_by past)
staged-is [] = refl
staged-is (Began id t ∷ past) = refl
staged-is (Took cells ∷ past) = ap (λ (t : Tables). with_cells t cells) (staged-is past) ∙ sym (with-more (base_by past) (content_by past) cells)
staged-is (Closed ∷ past) = staged-is past
staged-is (Installed ∷ past) = staged-is past
staged-is (Reopened ∷ past) = staged-is past
staged-is (Idle ∷ past) = staged-is past

-- ---- a download that can be put in force is under way

abbrev InOrder : ℕ → StageState → Bool → Type 0
InOrder kept Rest way = kept ≡ 0
InOrder kept Open way = way ≡ true
InOrder kept Checked way = way ≡ true
InOrder kept Done way = Unit {0}

abbrev Orderly : List Deed → Type 0
Orderly past = InOrder (kept_by past) (stage_state_by past) (is_under_way past)

after-begin : (id : ℕ) (t : Tables) (a : StageAnswer) (past : List Deed) → Orderly past → Orderly (begin_deed id t a ∷ past)
after-begin id t Staged past o = refl
after-begin id t Repeated past o = o
after-begin id t Verified past o = o
after-begin id t Accepted past o = o
after-begin id t WrongToken past o = o
after-begin id t (WrongPart n) past o = o
after-begin id t NotVerified past o = o
after-begin id t (Refused b) past o = o

after-part : (cells : List (Cell × Content)) (a : StageAnswer) (past : List Deed) → Orderly past → Orderly (part_deed cells a ∷ past)
after-part cells Staged past o = o
after-part cells Repeated past o = o
after-part cells Verified past o = o
after-part cells Accepted past o = o
after-part cells WrongToken past o = o
after-part cells (WrongPart n) past o = o
after-part cells NotVerified past o = o
after-part cells (Refused b) past o = o

after-verify : (a : StageAnswer) (past : List Deed) → (a ≡ Verified → is_under_way past ≡ true) → Orderly past → Orderly (verify_deed a ∷ past)
after-verify Staged past way o = o
after-verify Repeated past way o = o
after-verify Verified past way o = way refl
after-verify Accepted past way o = o
after-verify WrongToken past way o = o
after-verify (WrongPart n) past way o = o
after-verify NotVerified past way o = o
after-verify (Refused b) past way o = o

after-finish : (a : StageAnswer) (past : List Deed) → ((b : StageAnswer) → a ≡ b → (b ≡ Repeated → ⊥) → (b ≡ NotVerified → ⊥) → (b ≡ WrongToken → ⊥) → is_under_way past ≡ true)
    → Orderly past → Orderly (finish_deed a ∷ past)
after-finish Staged past way o = o
after-finish Repeated past way o = o
after-finish Verified past way o = o
after-finish Accepted past way o = tt
after-finish WrongToken past way o = o
after-finish (WrongPart n) past way o = o
after-finish NotVerified past way o = o
after-finish (Refused b) past way o = way (Refused b) refl (λ e. cc) (λ e. cc) (λ e. cc)

verified-way : (k due : ℕ) (s : StageState) (way all : Bool) (by_rules : StageAnswer) → 1 ≤ k → InOrder k s way → verify_answer s all due by_rules ≡ Verified → way ≡ true
verified-way k due Rest way all by_rules some o e = absurd (omega (arith, some, o))
verified-way k due Open way all by_rules some o e = o
verified-way k due Checked way all by_rules some o e = o
verified-way k due Done way all by_rules some o e = absurd cc

finished-way : (k : ℕ) (s : StageState) (way : Bool) (by_rules b : StageAnswer) → InOrder k s way → finish_answer s by_rules ≡ b → (b ≡ Repeated → ⊥) → (b ≡ NotVerified → ⊥) → way ≡ true
finished-way k Rest way by_rules b o e again early = absurd (early (sym e))
finished-way k Open way by_rules b o e again early = o
finished-way k Checked way by_rules b o e again early = o
finished-way k Done way by_rules b o e again early = absurd (again (sym e))

-- a verify of the kept id that finds all well, and a finish of it that is not refused at once
verify-way : (id total : ℕ) (t : Tables) (f : Bool) (past : List Answered) → 1 ≤ id → Orderly (deeds past) → answer_to past (VerifyCall id total t f) ≡ Verified
    → is_under_way (deeds past) ≡ true
verify-way id total t f past some o e = own (id == kept past) refl e
  where
    own : (same : Bool) → (id == kept past) ≡ same
        → (if same then verify_answer (stage_state past) (total == taken past) (taken past + 1) (judged (staged past) t f Verified) else WrongToken) ≡ Verified
        → is_under_way (deeds past) ≡ true
    own true u a = elim (eqb_tells id (kept past)) [
      | inl (w, same) ↦ verified-way (kept past) (taken past + 1) (stage_state past) (is_under_way (deeds past)) (total == taken past) _ (omega (arith, some, same)) o a
      | inr (w, ne) ↦ absurd (false≢true (sym w ∙ u))
    ]
    own false u a = absurd cc

finish-way : (id : ℕ) (t : Tables) (f : Bool) (past : List Answered) → Orderly (deeds past) → (b : StageAnswer) → answer_to past (FinishCall id t f) ≡ b
    → (b ≡ Repeated → ⊥) → (b ≡ NotVerified → ⊥) → (b ≡ WrongToken → ⊥) → is_under_way (deeds past) ≡ true
finish-way id t f past o b e again early other = own (id == kept past) e
  where
    own : (same : Bool) → (if same then finish_answer (stage_state past) (judged (staged past) t f Accepted) else WrongToken) ≡ b → is_under_way (deeds past) ≡ true
    own true a = finished-way (kept past) (stage_state past) (is_under_way (deeds past)) _ b o a again early
    own false a = absurd (other (sym a))

orderly : (calls : List Call) → HaveIds calls → Orderly (deeds (answered calls))
orderly [] ids = refl
orderly (BeginCall id t ∷ calls) ids =
    after-begin id t (answer_to (answered calls) (BeginCall id t)) (deeds (answered calls)) (orderly calls ids.1)
orderly (PartCall id number cells ∷ calls) ids =
    after-part cells (answer_to (answered calls) (PartCall id number cells)) (deeds (answered calls)) (orderly calls ids.1)
orderly (VerifyCall id total t f ∷ calls) ids =
    let before = orderly calls ids.1 in
    after-verify (answer_to (answered calls) (VerifyCall id total t f)) (deeds (answered calls)) (verify-way id total t f (answered calls) ids.0 before) before
orderly (FinishCall id t f ∷ calls) ids =
    let before = orderly calls ids.1 in
    after-finish (answer_to (answered calls) (FinishCall id t f)) (deeds (answered calls)) (finish-way id t f (answered calls) before) before

-- ---- what each item keeps

pub record Whole (opening : History) (c : Coming) : Type 0 where
  pub version : (past_of c).version ≡ (past_at opening).version + length (accepted_by (deeds_of c))
  pub base : is_under_way (deeds_of c) ≡ true → base_by (deeds_of c) ≡ in_force c
  pub tables : HaveIds c.calls → in_force c ≡ with_downloads (past_at opening).tables (accepted_by (deeds_of c))

-- orders leave the tables and the version
record Left (before after : History) : Type 0 where
  tables : (past_at after).tables ≡ (past_at before).tables
  version : (past_at after).version ≡ (past_at before).version

one-left : (h : History) (order : Order) → Left h (with_one h (order_event order))
one-left h (Pattern n) = record { tables = refl; version = refl }
one-left h (Clock time) = record { tables = refl; version = refl }
one-left h (Request r) = record { tables = refl; version = refl }
one-left h (Cancel n) = record { tables = refl; version = refl }

all-left : (h : History) (orders : List Order) → Left h (with_events h (map order_event orders))
all-left h [] = record { tables = refl; version = refl }
all-left h (order ∷ orders) =
    let one = one-left h order in
    let rest = all-left (with_one h (order_event order)) orders in
    record { tables = rest.tables ∙ one.tables; version = rest.version ∙ one.version }

-- a call that is not a finish, by what it did: nothing was put in force
call-whole : (opening : History) (c : Coming) (call : Call) (deed : Deed) → deeds (answered (call ∷ c.calls)) ≡ deed ∷ deeds_of c
    → accepted_by (deed ∷ deeds_of c) ≡ accepted_by (deeds_of c) → (is_under_way (deed ∷ deeds_of c) ≡ true → base_by (deed ∷ deeds_of c) ≡ in_force c)
    → (HaveIds (call ∷ c.calls) → HaveIds c.calls) → Whole opening c → Whole opening (record { history = c.history; calls = call ∷ c.calls })
call-whole opening c call deed did same base ids w = record {
  version = w.version ∙ sym (ap (λ (x : List Deed). (past_at opening).version + length (accepted_by x)) did ∙ ap (λ (x : List (List (Cell × Content))). (past_at opening).version + length x) same);
  base = λ way.
      ap base_by did ∙ base (sym (ap is_under_way did) ∙ way);
  tables = λ have.
      w.tables (ids have)
      ∙ sym (ap (λ (x : List Deed). with_downloads (past_at opening).tables (accepted_by x)) did
      ∙ ap (λ (x : List (List (Cell × Content))). with_downloads (past_at opening).tables x) same);
}

begin-whole : (opening : History) (c : Coming) (id : ℕ) (a : StageAnswer) → answer_to (answered c.calls) (BeginCall id (in_force c)) ≡ a → Whole opening c
    → Whole opening (record { history = c.history; calls = BeginCall id (in_force c) ∷ c.calls })
begin-whole opening c id Staged e w =
    call-whole opening c (BeginCall id (in_force c)) (Began id (in_force c)) (ap (λ (x : StageAnswer). begin_deed id (in_force c) x ∷ deeds_of c) e) refl
    (λ way. refl) (λ ids. ids.1) w
begin-whole opening c id Repeated e w =
    call-whole opening c (BeginCall id (in_force c)) Idle (ap (λ (x : StageAnswer). begin_deed id (in_force c) x ∷ deeds_of c) e) refl w.base (λ ids. ids.1) w
begin-whole opening c id Verified e w =
    call-whole opening c (BeginCall id (in_force c)) Idle (ap (λ (x : StageAnswer). begin_deed id (in_force c) x ∷ deeds_of c) e) refl w.base (λ ids. ids.1) w
begin-whole opening c id Accepted e w =
    call-whole opening c (BeginCall id (in_force c)) Idle (ap (λ (x : StageAnswer). begin_deed id (in_force c) x ∷ deeds_of c) e) refl w.base (λ ids. ids.1) w
begin-whole opening c id WrongToken e w =
    call-whole opening c (BeginCall id (in_force c)) Idle (ap (λ (x : StageAnswer). begin_deed id (in_force c) x ∷ deeds_of c) e) refl w.base (λ ids. ids.1) w
begin-whole opening c id (WrongPart n) e w =
    call-whole opening c (BeginCall id (in_force c)) Idle (ap (λ (x : StageAnswer). begin_deed id (in_force c) x ∷ deeds_of c) e) refl w.base (λ ids. ids.1) w
begin-whole opening c id NotVerified e w =
    call-whole opening c (BeginCall id (in_force c)) Idle (ap (λ (x : StageAnswer). begin_deed id (in_force c) x ∷ deeds_of c) e) refl w.base (λ ids. ids.1) w
begin-whole opening c id (Refused b) e w =
    call-whole opening c (BeginCall id (in_force c)) Idle (ap (λ (x : StageAnswer). begin_deed id (in_force c) x ∷ deeds_of c) e) refl w.base (λ ids. ids.1) w

-- a part and a verify leave the base, what is under way and what was accepted
part-deed-is : (cells : List (Cell × Content)) (a : StageAnswer) → (part_deed cells a ≡ Took cells) ⊎ (part_deed cells a ≡ Idle)
part-deed-is cells Staged = inl refl
part-deed-is cells Repeated = inr refl
part-deed-is cells Verified = inr refl
part-deed-is cells Accepted = inr refl
part-deed-is cells WrongToken = inr refl
part-deed-is cells (WrongPart n) = inr refl
part-deed-is cells NotVerified = inr refl
part-deed-is cells (Refused b) = inr refl

verify-deed-is : (a : StageAnswer) → (verify_deed a ≡ Closed) ⊎ (verify_deed a ≡ Idle)
verify-deed-is Staged = inr refl
verify-deed-is Repeated = inr refl
verify-deed-is Verified = inl refl
verify-deed-is Accepted = inr refl
verify-deed-is WrongToken = inr refl
verify-deed-is (WrongPart n) = inr refl
verify-deed-is NotVerified = inr refl
verify-deed-is (Refused b) = inr refl

part-whole : (opening : History) (c : Coming) (id number : ℕ) (cells : List (Cell × Content)) → Whole opening c
    → Whole opening (record { history = c.history; calls = PartCall id number cells ∷ c.calls })
part-whole opening c id number cells w = elim (part-deed-is cells (answer_to (answered c.calls) (PartCall id number cells))) [
  | inl e ↦ call-whole opening c (PartCall id number cells) (Took cells) (ap (λ (d : Deed). d ∷ deeds_of c) e) refl w.base (λ ids. ids.1) w
  | inr e ↦ call-whole opening c (PartCall id number cells) Idle (ap (λ (d : Deed). d ∷ deeds_of c) e) refl w.base (λ ids. ids.1) w
]

verify-whole : (opening : History) (c : Coming) (id total : ℕ) (t : Tables) (f : Bool) → Whole opening c
    → Whole opening (record { history = c.history; calls = VerifyCall id total t f ∷ c.calls })
verify-whole opening c id total t f w = elim (verify-deed-is (answer_to (answered c.calls) (VerifyCall id total t f))) [
  | inl e ↦ call-whole opening c (VerifyCall id total t f) Closed (ap (λ (d : Deed). d ∷ deeds_of c) e) refl w.base (λ ids. ids.1) w
  | inr e ↦ call-whole opening c (VerifyCall id total t f) Idle (ap (λ (d : Deed). d ∷ deeds_of c) e) refl w.base (λ ids. ids.1) w
]

-- a finish, with any answer
finish-version : (opening : History) (c : Coming) (a : StageAnswer) → Whole opening c
    → (past_at (with_events c.history (installs (staged (answered c.calls)) a))).version
    ≡ (past_at opening).version + length (accepted_by (finish_deed a ∷ deeds_of c))
finish-version opening c Staged w = w.version
finish-version opening c Repeated w = w.version
finish-version opening c Verified w = w.version
finish-version opening c Accepted w = omega (arith, w.version)
finish-version opening c WrongToken w = w.version
finish-version opening c (WrongPart n) w = w.version
finish-version opening c NotVerified w = w.version
finish-version opening c (Refused b) w = w.version

finish-base : (opening : History) (c : Coming) (a : StageAnswer) → Whole opening c → is_under_way (finish_deed a ∷ deeds_of c) ≡ true
    → base_by (finish_deed a ∷ deeds_of c) ≡ (past_at (with_events c.history (installs (staged (answered c.calls)) a))).tables
finish-base opening c Staged w way = w.base way
finish-base opening c Repeated w way = w.base way
finish-base opening c Verified w way = w.base way
finish-base opening c Accepted w way = absurd (false≢true way)
finish-base opening c WrongToken w way = w.base way
finish-base opening c (WrongPart n) w way = w.base way
finish-base opening c NotVerified w way = w.base way
finish-base opening c (Refused b) w way = w.base way

finish-tables : (opening : History) (c : Coming) (a : StageAnswer) → Whole opening c → (a ≡ Accepted → is_under_way (deeds_of c) ≡ true) → HaveIds c.calls
    → (past_at (with_events c.history (installs (staged (answered c.calls)) a))).tables
    ≡ with_downloads (past_at opening).tables (accepted_by (finish_deed a ∷ deeds_of c))
finish-tables opening c Staged w way ids = w.tables ids
finish-tables opening c Repeated w way ids = w.tables ids
finish-tables opening c Verified w way ids = w.tables ids
finish-tables opening c Accepted w way ids =
    staged-is (deeds_of c) ∙ ap (λ (t : Tables). with_cells t (content_by (deeds_of c))) (w.base (way refl) ∙ w.tables ids)
finish-tables opening c WrongToken w way ids = w.tables ids
finish-tables opening c (WrongPart n) w way ids = w.tables ids
finish-tables opening c NotVerified w way ids = w.tables ids
finish-tables opening c (Refused b) w way ids = w.tables ids

carried-whole : (opening : History) (c : Coming) (wish : Wish) → Whole opening c → Whole opening (carried_out c wish)
carried-whole opening c Get w = record { version = w.version; base = w.base; tables = w.tables }
carried-whole opening c Next w = record { version = w.version; base = w.base; tables = w.tables }
carried-whole opening c (Bad status index) w = record { version = w.version; base = w.base; tables = w.tables }
carried-whole opening c (Direct orders) w =
    let same = all-left c.history orders.items in
    record {
      version = same.version ∙ w.version;
      base = λ way. w.base way ∙ sym same.tables;
      tables = λ ids. same.tables ∙ w.tables ids;
    }
carried-whole opening c (Begin id) w = begin-whole opening c id (answer_to (answered c.calls) (BeginCall id (in_force c))) refl w
carried-whole opening c (Part id number puts) w = part-whole opening c id number _ w
carried-whole opening c (Verify id total) w = verify-whole opening c id total (in_force c) (is_flashing (past_of c)) w
carried-whole opening c (Finish id) w =
    let call = FinishCall id (in_force c) (is_flashing (past_of c)) in
    let a = answer_to (answered c.calls) call in
    record {
      version = finish-version opening c a w;
      base = finish-base opening c a w;
      tables = λ ids. finish-tables opening c a w
          (λ e. finish-way id (in_force c) (is_flashing (past_of c)) (answered c.calls) (orderly c.calls ids.1) Accepted e (λ u. cc) (λ u. cc) (λ u. cc)) ids.1;
    }

heeded-whole : (opening : History) (c : Coming) (ask : Option Ask) → Whole opening c → Whole opening (heeded c ask)
heeded-whole opening c None w = w
heeded-whole opening c (Some ask) w = carried-whole opening c ask.wish w

pub whole : (community : List ℕ) (opening : History) (items : List Item) → Whole opening (coming_from community opening items)
whole community opening [] = record { version = omega arith; base = λ way. absurd (false≢true way); tables = λ ids. refl }
whole community opening (InputTold field ∷ items) =
    let w = whole community opening items in
    record { version = w.version; base = w.base; tables = w.tables }
whole community opening (Came octets ∷ items) =
    heeded-whole opening (coming_from community opening items) (ask_of octets community (in_force (coming_from community opening items))) (whole community opening items)
whole community opening (Ticked ∷ items) =
    let w = whole community opening items in
    record { version = w.version; base = w.base; tables = w.tables }
