-- A stage that is asked only for parts of loads puts loads in force.
use Rattle.std.proofs.Common.{◌≡◌, ◌≤◌, ◌+◌, ◌-◌, ◌*◌, ◌==◌, ◌∙◌, if◌then◌else◌, ℕ, Bool, true, false, List, [], ◌∷◌, ◌++◌, length, map, take, drop, Option, Some, None, IfSome, refl, sym, ap, ap₂, subst, arith, take-add, take_all}
use Rattle.std.specs.List.{AllByRecursion}
use Rattle.std.proofs.lemmas.Bool.{false≢true}
use Rattle.std.proofs.lemmas.Bool.Decides.{Decides-eqb}
use Rattle.sig_types.specs.declared.notes.StageAnswer.{StageAnswer}
use Rattle.sig_types.specs.declared.notes.StageAnswer.TheVariants.{Staged, Repeated, Verified, Accepted, WrongToken, WrongPart, NotVerified, Refused}
use Rattle.sig_types.specs.Items.{Item, InputTold as Input, Came, Ticked}
use Rattle.sig_tables.specs.declared.tables.Tables.{Tables}
use Rattle.sig_tables.specs.declared.cells.Cell.{Cell}
use Rattle.sig_tables.specs.Cells.{Content}
use Rattle.sig_tables.specs.Past.{History}
use Rattle.sig_tables.specs.Putting.{put_content}
use Rattle.agent.specs.declared.ask.Wish.{Wish}
use Rattle.agent.specs.declared.ask.Wish.TheVariants.{Get, Next, Direct, Begin, Part, Verify, Finish, Bad}
use Rattle.agent.specs.declared.ask.Ask.{Ask}
use Rattle.agent.specs.Asks.{ask_of}
use Rattle.stage_txn.specs.declared.StageState.{StageState}
use Rattle.stage_txn.specs.declared.StageState.TheVariants.{Rest, Open, Checked, Done}
use Rattle.stage_txn.specs.Calls.{Begin as BeginCall, Part as PartCall, Verify as VerifyCall, Finish as FinishCall, Answered, Deed, Idle, begin_deed, part_deed, verify_deed, finish_deed, deeds, kept_by, taken_by}
use Rattle.stage_txn.specs.Answers.{answered, answer_to, staged, stage_state_by, verify_answer, judged}
use Rattle.stage_txn.specs.Laws.{PartsComeInOrder, InstallsWhatKeepsRules}
use Rattle.cabinet_history.specs.Coming.{Coming, in_force, past_of, is_flashing, carried_out, heeded, coming_from}
use Rattle.cabinet_history.specs.Downloads.{content_by}
use Rattle.judged_runs.specs.Loads.{IsLoadIfAny, brought_by, brought}
use Rattle.judged_runs.specs.Messages.{IsPartOf, IsTotalOf, IsFinishOf, IsOwnWish, IsOwnItem}

always : {A : Type 0} (o : Option A) (P : A → Type 0) → ((x : A) → P x) → IfSome o P
always None P all = tt
always (Some x) P all = all x

-- what the stage laws say
pub record Laws : Type 0 where
  pub parts : (past : List Answered) → PartsComeInOrder past
  pub finish : (past : List Answered) → InstallsWhatKeepsRules past

module _ (only : Bool) (load : ℕ → Option (List (Cell × Content))) where
  -- the cells that were taken are the first ones of the load, and all of them where its parts were verified; what was put in force are loads
  record Own (ds : List Deed) (put : List (ℕ × List (Cell × Content))) : Type 0 where
    content : IfSome (load (kept_by ds)) (λ own. content_by ds ≡ take (24 * taken_by ds) own)
    whole : stage_state_by ds ≡ Checked → IfSome (load (kept_by ds)) (λ own. content_by ds ≡ own)
    loads : AllByRecursion (λ d. IsLoadIfAny (load d.0) d.1) put
    known : AllByRecursion (λ d. IsFinishOf only (load d.0)) put

  opened : Own [] []
  opened = record { content = always (load 0) (λ own. [] ≡ take (24 * 0) own) (λ own. refl); whole = λ e. cc; loads = tt; known = tt }

  idle : (ds : List Deed) (put : List (ℕ × List (Cell × Content))) → Own ds put → Own (Idle ∷ ds) put
  idle ds put o = record { content = o.content; whole = o.whole; loads = o.loads; known = o.known }

  begin-own : (id : ℕ) (t : Tables) (a : StageAnswer) (ds : List Deed) (put : List (ℕ × List (Cell × Content))) → Own ds put → Own (begin_deed id t a ∷ ds) put
  begin-own id t Staged ds put o = record {
    content = always (load id) (λ own. [] ≡ take (24 * 0) own) (λ own. refl);
    whole = λ e. cc;
    loads = o.loads;
    known = o.known;
  }
  begin-own id t Repeated ds put o = idle ds put o
  begin-own id t Verified ds put o = idle ds put o
  begin-own id t Accepted ds put o = idle ds put o
  begin-own id t WrongToken ds put o = idle ds put o
  begin-own id t (WrongPart n) ds put o = idle ds put o
  begin-own id t NotVerified ds put o = idle ds put o
  begin-own id t (Refused b) ds put o = idle ds put o

  -- ---- a part

  one-part : (own : Option (List (Cell × Content))) (content cells : List (Cell × Content)) (taken : ℕ) → IfSome own (λ l. content ≡ take (24 * taken) l)
      → IsPartOf own (taken + 1) cells → IfSome own (λ l. content ++ cells ≡ take (24 * (taken + 1)) l)
  one-part None content cells taken before is = tt
  one-part (Some l) content cells taken before is =
      let place : 24 * (taken + 1 - 1) ≡ 24 * taken = omega arith in
      let sum : 24 * (taken + 1) ≡ 24 * taken + 24 = omega arith in
      ap₂ (λ (x : List (Cell × Content)) (y : List (Cell × Content)). x ++ y) before (is ∙ ap (λ (n : ℕ). take 24 (drop n l)) place)
      ∙ sym (take-add (24 * taken) 24 l) ∙ ap (λ (n : ℕ). take n l) (sym sum)

  part-own : (cells : List (Cell × Content)) (a : StageAnswer) (ds : List Deed) (put : List (ℕ × List (Cell × Content)))
      → (a ≡ Staged → (stage_state_by ds ≡ Open) × IsPartOf (load (kept_by ds)) (taken_by ds + 1) cells) → Own ds put → Own (part_deed cells a ∷ ds) put
  part-own cells Staged ds put is o =
      let facts = is refl in
      record {
        content = one-part (load (kept_by ds)) (content_by ds) cells (taken_by ds) o.content facts.1;
        whole = λ e. absurd (let bad : Open ≡ Checked = sym facts.0 ∙ e in cc);
        loads = o.loads;
        known = o.known;
      }
  part-own cells Repeated ds put is o = idle ds put o
  part-own cells Verified ds put is o = idle ds put o
  part-own cells Accepted ds put is o = idle ds put o
  part-own cells WrongToken ds put is o = idle ds put o
  part-own cells (WrongPart n) ds put is o = idle ds put o
  part-own cells NotVerified ds put is o = idle ds put o
  part-own cells (Refused b) ds put is o = idle ds put o

  -- ---- a verify

  all-parts : (own : Option (List (Cell × Content))) (content : List (Cell × Content)) (taken : ℕ) → IfSome own (λ l. content ≡ take (24 * taken) l)
      → IsTotalOf own taken → IfSome own (λ l. content ≡ l)
  all-parts None content taken before is = tt
  all-parts (Some l) content taken before is =
      let enough : length l ≤ 24 * taken = omega (arith, is) in
      before ∙ take_all (24 * taken) l enough

  verify-own : (a : StageAnswer) (ds : List Deed) (put : List (ℕ × List (Cell × Content))) → (a ≡ Verified → IsTotalOf (load (kept_by ds)) (taken_by ds)) → Own ds put
      → Own (verify_deed a ∷ ds) put
  verify-own Verified ds put is o = record {
    content = o.content;
    whole = λ e. all-parts (load (kept_by ds)) (content_by ds) (taken_by ds) o.content (is refl);
    loads = o.loads;
    known = o.known;
  }
  verify-own Staged ds put is o = idle ds put o
  verify-own Repeated ds put is o = idle ds put o
  verify-own Accepted ds put is o = idle ds put o
  verify-own WrongToken ds put is o = idle ds put o
  verify-own (WrongPart n) ds put is o = idle ds put o
  verify-own NotVerified ds put is o = idle ds put o
  verify-own (Refused b) ds put is o = idle ds put o

  -- ---- a finish

  is-load : (own : Option (List (Cell × Content))) (content : List (Cell × Content)) → IfSome own (λ l. content ≡ l) → IsLoadIfAny own content
  is-load None content e = tt
  is-load (Some l) content e = sym e

  finish-own : (id : ℕ) (t : Tables) (flashing : Bool) → IsFinishOf only (load id) → (a : StageAnswer) (ds : List Deed) (put : List (ℕ × List (Cell × Content)))
      → (a ≡ Accepted → (id ≡ kept_by ds) × (stage_state_by ds ≡ Checked)) → Own ds put
      → Own (finish_deed a ∷ ds) (brought_by (FinishCall id t flashing) a ds ++ put)
  finish-own id t flashing fin Accepted ds put is o =
      let facts = is refl in
      record {
        content = o.content;
        whole = λ e. cc;
        loads = (
          subst (λ (n : ℕ). IsLoadIfAny (load n) (content_by ds)) (sym facts.0) (is-load (load (kept_by ds)) (content_by ds) (o.whole facts.1)),
          o.loads,
        );
        known = (fin, o.known);
      }
  finish-own id t flashing fin (Refused b) ds put is o = record { content = o.content; whole = λ e. cc; loads = o.loads; known = o.known }
  finish-own id t flashing fin Staged ds put is o = idle ds put o
  finish-own id t flashing fin Repeated ds put is o = idle ds put o
  finish-own id t flashing fin Verified ds put is o = idle ds put o
  finish-own id t flashing fin WrongToken ds put is o = idle ds put o
  finish-own id t flashing fin (WrongPart n) ds put is o = idle ds put o
  finish-own id t flashing fin NotVerified ds put is o = idle ds put o

  -- ---- each call

  abbrev OwnPast : List Answered → Type 0
  OwnPast past = Own (deeds past) (brought past)

  -- a verify that is answered so names the kept number and all parts that were taken
  verified : (past : List Answered) (id total : ℕ) (t : Tables) (flashing : Bool) → answer_to past (VerifyCall id total t flashing) ≡ Verified
      → (id ≡ kept_by (deeds past)) × (total ≡ taken_by (deeds past))
  verified past id total t flashing e = split (id == kept_by (deeds past)) refl e
    where
      rules : StageAnswer
      rules = judged (staged past) t flashing Verified

      due : ℕ
      due = taken_by (deeds past) + 1

      states : (st : StageState) (b : Bool) → verify_answer st b due rules ≡ Verified → b ≡ true
      states Rest true e = refl
      states Rest false e = absurd (let bad : WrongPart due ≡ Verified = e in cc)
      states Open true e = refl
      states Open false e = absurd (let bad : WrongPart due ≡ Verified = e in cc)
      states Checked b e = absurd (let bad : Repeated ≡ Verified = e in cc)
      states Done b e = absurd (let bad : Repeated ≡ Verified = e in cc)

      split : (b : Bool) → (id == kept_by (deeds past)) ≡ b
          → (if b then verify_answer (stage_state_by (deeds past)) (total == taken_by (deeds past)) due rules else WrongToken) ≡ Verified
          → (id ≡ kept_by (deeds past)) × (total ≡ taken_by (deeds past))
      split true same e = (
        (Decides-eqb id (kept_by (deeds past))).0 same,
        (Decides-eqb total (taken_by (deeds past))).0 (states (stage_state_by (deeds past)) (total == taken_by (deeds past)) e),
      )
      split false same e = absurd (let bad : WrongToken ≡ Verified = e in cc)

  module _ (laws : Laws) where
    wish-own : (c : Coming) (wish : Wish) → IsOwnWish only load wish → OwnPast (answered c.calls) → OwnPast (answered (carried_out c wish).calls)
    wish-own c (Direct orders) is o = o
    wish-own c (Begin id) is o = begin-own id (in_force c) (answer_to (answered c.calls) (BeginCall id (in_force c))) (deeds (answered c.calls)) (brought (answered c.calls)) o
    wish-own c (Part id number puts) is o =
        part-own (map put_content puts.items) (answer_to (answered c.calls) (PartCall id number (map put_content puts.items))) (deeds (answered c.calls)) (brought (answered c.calls))
        (λ e. let next = laws.parts (answered c.calls) id number (map put_content puts.items) e in (
          next.stands,
          subst (λ (k : ℕ). IsPartOf (load k) (taken_by (deeds (answered c.calls)) + 1) (map put_content puts.items)) next.same
              (subst (λ (n : ℕ). IsPartOf (load id) n (map put_content puts.items)) next.part is),
        ))
        o
    wish-own c (Verify id total) is o =
        verify-own (answer_to (answered c.calls) (VerifyCall id total (in_force c) (is_flashing (past_of c)))) (deeds (answered c.calls)) (brought (answered c.calls))
        (λ e. let facts = verified (answered c.calls) id total (in_force c) (is_flashing (past_of c)) e in
        subst (λ (k : ℕ). IsTotalOf (load k) (taken_by (deeds (answered c.calls)))) facts.0 (subst (λ (n : ℕ). IsTotalOf (load id) n) facts.1 is))
        o
    wish-own c (Finish id) is o =
        finish-own id (in_force c) (is_flashing (past_of c)) is (answer_to (answered c.calls) (FinishCall id (in_force c) (is_flashing (past_of c)))) (deeds (answered c.calls)) (brought (answered c.calls))
        (λ e. let rules = laws.finish (answered c.calls) id (in_force c) (is_flashing (past_of c)) e in (rules.same, rules.stands))
        o
    wish-own c Get is o = o
    wish-own c Next is o = o
    wish-own c (Bad status index) is o = o

    ask-own : (c : Coming) (ask : Option Ask) → IfSome ask (λ a. IsOwnWish only load a.wish) → OwnPast (answered c.calls) → OwnPast (answered (heeded c ask).calls)
    ask-own c (Some ask) is o = wish-own c ask.wish is o
    ask-own c None is o = o

    items-own : (community : List ℕ) (opening : History) (items : List Item) → AllByRecursion (IsOwnItem only load community) items
        → OwnPast (answered (coming_from community opening items).calls)
    items-own community opening [] all = opened
    items-own community opening (Input field ∷ items) all = items-own community opening items all.1
    items-own community opening (Came octets ∷ items) all =
        let c : Coming = coming_from community opening items in
        ask-own c (ask_of octets community (in_force c)) (all.0 (in_force c)) (items-own community opening items all.1)
    items-own community opening (Ticked ∷ items) all = items-own community opening items all.1

    -- what is put in force has the cells of loads
    pub loads-own : (community : List ℕ) (opening : History) (items : List Item) → AllByRecursion (IsOwnItem only load community) items
        → AllByRecursion (λ d. IsLoadIfAny (load d.0) d.1) (brought (answered (coming_from community opening items).calls))
    loads-own community opening items all = (items-own community opening items all).loads

    -- and, if that is required, is a load
    pub loads-known : (community : List ℕ) (opening : History) (items : List Item) → AllByRecursion (IsOwnItem only load community) items
        → AllByRecursion (λ d. IsFinishOf only (load d.0)) (brought (answered (coming_from community opening items).calls))
    loads-known community opening items all = (items-own community opening items all).known

-- a download that has the cells of its load, if any, and a load, is that load
one-load : (own : Option (List (Cell × Content))) (cells : List (Cell × Content)) → IsLoadIfAny own cells → IsFinishOf true own → own ≡ Some cells
one-load None cells is some = absurd (false≢true some)
one-load (Some l) cells is some = ap (λ (x : List (Cell × Content)). Some x) is

pub all-loads : (load : ℕ → Option (List (Cell × Content))) (ds : List (ℕ × List (Cell × Content))) → AllByRecursion (λ d. IsLoadIfAny (load d.0) d.1) ds
    → AllByRecursion (λ d. IsFinishOf true (load d.0)) ds → AllByRecursion (λ d. load d.0 ≡ Some d.1) ds
all-loads load [] own known = tt
all-loads load (d ∷ ds) own known = (one-load (load d.0) d.1 own.0 known.0, all-loads load ds own.1 known.1)
