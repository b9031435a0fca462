-- Versions are few: each download that is put in force has a greater id than the one before it, and ids are numbers that an INTEGER
-- holds. The end of a load has such numbers.
use Rattle.std.proofs.Common.{◌≡◌, ◌≤◌, ◌<◌, ◌^◌, ◌==◌, ◌||◌, ◌&&◌, nat_le, ◌++◌, ◌∷◌, [], map, ℕ, Bool, true, false, if◌then◌else◌, List, Option, Some, None, Result, Ok, Err, refl, sym, subst, arith}
use Rattle.std.specs.Prelude.{IfSome}
use Rattle.std.specs.List.{AllByRecursion}
use Rattle.std.proofs.lemmas.Bool.{and_parts, leb-true}
use Rattle.sig_types.specs.declared.notes.Broken.{Broken}
use Rattle.sig_types.specs.declared.notes.StageAnswer.{StageAnswer}
use Rattle.sig_types.specs.declared.notes.StageAnswer.TheVariants.{Staged, Repeated, Verified, Accepted, WrongToken, WrongPart, NotVerified, Refused}
use Rattle.sig_types.specs.Phases.{all_phases, those}
use Rattle.sig_tables.specs.declared.tables.Tables.{Tables}
use Rattle.sig_tables.specs.declared.cells.Cell.{Cell}
use Rattle.sig_tables.specs.Cells.{Content}
use Rattle.sig_tables.specs.Past.{Event, Tick, Input, Install, SetPattern, SetClock, SetDrift, Ask as GivePriority, Cancel, History}
use Rattle.sig_tables.specs.Decide.{past_at, with_one}
use Rattle.trace_text.specs.IsLine.{FitsLoad}
use Rattle.rule_book.specs.declared.rules.Rule.{Rule}
use Rattle.rule_book.specs.declared.rules.Rule.TheVariants.{OnPhase, OnSequence, OnPattern, TwoSides, Correction, PreemptPhases, LayoutInForce}
use Rattle.rule_book.specs.Named.{number_of, all_rules}
use Rattle.rule_book.specs.Rules.{all_patterns, all_preempts, rows_of, breaks, at_rows, broken_of, broken, first_of}
use Rattle.stage_txn.specs.Calls.{Call, Begin as BeginCall, Part as PartCall, Verify as VerifyCall, Finish as FinishCall, Deed, begin_deed, part_deed, verify_deed, finish_deed, deeds, kept_by}
use Rattle.stage_txn.specs.Answers.{answer_to, answered, kept, staged, stage_state, first_broken}
use Rattle.agent.specs.declared.ask.Wish.{Wish}
use Rattle.agent.specs.declared.ask.Wish.TheVariants.{Get, Next, Direct, Begin, Part, Verify, Finish, Bad}
use Rattle.agent.specs.declared.ask.Ask.{Ask}
use Rattle.agent.specs.Asks.{ask_of}
use Rattle.agent.specs.Downloads.{IsId}
use Rattle.sig_types.specs.Items.{Came}
use Rattle.cabinet_history.specs.declared.Load.{Load}
use Rattle.cabinet_history.specs.CabinetHistory.{CabinetHistory, with_item}
use Rattle.cabinet_history.specs.Coming.{Coming, past_of, in_force, is_flashing, with_events, installs, coming, coming_from, outcome}
use Rattle.cabinet_history.specs.CabinetAnswers.{verify_end, finish_end, wish_end, ask_end, load_end}
use Rattle.cabinet_laws.specs.Judging.{verdict, IsVerdict}
use Rattle.cabinet_laws.proofs.Ids.{HasId, ask-id}
use Rattle.cabinet_laws.proofs.Steps.{IsPlain, IsMadeAt, called, happened, Any, any, cabinet_history-keeps}
use Rattle.cabinet_history.proofs.Installing.{Few, few-within, few-begin, few-part, few-verify, few-finish, version_after}

-- ---- versions

-- no more versions than ids, and ids that an INTEGER holds
record IsFew (c : Coming) : Type 0 where
  few : Few (past_of c).version (deeds (answered c.calls))
  ids : kept_by (deeds (answered c.calls)) ≤ 2147483647

plain-version : (h : History) (e : Event) → IsPlain e → (past_at (with_one h e)).version ≡ (past_at h).version
plain-version h (Install t) is = absurd is
plain-version h (SetDrift gain lose) is = absurd is
plain-version h Tick is = refl
plain-version h (Input field) is = refl
plain-version h (SetPattern n) is = refl
plain-version h (SetClock time) is = refl
plain-version h (GivePriority r) is = refl
plain-version h (Cancel n) is = refl

installed-version : (h : History) (t : Tables) (a : StageAnswer) → (past_at (with_events h (installs t a))).version ≡ version_after (past_at h).version a
installed-version h t Staged = refl
installed-version h t Repeated = refl
installed-version h t Verified = refl
installed-version h t Accepted = refl
installed-version h t WrongToken = refl
installed-version h t (WrongPart n) = refl
installed-version h t NotVerified = refl
installed-version h t (Refused b) = refl

begin-kept : (id : ℕ) (t : Tables) (a : StageAnswer) (past : List Deed) → id ≤ 2147483647 → kept_by past ≤ 2147483647 → kept_by (begin_deed id t a ∷ past) ≤ 2147483647
begin-kept id t Staged past new old = new
begin-kept id t Repeated past new old = old
begin-kept id t Verified past new old = old
begin-kept id t Accepted past new old = old
begin-kept id t WrongToken past new old = old
begin-kept id t (WrongPart n) past new old = old
begin-kept id t NotVerified past new old = old
begin-kept id t (Refused b) past new old = old

part-kept : (cells : List (Cell × Content)) (a : StageAnswer) (past : List Deed) → kept_by (part_deed cells a ∷ past) ≡ kept_by past
part-kept cells Staged past = refl
part-kept cells Repeated past = refl
part-kept cells Verified past = refl
part-kept cells Accepted past = refl
part-kept cells WrongToken past = refl
part-kept cells (WrongPart n) past = refl
part-kept cells NotVerified past = refl
part-kept cells (Refused b) past = refl

verify-kept : (a : StageAnswer) (past : List Deed) → kept_by (verify_deed a ∷ past) ≡ kept_by past
verify-kept Staged past = refl
verify-kept Repeated past = refl
verify-kept Verified past = refl
verify-kept Accepted past = refl
verify-kept WrongToken past = refl
verify-kept (WrongPart n) past = refl
verify-kept NotVerified past = refl
verify-kept (Refused b) past = refl

finish-kept : (a : StageAnswer) (past : List Deed) → kept_by (finish_deed a ∷ past) ≡ kept_by past
finish-kept Staged past = refl
finish-kept Repeated past = refl
finish-kept Verified past = refl
finish-kept Accepted past = refl
finish-kept WrongToken past = refl
finish-kept (WrongPart n) past = refl
finish-kept NotVerified past = refl
finish-kept (Refused b) past = refl

still : (n m : ℕ) → n ≡ m → m ≤ 2147483647 → n ≤ 2147483647
still n m e low = omega (arith, e, low)

call-few : (c : Coming) (call : Call) → IsMadeAt c call → IsFew c → IsFew (called c call)
call-few c (BeginCall id t) is f = record {
  few = few-begin (past_of c).version id t (answered c.calls) f.few;
  ids = begin-kept id t (answer_to (answered c.calls) (BeginCall id t)) (deeds (answered c.calls)) is.0.1 f.ids;
}
call-few c (PartCall id number cells) is f = record {
  few = few-part (past_of c).version id number cells (answered c.calls) f.few;
  ids = still _ _ (part-kept cells (answer_to (answered c.calls) (PartCall id number cells)) (deeds (answered c.calls))) f.ids;
}
call-few c (VerifyCall id total t flashing) is f = record {
  few = few-verify (past_of c).version id total t flashing (answered c.calls) is.0 f.few;
  ids = still _ _ (verify-kept (answer_to (answered c.calls) (VerifyCall id total t flashing)) (deeds (answered c.calls))) f.ids;
}
call-few c (FinishCall id t flashing) is f =
    let call : Call = FinishCall id t flashing in
    let a : StageAnswer = answer_to (answered c.calls) call in
    record {
      few = subst (λ (v : ℕ). Few v (deeds (answered (call ∷ c.calls)))) (sym (installed-version c.history (staged (answered c.calls)) a))
          (few-finish (past_of c).version id t flashing (answered c.calls) f.few);
      ids = still _ _ (finish-kept a (deeds (answered c.calls))) f.ids;
    }

event-few : (c : Coming) (e : Event) → IsPlain e → IsFew c → IsFew (happened c e)
event-few c e is f = record {
  few = subst (λ (v : ℕ). Few v (deeds (answered c.calls))) (sym (plain-version c.history e is)) f.few;
  ids = f.ids;
}

-- the version after any history of a cabinet that opens with version 0
pub version-few : (cabinet_history : CabinetHistory) → (past_at cabinet_history.opening).version ≡ 0 → (past_of (coming cabinet_history)).version ≤ 2147483647
version-few cabinet_history none =
    let f = cabinet_history-keeps Any IsFew
    (record { event = event-few; call = λ c call is before after f. call-few c call is f })
    cabinet_history.community cabinet_history.opening (λ items. any (coming_from cabinet_history.community cabinet_history.opening items))
    (record { few = (none, refl); ids = omega arith }) cabinet_history.items in
    let less : (past_of (coming cabinet_history)).version ≤ kept (answered (coming cabinet_history).calls) =
    few-within (past_of (coming cabinet_history)).version (kept (answered (coming cabinet_history).calls)) (stage_state (answered (coming cabinet_history).calls)) f.few in
    omega (arith, less, f.ids)

-- ---- what a rule that is broken says

record IsSmall (b : Broken) : Type 0 where
  rule : b.rule ≤ 22
  row : b.row ≤ 48

abbrev AllTo : ℕ → List ℕ → Type 0
AllTo most ns = AllByRecursion (λ n. n ≤ most) ns

those-to : (most : ℕ) (test : ℕ → Bool) (ns : List ℕ) → AllTo most ns → AllTo most (those test ns)
those-to most test [] all = tt
those-to most test (n ∷ ns) all = split (those-to most test ns all.1) (test n)
  where
    split : AllTo most (those test ns) → (b : Bool) → AllTo most (if b then n ∷ those test ns else those test ns)
    split more true = (all.0, more)
    split more false = more

within : (most : ℕ) → List ℕ → Bool
within most [] = true
within most (n ∷ ns) = nat_le n most && within most ns

within-to : (most : ℕ) (ns : List ℕ) → within most ns ≡ true → AllTo most ns
unfolding within
within-to most [] e = tt
within-to most (n ∷ ns) e =
    let parts = and_parts (nat_le n most) (within most ns) e in
    (leb-true n most parts.0, within-to most ns parts.1)

rows-to : (rule : Rule) → AllTo 48 (rows_of rule)
unfolding within
rows-to (OnPhase rule) = within-to 48 all_phases refl
rows-to (OnSequence rule) = within-to 48 all_phases refl
rows-to (OnPattern rule) = within-to 48 all_patterns refl
rows-to TwoSides = (omega arith, tt)
rows-to Correction = (omega arith, tt)
rows-to PreemptPhases = within-to 48 all_preempts refl
rows-to LayoutInForce = within-to 48 all_phases refl

at-small : (rule : Rule) (rows : List ℕ) → number_of rule ≤ 22 → AllTo 48 rows → AllByRecursion IsSmall (at_rows rule rows)
at-small rule [] low all = tt
at-small rule (row ∷ rows) low all = (record { rule = low; row = all.0 }, at-small rule rows low all.1)

both-small : (xs ys : List Broken) → AllByRecursion IsSmall xs → AllByRecursion IsSmall ys → AllByRecursion IsSmall (xs ++ ys)
both-small [] ys a b = b
both-small (x ∷ xs) ys a b = (a.0, both-small xs ys a.1 b)

broken-small : (t now : Tables) (flashing : Bool) (rules : List Rule) → AllTo 22 (map number_of rules) → AllByRecursion IsSmall (broken_of t now flashing rules)
broken-small t now flashing [] all = tt
broken-small t now flashing (rule ∷ rules) all =
    let rows : List ℕ = those (breaks t now flashing rule) (rows_of rule) in
    both-small (at_rows rule rows) (broken_of t now flashing rules)
    (at-small rule rows all.0 (those-to 48 (breaks t now flashing rule) (rows_of rule) (rows-to rule)))
    (broken-small t now flashing rules all.1)

first-small : (found : List Broken) (b : Broken) → AllByRecursion IsSmall found → first_of found ≡ Err b → IsSmall b
first-small [] b all e = absurd (cc)
first-small (x ∷ found) b all e = let same : x ≡ b = cc in subst IsSmall same all.0

verdict-small : (c : Coming) (b : Broken) → verdict c ≡ Err b → IsSmall b
unfolding first_broken within
verdict-small c b e =
    first-small (broken (staged (answered c.calls)) (in_force c) (is_flashing (past_of c))) b
    (broken-small (staged (answered c.calls)) (in_force c) (is_flashing (past_of c)) all_rules (within-to 22 (map number_of all_rules) refl)) e

-- ---- the end of a load

verify-id : (id : ℕ) (o : Option StageAnswer) → IsId id → IfSome (verify_end id o) (λ load. IsId load.id)
verify-id id None is = tt
verify-id id (Some Staged) is = tt
verify-id id (Some Repeated) is = tt
verify-id id (Some Verified) is = tt
verify-id id (Some Accepted) is = tt
verify-id id (Some WrongToken) is = tt
verify-id id (Some (WrongPart n)) is = tt
verify-id id (Some NotVerified) is = tt
verify-id id (Some (Refused b)) is = is

finish-id : (v id : ℕ) (o : Option StageAnswer) → IsId id → IfSome (finish_end v id o) (λ load. IsId load.id)
finish-id v id None is = tt
finish-id v id (Some Staged) is = tt
finish-id v id (Some Repeated) is = tt
finish-id v id (Some Verified) is = tt
finish-id v id (Some Accepted) is = is
finish-id v id (Some WrongToken) is = tt
finish-id v id (Some (WrongPart n)) is = tt
finish-id v id (Some NotVerified) is = tt
finish-id v id (Some (Refused b)) is = is

wish-id : (v : ℕ) (wish : Wish) (o : Option StageAnswer) → HasId wish → IfSome (wish_end v wish o) (λ load. IsId load.id)
wish-id v (Verify id total) o is = verify-id id o is
wish-id v (Finish id) o is = finish-id v id o is
wish-id v Get o is = tt
wish-id v Next o is = tt
wish-id v (Direct orders) o is = tt
wish-id v (Begin id) o is = tt
wish-id v (Part id number puts) o is = tt
wish-id v (Bad status index) o is = tt

load-id : (cabinet_history : CabinetHistory) (octets : List ℕ) → IfSome (load_end cabinet_history octets) (λ load. IsId load.id)
load-id cabinet_history octets =
    among (ask_of octets cabinet_history.community (in_force (coming cabinet_history))) (ask-id octets cabinet_history.community (in_force (coming cabinet_history)))
  where
    among : (o : Option Ask) → IfSome o (λ ask. HasId ask.wish) → IfSome (ask_end (coming cabinet_history) o) (λ load. IsId load.id)
    among None is = tt
    among (Some ask) is = wish-id (past_of (coming cabinet_history)).version ask.wish (outcome (coming cabinet_history) ask.wish) is

result-fits : (before after : Coming) (r : Result ℕ Broken) → IsVerdict before after r → (past_of after).version ≤ 2147483647 → FitsLoad r
result-fits before after (Ok version) is few = omega (arith, is.1, few)
result-fits before after (Err b) is few =
    let small = verdict-small before b is in
    (omega (arith, small.rule), omega (arith, small.row))

-- the numbers of a load that ends
pub record LoadFits (load : Load) : Type 0 where
  pub id : load.id < 2 ^ 32
  pub result : FitsLoad load.result

pub load-fits : (cabinet_history : CabinetHistory) (octets : List ℕ) → (past_at cabinet_history.opening).version ≡ 0
    → IfSome (load_end cabinet_history octets) (λ load. IsVerdict (coming cabinet_history) (coming (with_item cabinet_history (Came octets))) load.result)
    → IfSome (load_end cabinet_history octets) LoadFits
load-fits cabinet_history octets none says = joined (load_end cabinet_history octets) (load-id cabinet_history octets) says
  where
    joined : (o : Option Load) → IfSome o (λ load. IsId load.id)
        → IfSome o (λ load. IsVerdict (coming cabinet_history) (coming (with_item cabinet_history (Came octets))) load.result) → IfSome o LoadFits
    joined None own says = tt
    joined (Some load) own says = record {
      id = omega (arith, own.1);
      result = result-fits (coming cabinet_history) (coming (with_item cabinet_history (Came octets))) load.result says (version-few (with_item cabinet_history (Came octets)) none);
    }
