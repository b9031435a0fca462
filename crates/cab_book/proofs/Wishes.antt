-- The effect of a wish on the stage and on the controller.
use Rattle.std.proofs.Common.{◌≡◌, ◌<◌, ℕ, suc, zero, Bool, List, [], ◌∷◌, length, map, take, get_or, refl, sym, ap, subst, arith, Option, Some, is_some}
use Rattle.sig_types.specs.declared.notes.StageAnswer.{StageAnswer}
use Rattle.sig_types.specs.declared.notes.StageAnswer.TheVariants.{Staged, Repeated, Verified, Accepted, WrongToken, WrongPart, NotVerified, Refused}
use Rattle.sig_types.specs.declared.frame.Mode.{Mode}
use Rattle.sig_types.specs.declared.frame.Mode.TheVariants.{Start, Free, Seek, Coord, Ending, Flash, Entry, Track, Dwell, Exit}
use Rattle.sig_types.specs.Colour.{same_mode}
use Rattle.sig_tables.specs.declared.tables.Tables.{Tables}
use Rattle.sig_tables.specs.Past.{History}
use Rattle.sig_tables.specs.Decide.{with_one}
use Rattle.tick_context.specs.Modes.{is_flash}
use Rattle.stage_txn.specs.declared.Stage.{Stage}
use Rattle.stage_txn.specs.Calls.{Call, Begin as BeginCall, Verify as VerifyCall, Finish as FinishCall, Deed, finish_deed, staged_by}
use Rattle.stage_txn.specs.Answers.{answered, answer_to}
use Rattle.stage_txn.specs.StageKeeps.{StageStands}
use Rattle.agent.specs.declared.ask.Order.{Order}
use Rattle.agent.specs.declared.ask.Wish.{Wish}
use Rattle.agent.specs.declared.ask.Wish.TheVariants.{Get, Next, Direct, Begin, Part, Verify, Finish, Bad}
use Rattle.agent.specs.Replies.{is_for_stage}
use Rattle.cabinet_history.specs.Coming.{Coming, in_force, is_flashing, past_of, call_of, outcome, outcome_in, order_event, installs, with_events, with_call}

pub same_flash : (m : Mode) → is_flash m ≡ same_mode m Flash
same_flash Start = refl
same_flash Free = refl
same_flash (Seek n) = refl
same_flash (Coord n) = refl
same_flash Ending = refl
same_flash Flash = refl
same_flash (Entry i) = refl
same_flash (Track i) = refl
same_flash (Dwell i) = refl
same_flash (Exit i) = refl

-- the stage was called so, and answered this
pub record Called (old new : Stage) (r : StageAnswer) (call : Call) : Type 0 where
  pub answer : (calls : List Call) → StageStands old calls → r ≡ answer_to (answered calls) call
  pub stands : (calls : List Call) → StageStands old calls → StageStands new (call ∷ calls)

-- a wish is one for the stage, which was called with what is in force
abbrev pub IsCall : Coming → Wish → Call → Type 0
IsCall has wish call = call_of has wish ≡ Some call

outcome_by : (has : Coming) (found : Option Call) (call : Call) → found ≡ Some call → (r : StageAnswer) → r ≡ answer_to (answered has.calls) call
    → Some r ≡ outcome_in has found
outcome_by has found call e r a = rw e (ap Some a)

pub outcome-is : (has : Coming) (wish : Wish) (call : Call) (old new : Stage) (r : StageAnswer) → Called old new r call → call_of has wish ≡ Some call
    → StageStands old has.calls → Some r ≡ outcome has wish
outcome-is has wish call old new r called e s = outcome_by has (call_of has wish) call e r (called.answer has.calls s)

pub calls-stand : (has : Coming) (wish : Wish) (call : Call) (old new : Stage) (r : StageAnswer) → Called old new r call → call_of has wish ≡ Some call
    → StageStands old has.calls → StageStands new (with_call has.calls (call_of has wish))
calls-stand has wish call old new r called e s =
    subst (λ (found : Option Call). StageStands new (with_call has.calls found)) (sym e) (called.stands has.calls s)

-- each wish with what is in force
pub begin-call : (has : Coming) (wish : Wish) (id : ℕ) (t : Tables) → wish ≡ Begin id → t ≡ in_force has → call_of has wish ≡ Some (BeginCall id t)
begin-call has wish id t e same = rw (e, same) refl

pub verify-call : (has : Coming) (wish : Wish) (id total : ℕ) (t : Tables) (flashing : Bool) → wish ≡ Verify id total → t ≡ in_force has
    → flashing ≡ is_flashing (past_of has) → call_of has wish ≡ Some (VerifyCall id total t flashing)
verify-call has wish id total t flashing e same f = rw (e, same, f) refl

pub finish-call : (has : Coming) (wish : Wish) (id : ℕ) (t : Tables) (flashing : Bool) → wish ≡ Finish id → t ≡ in_force has
    → flashing ≡ is_flashing (past_of has) → call_of has wish ≡ Some (FinishCall id t flashing)
finish-call has wish id t flashing e same f = rw (e, same, f) refl

-- the stage answers where it is called, and nowhere else
pub has-outcome : (has : Coming) (wish : Wish) → is_some (outcome has wish) ≡ is_for_stage wish
has-outcome has Get = refl
has-outcome has Next = refl
has-outcome has (Direct orders) = refl
has-outcome has (Begin id) = refl
has-outcome has (Part id number puts) = refl
has-outcome has (Verify id total) = refl
has-outcome has (Finish id) = refl
has-outcome has (Bad status index) = refl

-- orders that were given, with one more
pub given-more : (h : History) (orders : List Order) (i : ℕ) (d : Order) → i < length orders
    → with_events h (map order_event (take (suc i) orders)) ≡ with_one (with_events h (map order_event (take i orders))) (order_event (get_or orders i d))
given-more h [] i d less = absurd (omega (arith, less))
given-more h (o ∷ orders) zero d less = refl
given-more h (o ∷ orders) (suc i) d less = given-more (with_one h (order_event o)) orders i d (omega (arith, less))

-- a finish changes no staged tables
pub finish-staged : (a : StageAnswer) (past : List Deed) → staged_by (finish_deed a ∷ past) ≡ staged_by past
finish-staged Staged past = refl
finish-staged Repeated past = refl
finish-staged Verified past = refl
finish-staged Accepted past = refl
finish-staged WrongToken past = refl
finish-staged (WrongPart n) past = refl
finish-staged NotVerified past = refl
finish-staged (Refused b) past = refl

pub installs-none : (t : Tables) (a : StageAnswer) → (Some a ≡ Some Accepted → ⊥) → installs t a ≡ []
installs-none t Staged ne = refl
installs-none t Repeated ne = refl
installs-none t Verified ne = refl
installs-none t Accepted ne = absurd (ne refl)
installs-none t WrongToken ne = refl
installs-none t (WrongPart n) ne = refl
installs-none t NotVerified ne = refl
installs-none t (Refused b) ne = refl
