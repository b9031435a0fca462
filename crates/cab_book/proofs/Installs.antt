-- What a wish does to a controller, by its orders and its install.
use Rattle.std.proofs.Common.{◌≡◌, ◌∙◌, All, true, false, [], ◌∷◌, map, refl, sym, ap, subst, arith, Some}
use Rattle.std.proofs.lemmas.Bool.{false≢true}
use Rattle.sig_types.specs.declared.notes.StageAnswer.{StageAnswer}
use Rattle.sig_types.specs.declared.notes.StageAnswer.TheVariants.{Staged, Repeated, Verified, Accepted, WrongToken, WrongPart, NotVerified, Refused}
use Rattle.sig_tables.specs.declared.tables.Tables.{Tables}
use Rattle.sig_tables.specs.Past.{Install}
use Rattle.tick_context.specs.CanRun.{CanRun}
use Rattle.stage_txn.specs.Calls.{Finish as FinishCall, deeds}
use Rattle.stage_txn.specs.Answers.{answered, answer_to, staged}
use Rattle.agent.specs.declared.ask.Wish.{Wish}
use Rattle.agent.specs.declared.ask.Wish.TheVariants.{Get, Next, Direct, Begin, Part, Verify, Finish, Bad}
use Rattle.agent.specs.Asks.{CanBeCarriedOut}
use Rattle.agent.specs.Orders.{IsFit}
use Rattle.cabinet_history.specs.Coming.{Coming, in_force, past_of, is_flashing, call_of, outcome, order_event, installs, events_of, with_call}
use Rattle.cab_book.specs.Carried.{orders_in, has_accepted, is_accepted}
use Rattle.cab_book.proofs.Wishes.{finish-staged}
use Rattle.cab_book.proofs.Installing.{accepted-runs}

-- the orders of what can be carried out are fit
pub orders-fit : (wish : Wish) → CanBeCarriedOut wish → All IsFit (orders_in wish)
orders-fit (Direct orders) can = can
orders-fit Get can = λ k d less. absurd (omega (arith, less))
orders-fit Next can = λ k d less. absurd (omega (arith, less))
orders-fit (Begin id) can = λ k d less. absurd (omega (arith, less))
orders-fit (Part id number puts) can = λ k d less. absurd (omega (arith, less))
orders-fit (Verify id total) can = λ k d less. absurd (omega (arith, less))
orders-fit (Finish id) can = λ k d less. absurd (omega (arith, less))
orders-fit (Bad status index) can = λ k d less. absurd (omega (arith, less))

-- where nothing is accepted the orders are all
none-installed : (t : Tables) (a : StageAnswer) → has_accepted (Some a) ≡ false → installs t a ≡ []
none-installed t Staged e = refl
none-installed t Repeated e = refl
none-installed t Verified e = refl
none-installed t Accepted e = absurd (false≢true (sym e))
none-installed t WrongToken e = refl
none-installed t (WrongPart n) e = refl
none-installed t NotVerified e = refl
none-installed t (Refused b) e = refl

pub orders-alone : (has : Coming) (wish : Wish) → is_accepted wish (outcome has wish) ≡ false → map order_event (orders_in wish) ≡ events_of has wish
orders-alone has (Direct orders) e = refl
orders-alone has Get e = refl
orders-alone has Next e = refl
orders-alone has (Begin id) e = refl
orders-alone has (Part id number puts) e = refl
orders-alone has (Verify id total) e = refl
orders-alone has (Finish id) e = sym (none-installed (staged (answered has.calls)) (answer_to (answered has.calls) (FinishCall id (in_force has) (is_flashing (past_of has)))) e)
orders-alone has (Bad status index) e = refl

accepted-is : (a : StageAnswer) → has_accepted (Some a) ≡ true → a ≡ Accepted
accepted-is Staged e = absurd (false≢true e)
accepted-is Repeated e = absurd (false≢true e)
accepted-is Verified e = absurd (false≢true e)
accepted-is Accepted e = refl
accepted-is WrongToken e = absurd (false≢true e)
accepted-is (WrongPart n) e = absurd (false≢true e)
accepted-is NotVerified e = absurd (false≢true e)
accepted-is (Refused b) e = absurd (false≢true e)

-- where a finish is accepted, the install of the staged tables is all, and they can be run
pub record Puts (has : Coming) (wish : Wish) (t : Tables) : Type 0 where
  pub orders : map order_event (orders_in wish) ≡ []
  pub events : events_of has wish ≡ Install t ∷ []
  pub runs : CanRun t

pub puts-staged : (has : Coming) (wish : Wish) → is_accepted wish (outcome has wish) ≡ true
    → Puts has wish (staged (answered (with_call has.calls (call_of has wish))))
puts-staged has (Direct orders) e = absurd (false≢true e)
puts-staged has Get e = absurd (false≢true e)
puts-staged has Next e = absurd (false≢true e)
puts-staged has (Begin id) e = absurd (false≢true e)
puts-staged has (Part id number puts) e = absurd (false≢true e)
puts-staged has (Verify id total) e = absurd (false≢true e)
puts-staged has (Bad status index) e = absurd (false≢true e)
puts-staged has (Finish id) e =
    let f = is_flashing (past_of has) in
    let a = answer_to (answered has.calls) (FinishCall id (in_force has) f) in
    let yes : a ≡ Accepted = accepted-is a e in
    let same : staged (answered has.calls) ≡ staged (answered (FinishCall id (in_force has) f ∷ has.calls)) = sym (finish-staged a (deeds (answered has.calls))) in
    record {
      orders = refl;
      events = ap (installs (staged (answered has.calls))) yes ∙ ap (λ (t : Tables). Install t ∷ []) same;
      runs = subst CanRun same (accepted-runs id (in_force has) f (answered has.calls) yes);
    }
