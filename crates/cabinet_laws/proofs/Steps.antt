-- What arrives at a cabinet, step by step: events that leave its tables and its drift, and calls of its download stage.
use Rattle.std.proofs.Common.{◌≡◌, ℕ, List, [], ◌∷◌, map, Option, Some, None, refl}
use Rattle.std.specs.Prelude.{IfSome}
use Rattle.sig_tables.specs.Past.{Event, Tick, Input, Install, SetDrift, History}
use Rattle.sig_tables.specs.Decide.{with_one}
use Rattle.sig_tables.specs.Putting.{put_content}
use Rattle.stage_txn.specs.Calls.{Call, Begin as BeginCall, Part as PartCall, Verify as VerifyCall, Finish as FinishCall}
use Rattle.stage_txn.specs.Answers.{answered, staged}
use Rattle.agent.specs.declared.ask.Order.{Order}
use Rattle.agent.specs.declared.ask.Order.TheVariants.{Pattern as PatternOrder, Clock as ClockOrder, Request as RequestOrder, Cancel as CancelOrder}
use Rattle.agent.specs.declared.ask.Wish.{Wish}
use Rattle.agent.specs.declared.ask.Wish.TheVariants.{Get, Next, Direct, Begin, Part, Verify, Finish, Bad}
use Rattle.agent.specs.declared.ask.Ask.{Ask}
use Rattle.agent.specs.Asks.{ask_of}
use Rattle.agent.specs.Downloads.{IsId}
use Rattle.sig_types.specs.Items.{Item, InputTold, Came, Ticked}
use Rattle.cabinet_history.specs.Coming.{Coming, in_force, past_of, is_flashing, answer_in, order_event, installs, with_events, carried_out, heeded, with_item, coming_from}
use Rattle.cabinet_laws.proofs.Ids.{HasId, ask-id}

-- an event that puts no tables in force and sets no drift
abbrev pub IsPlain : Event → Type 0
IsPlain (Install t) = ⊥
IsPlain (SetDrift gain lose) = ⊥
IsPlain _ = Unit {0}

-- a call that was made under an id, with the tables in force and whether the cabinet flashed
abbrev pub IsMadeAt : Coming → Call → Type 0
IsMadeAt c (BeginCall id t) = IsId id × (t ≡ in_force c)
IsMadeAt c (PartCall id number cells) = IsId id
IsMadeAt c (VerifyCall id total t flashing) = IsId id
IsMadeAt c (FinishCall id t flashing) = IsId id × ((t ≡ in_force c) × (flashing ≡ is_flashing (past_of c)))

-- what a call does to the controller
abbrev pub call_events : Coming → Call → List Event
call_events c (FinishCall id t flashing) = installs (staged (answered c.calls)) (answer_in c (FinishCall id t flashing))
call_events c _ = []

-- what the cabinet has reached with one event or one call more
abbrev pub happened : Coming → Event → Coming
happened c e = record { history = with_one c.history e; calls = c.calls }

abbrev pub called : Coming → Call → Coming
called c call = record { history = with_events c.history (call_events c call); calls = call ∷ c.calls }

-- nothing more is known of what a cabinet comes to
abbrev pub Any : Coming → Type 0
Any c = Unit {0}

pub any : (c : Coming) → Any c
any c = tt

-- what each plain event and each call keeps, given what is known of all that a cabinet comes to
pub record StepKeeps (Known P : Coming → Type 0) : Type 0 where
  pub event : (c : Coming) (e : Event) → IsPlain e → P c → P (happened c e)
  pub call : (c : Coming) (call : Call) → IsMadeAt c call → Known c → Known (called c call) → P c → P (called c call)

plain-order : (o : Order) → IsPlain (order_event o)
plain-order (PatternOrder n) = tt
plain-order (ClockOrder tick) = tt
plain-order (RequestOrder r) = tt
plain-order (CancelOrder number) = tt

-- what the cabinet has reached after these events
abbrev after_events : Coming → List Event → Coming
after_events c events = record { history = with_events c.history events; calls = c.calls }

orders-keep : (Known P : Coming → Type 0) → StepKeeps Known P → (orders : List Order) (c : Coming) → P c → P (after_events c (map order_event orders))
orders-keep Known P k [] c h = h
orders-keep Known P k (o ∷ orders) c h =
    orders-keep Known P k orders (happened c (order_event o)) (k.event c (order_event o) (plain-order o) h)

wish-keeps : (Known P : Coming → Type 0) → StepKeeps Known P → (c : Coming) (wish : Wish) → HasId wish → Known c → Known (carried_out c wish) → P c
    → P (carried_out c wish)
wish-keeps Known P k c (Direct orders) is before after h = orders-keep Known P k orders.items c h
wish-keeps Known P k c (Begin id) is before after h = k.call c (BeginCall id (in_force c)) (is, refl) before after h
wish-keeps Known P k c (Part id number puts) is before after h = k.call c (PartCall id number (map put_content puts.items)) is before after h
wish-keeps Known P k c (Verify id total) is before after h =
    k.call c (VerifyCall id total (in_force c) (is_flashing (past_of c))) is before after h
wish-keeps Known P k c (Finish id) is before after h =
    k.call c (FinishCall id (in_force c) (is_flashing (past_of c))) (is, (refl, refl)) before after h
wish-keeps Known P k c Get is before after h = h
wish-keeps Known P k c Next is before after h = h
wish-keeps Known P k c (Bad status index) is before after h = h

ask-keeps : (Known P : Coming → Type 0) → StepKeeps Known P → (c : Coming) (ask : Option Ask) → IfSome ask (λ a. HasId a.wish) → Known c
    → Known (heeded c ask) → P c → P (heeded c ask)
ask-keeps Known P k c (Some ask) is before after h = wish-keeps Known P k c ask.wish is before after h
ask-keeps Known P k c None is before after h = h

item-keeps : (Known P : Coming → Type 0) → StepKeeps Known P → (community : List ℕ) (item : Item) (c : Coming) → Known c
    → Known (with_item community item c) → P c → P (with_item community item c)
item-keeps Known P k community (InputTold field) c before after h = k.event c (Input field) tt h
item-keeps Known P k community (Came octets) c before after h =
    ask-keeps Known P k c (ask_of octets community (in_force c)) (ask-id octets community (in_force c)) before after h
item-keeps Known P k community Ticked c before after h = k.event c Tick tt h

-- what holds of the opening, and is kept, holds of all that comes after
pub cabinet_history-keeps : (Known P : Coming → Type 0) → StepKeeps Known P → (community : List ℕ) (opening : History)
    → ((items : List Item) → Known (coming_from community opening items)) → P (record { history = opening; calls = [] }) → (items : List Item)
    → P (coming_from community opening items)
cabinet_history-keeps Known P k community opening known h [] = h
cabinet_history-keeps Known P k community opening known h (item ∷ items) =
    item-keeps Known P k community item (coming_from community opening items) (known items) (known (item ∷ items))
    (cabinet_history-keeps Known P k community opening known h items)
