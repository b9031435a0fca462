-- What the items of a cabinet history tell is what is to be reported of its history.
use Rattle.std.proofs.Common.{◌≡◌, ℕ, ◌∙◌, List, [], ◌∷◌, ◌++◌, map, length, Option, Some, None, refl, sym, ap, inl, inr, Bool, true, false, append-nil, append_assoc}
use Rattle.std.specs.Prelude.{if◌then◌else◌}
use Rattle.sig_types.specs.declared.notes.StageAnswer.{StageAnswer}
use Rattle.sig_types.specs.declared.notes.StageAnswer.TheVariants.{Staged, Repeated, Verified, Accepted, WrongToken, WrongPart, NotVerified, Refused}
use Rattle.sig_tables.specs.declared.tables.Tables.{Tables}
use Rattle.sig_tables.specs.Past.{Tick, History, first_frame}
use Rattle.sig_tables.specs.Decide.{with_one, decide, frames, last_frame_of, past_at, opening}
use Rattle.safety_laws.specs.Written.{shown_by}
use Rattle.safety_laws.specs.CabinetTold.{CabinetTold, Shows, history_told}
use Rattle.agent.specs.declared.ask.Order.{Order}
use Rattle.agent.specs.declared.ask.Order.TheVariants.{Pattern as PatternOrder, Clock as ClockOrder, Request as RequestOrder, Cancel as CancelOrder}
use Rattle.agent.specs.declared.ask.Wish.{Wish}
use Rattle.agent.specs.declared.ask.Wish.TheVariants.{Get, Next, Direct, Begin, Part, Verify, Finish, Bad}
use Rattle.agent.specs.declared.ask.Ask.{Ask}
use Rattle.agent.specs.Asks.{ask_of}
use Rattle.sig_types.specs.Items.{Item, InputTold as Input, Came, Ticked}
use Rattle.stage_txn.specs.Calls.{Verify as VerifyCall, Finish as FinishCall}
use Rattle.stage_txn.specs.Answers.{answered, staged}
use Rattle.plan_facts.specs.Disturbances.{Drift}
use Rattle.cabinet_history.specs.CabinetHistory.{CabinetHistory, with_item as with_one_item, after}
use Rattle.cabinet_history.specs.Journals.{Act, items_in}
use Rattle.cabinet_history.specs.Coming.{Coming, in_force, past_of, is_flashing, answer_in, outcome, order_event, installs, with_events, carried_out, heeded, with_item, coming_from, history_of}
use Rattle.cabinet_history.specs.Frames.{has_line, tick_written}
use Rattle.cabinet_history.specs.CabinetAnswers.{verify_end, finish_end, wish_end, ask_end}
use Rattle.cabinet_laws.specs.Openings.{IsOpening}
use Rattle.cabinet_laws.specs.Telling.{load_told, frames_told, item_told, items_told, cabinet_history_told, acts_told}

-- what is to be reported of a history
abbrev due : History → List CabinetTold
due h = history_told has_line h

nothing-more : (xs ys : List CabinetTold) → ys ≡ xs → ys ≡ xs ++ []
nothing-more xs ys e = e ∙ sym (append-nil xs)

order-tells : (h : History) (o : Order) → due (with_one h (order_event o)) ≡ due h
order-tells h (PatternOrder n) = refl
order-tells h (ClockOrder tick) = refl
order-tells h (RequestOrder r) = refl
order-tells h (CancelOrder number) = refl

orders-tell : (orders : List Order) (h : History) → due (with_events h (map order_event orders)) ≡ due h
orders-tell [] h = refl
orders-tell (o ∷ orders) h = orders-tell orders (with_one h (order_event o)) ∙ order-tells h o

verify-tells : (id : ℕ) (a : StageAnswer) → load_told (verify_end id (Some a)) ≡ []
verify-tells id Staged = refl
verify-tells id Repeated = refl
verify-tells id Verified = refl
verify-tells id Accepted = refl
verify-tells id WrongToken = refl
verify-tells id (WrongPart n) = refl
verify-tells id NotVerified = refl
verify-tells id (Refused b) = refl

-- an accepted finish puts tables in force and gives their version
finish-tells : (h : History) (next : Tables) (id : ℕ) (a : StageAnswer)
    → due (with_events h (installs next a)) ≡ due h ++ load_told (finish_end (past_at h).version id (Some a))
finish-tells h next id Accepted = refl
finish-tells h next id Staged = nothing-more (due h) (due h) refl
finish-tells h next id Repeated = nothing-more (due h) (due h) refl
finish-tells h next id Verified = nothing-more (due h) (due h) refl
finish-tells h next id WrongToken = nothing-more (due h) (due h) refl
finish-tells h next id (WrongPart n) = nothing-more (due h) (due h) refl
finish-tells h next id NotVerified = nothing-more (due h) (due h) refl
finish-tells h next id (Refused b) = nothing-more (due h) (due h) refl

wish-tells : (c : Coming) (wish : Wish)
    → due (carried_out c wish).history ≡ due c.history ++ load_told (wish_end (past_of c).version wish (outcome c wish))
wish-tells c (Direct orders) = nothing-more (due c.history) _ (orders-tell orders.items c.history)
wish-tells c (Begin id) = nothing-more (due c.history) (due c.history) refl
wish-tells c (Part id number puts) = nothing-more (due c.history) (due c.history) refl
wish-tells c (Verify id total) =
    nothing-more (due c.history) (due c.history) refl
    ∙ ap (λ (x : List CabinetTold). due c.history ++ x) (sym (verify-tells id (answer_in c (VerifyCall id total (in_force c) (is_flashing (past_of c))))))
wish-tells c (Finish id) =
    finish-tells c.history (staged (answered c.calls)) id (answer_in c (FinishCall id (in_force c) (is_flashing (past_of c))))
wish-tells c Get = nothing-more (due c.history) (due c.history) refl
wish-tells c Next = nothing-more (due c.history) (due c.history) refl
wish-tells c (Bad status index) = nothing-more (due c.history) (due c.history) refl

ask-tells : (c : Coming) (ask : Option Ask) → due (heeded c ask).history ≡ due c.history ++ load_told (ask_end c ask)
ask-tells c (Some ask) = wish-tells c ask.wish
ask-tells c None = nothing-more (due c.history) (due c.history) refl

tick-tells : (h : History) → due (with_one h Tick) ≡ due h ++ frames_told (tick_written h)
tick-tells h = split (has_line (last_frame_of h) (decide h))
  where
    split : (b : Bool)
        → due h ++ (if b then Shows (length (frames h)) (shown_by (decide h)) ∷ [] else [])
        ≡ due h ++ frames_told (if b then (length (frames h), decide h) ∷ [] else [])
    split true = refl
    split false = refl

item-tells : (community : List ℕ) (opening : History) (items : List Item) (item : Item)
    → due (with_item community item (coming_from community opening items)).history
    ≡ due (coming_from community opening items).history ++ item_told (record { community = community; opening = opening; items = items }) item
item-tells community opening items (Input field) = nothing-more (due (coming_from community opening items).history) _ refl
item-tells community opening items (Came octets) =
    ask-tells (coming_from community opening items) (ask_of octets community (in_force (coming_from community opening items)))
item-tells community opening items Ticked = tick-tells (coming_from community opening items).history

items-tell : (community : List ℕ) (opening : History) → due opening ≡ Shows 0 (shown_by first_frame) ∷ [] → (items : List Item)
    → items_told community opening items ≡ due (coming_from community opening items).history
items-tell community opening e [] = sym e
items-tell community opening e (item ∷ items) =
    ap (λ (x : List CabinetTold). x ++ item_told (record { community = community; opening = opening; items = items }) item)
    (items-tell community opening e items)
    ∙ sym (item-tells community opening items item)

opening-tells : (t : Tables) (d : Drift) (h : History) → IsOpening t d h → due h ≡ Shows 0 (shown_by first_frame) ∷ []
opening-tells t d h (command, clock, inl (e, even)) = ap due e
opening-tells t d h (command, clock, inr e) = ap due e

pub cabinet_history-tells : (cabinet_history : CabinetHistory) (t : Tables) (d : Drift) → IsOpening t d cabinet_history.opening → cabinet_history_told cabinet_history ≡ history_told has_line (history_of cabinet_history)
cabinet_history-tells cabinet_history t d opens = items-tell cabinet_history.community cabinet_history.opening (opening-tells t d cabinet_history.opening opens) cabinet_history.items

pub acts-tell : (cabinet_history : CabinetHistory) (acts : List Act) → cabinet_history_told (after cabinet_history (items_in acts)) ≡ cabinet_history_told cabinet_history ++ acts_told cabinet_history acts
acts-tell cabinet_history [] = sym (append-nil (cabinet_history_told cabinet_history))
acts-tell cabinet_history (act ∷ acts) =
    acts-tell (with_one_item cabinet_history act.item) acts
    ∙ append_assoc (cabinet_history_told cabinet_history) (item_told cabinet_history act.item) (acts_told (with_one_item cabinet_history act.item) acts)
