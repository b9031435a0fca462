-- A cabinet history has as many frames as ticks, and one before any; and a round brings as many ticks as the scenario's rounds have.
use Rattle.std.proofs.Common.{◌≡◌, ◌<◌, ◌≤◌, ◌+◌, ◌∙◌, ◌==◌, ◌∷◌, [], inl, inr, ℕ, zero, suc, Bool, true, false, if◌then◌else◌, List, length, map, replicate, get_or, Option, Some, None, refl, ap, arith}
use Rattle.std.proofs.lemmas.Bool.{cases_lt, eqb-false, eq-eqb}
use Rattle.sig_types.specs.declared.frame.Field.{Field}
use Rattle.sig_types.specs.declared.notes.StageAnswer.{StageAnswer}
use Rattle.sig_types.specs.declared.notes.StageAnswer.TheVariants.{Staged, Repeated, Verified, Accepted, WrongToken, WrongPart, NotVerified, Refused}
use Rattle.sig_tables.specs.declared.tables.Tables.{Tables}
use Rattle.sig_tables.specs.Past.{History}
use Rattle.sig_tables.specs.Decide.{frames, with_one}
use Rattle.agent.specs.declared.ask.Order.{Order}
use Rattle.agent.specs.declared.ask.Order.TheVariants.{Pattern as PatternOrder, Clock as ClockOrder, Request as RequestOrder, Cancel as CancelOrder}
use Rattle.agent.specs.declared.ask.Wish.{Wish}
use Rattle.agent.specs.declared.ask.Wish.TheVariants.{Get, Next, Direct, Begin, Part, Verify, Finish, Bad}
use Rattle.agent.specs.declared.ask.Ask.{Ask}
use Rattle.agent.specs.Asks.{ask_of}
use Rattle.sig_types.specs.Items.{Item, InputTold, Came, Ticked}
use Rattle.stage_txn.specs.Calls.{Finish as FinishCall}
use Rattle.stage_txn.specs.Answers.{answered, staged}
use Rattle.cabinet_history.specs.CabinetHistory.{CabinetHistory, with_item, after}
use Rattle.cabinet_history.specs.Journals.{times, IsMerge, act_of, acts_from, acts_of, items_in}
use Rattle.cabinet_history.specs.Coming.{Coming, in_force, past_of, is_flashing, answer_in, order_event, installs, with_events, carried_out, heeded, coming_from, history_of}

-- one for a tick
abbrev pub tick_of : Item → ℕ
tick_of (InputTold field) = 0
tick_of (Came octets) = 0
tick_of Ticked = 1

-- the ticks among items
abbrev pub ticks_in : List Item → ℕ
ticks_in [] = 0
ticks_in (item ∷ items) = tick_of item + ticks_in items

-- ---- frames

orders-frames : (orders : List Order) (h : History) → length (frames (with_events h (map order_event orders))) ≡ length (frames h)
orders-frames [] h = refl
orders-frames (PatternOrder n ∷ orders) h = orders-frames orders (with_one h (order_event (PatternOrder n)))
orders-frames (ClockOrder tick ∷ orders) h = orders-frames orders (with_one h (order_event (ClockOrder tick)))
orders-frames (RequestOrder r ∷ orders) h = orders-frames orders (with_one h (order_event (RequestOrder r)))
orders-frames (CancelOrder number ∷ orders) h = orders-frames orders (with_one h (order_event (CancelOrder number)))

installs-frames : (h : History) (t : Tables) (a : StageAnswer) → length (frames (with_events h (installs t a))) ≡ length (frames h)
installs-frames h t Staged = refl
installs-frames h t Repeated = refl
installs-frames h t Verified = refl
installs-frames h t Accepted = refl
installs-frames h t WrongToken = refl
installs-frames h t (WrongPart n) = refl
installs-frames h t NotVerified = refl
installs-frames h t (Refused b) = refl

wish-frames : (c : Coming) (wish : Wish) → length (frames (carried_out c wish).history) ≡ length (frames c.history)
wish-frames c (Direct orders) = orders-frames orders.items c.history
wish-frames c (Finish id) =
    installs-frames c.history (staged (answered c.calls)) (answer_in c (FinishCall id (in_force c) (is_flashing (past_of c))))
wish-frames c Get = refl
wish-frames c Next = refl
wish-frames c (Begin id) = refl
wish-frames c (Part id number puts) = refl
wish-frames c (Verify id total) = refl
wish-frames c (Bad status index) = refl

heeded-frames : (c : Coming) (o : Option Ask) → length (frames (heeded c o).history) ≡ length (frames c.history)
heeded-frames c None = refl
heeded-frames c (Some ask) = wish-frames c ask.wish

items-frames : (community : List ℕ) (opening : History) (items : List Item)
    → length (frames (coming_from community opening items).history) ≡ ticks_in items + length (frames opening)
items-frames community opening [] = omega arith
items-frames community opening (InputTold field ∷ items) = items-frames community opening items ∙ omega arith
items-frames community opening (Came octets ∷ items) =
    let c : Coming = coming_from community opening items in
    heeded-frames c (ask_of octets community (in_force c)) ∙ items-frames community opening items ∙ omega arith
items-frames community opening (Ticked ∷ items) = ap suc (items-frames community opening items) ∙ omega arith

pub frames-counted : (cabinet_history : CabinetHistory) → length (frames cabinet_history.opening) ≡ 1 → length (frames (history_of cabinet_history)) ≡ ticks_in cabinet_history.items + 1
frames-counted cabinet_history one = let e = items-frames cabinet_history.community cabinet_history.opening cabinet_history.items in omega (arith, e, one)

pub ticks-after : (cabinet_history : CabinetHistory) (items : List Item) → ticks_in (after cabinet_history items).items ≡ ticks_in cabinet_history.items + ticks_in items
ticks-after cabinet_history [] = omega arith
ticks-after cabinet_history (item ∷ items) =
    let e : ticks_in (after (with_item cabinet_history item) items).items ≡ tick_of item + ticks_in cabinet_history.items + ticks_in items = ticks-after (with_item cabinet_history item) items in
    omega (arith, e)

-- ---- the ticks of a round

-- no tick among items
abbrev pub NoTicks : List Item → Type 0
NoTicks items = (k : ℕ) → k < length items → tick_of (get_or items k Ticked) ≡ 0

-- five streams, of which only the last has ticks
pub record OnlyLastTicks (streams : List (List Item)) : Type 0 where
  pub others : (p : ℕ) → p < 4 → NoTicks (get_or streams p [])
  pub behind : (p : ℕ) → 4 < p → length (get_or streams p []) ≡ 0

told-ticks : (fields : List Field) → NoTicks (map InputTold fields)
told-ticks [] k low = absurd (omega (arith, low))
told-ticks (field ∷ fields) zero low = refl
told-ticks (field ∷ fields) (suc k) low = told-ticks fields k (omega (arith, low))

came-ticks : (texts : List (List ℕ)) → NoTicks (map Came texts)
came-ticks [] k low = absurd (omega (arith, low))
came-ticks (text ∷ texts) zero low = refl
came-ticks (text ∷ texts) (suc k) low = came-ticks texts k (omega (arith, low))

pub only-last : (fields : List Field) (a b c : List (List ℕ)) (n : ℕ)
    → OnlyLastTicks (map InputTold fields ∷ map Came a ∷ map Came b ∷ map Came c ∷ replicate n Ticked ∷ [])
only-last fields a b c n = record { others = others; behind = behind }
  where
    streams : List (List Item)
    streams = map InputTold fields ∷ map Came a ∷ map Came b ∷ map Came c ∷ replicate n Ticked ∷ []

    others : (p : ℕ) → p < 4 → NoTicks (get_or streams p [])
    others zero low = told-ticks fields
    others (suc zero) low = came-ticks a
    others (suc (suc zero)) low = came-ticks b
    others (suc (suc (suc zero))) low = came-ticks c
    others (suc (suc (suc (suc p)))) low = absurd (omega (arith, low))

    behind : (p : ℕ) → 4 < p → length (get_or streams p []) ≡ 0
    behind zero high = absurd (omega (arith, high))
    behind (suc zero) high = absurd (omega (arith, high))
    behind (suc (suc zero)) high = absurd (omega (arith, high))
    behind (suc (suc (suc zero))) high = absurd (omega (arith, high))
    behind (suc (suc (suc (suc zero)))) high = absurd (omega (arith, high))
    behind (suc (suc (suc (suc (suc p))))) high = refl

-- each pass has room for what is to come of it after what has come
abbrev HasRoom : List (List Item) → List ℕ → List ℕ → Type 0
HasRoom streams before journal = (p : ℕ) → times p before + times p journal ≤ length (get_or streams p [])

one-tick : (item : Item) → tick_of item ≤ 1
one-tick (InputTold field) = omega arith
one-tick (Came octets) = omega arith
one-tick Ticked = omega arith

first-counts : (p : ℕ) (journal : List ℕ) → times p (p ∷ journal) ≡ times p journal + 1
first-counts p journal = let e : (p == p) ≡ true = eq-eqb p p refl in rw e refl

act-ticks : (streams : List (List Item)) (before journal : List ℕ) (p : ℕ) → OnlyLastTicks streams → HasRoom streams before (p ∷ journal)
    → tick_of (act_of streams before p).item + times 4 journal ≤ times 4 (p ∷ journal)
act-ticks streams before journal p only room = split (4 == p) refl
  where
    item : Item
    item = (act_of streams before p).item

    here : times p before < length (get_or streams p [])
    here = let e = first-counts p journal in let r = room p in omega (arith, e, r)

    below : p < 4 → tick_of item ≡ 0
    below low = only.others p low (times p before) here

    other : (4 == p) ≡ false → tick_of item ≡ 0
    other e = elim (cases_lt p 4) [
      | inl low ↦ below low
      | inr high ↦
          let ne = eqb-false 4 p e in
          let none : length (get_or streams p []) ≡ 0 = only.behind p (omega (arith, high, ne)) in
          absurd (omega (arith, none, here))
    ]

    split : (b : Bool) → (4 == p) ≡ b → tick_of item + times 4 journal ≤ (if b then times 4 journal + 1 else times 4 journal)
    split true e = omega (arith, one-tick item)
    split false e = omega (arith, other e)

turned : (streams : List (List Item)) (before journal : List ℕ) (p : ℕ) → HasRoom streams before (p ∷ journal) → HasRoom streams (p ∷ before) journal
turned streams before journal p room q = split (q == p) (room q)
  where
    split : (b : Bool) → times q before + (if b then times q journal + 1 else times q journal) ≤ length (get_or streams q [])
        → (if b then times q before + 1 else times q before) + times q journal ≤ length (get_or streams q [])
    split true r = omega (arith, r)
    split false r = r

acts-ticks : (streams : List (List Item)) (before journal : List ℕ) → OnlyLastTicks streams → HasRoom streams before journal
    → ticks_in (items_in (acts_from streams before journal)) ≤ times 4 journal
acts-ticks streams before [] only room = omega arith
acts-ticks streams before (p ∷ journal) only room =
    let more : ticks_in (items_in (acts_from streams (p ∷ before) journal)) ≤ times 4 journal =
    acts-ticks streams (p ∷ before) journal only (turned streams before journal p room) in
    let first = act-ticks streams before journal p only room in
    omega (arith, more, first)

-- a journal brings no more ticks than the last stream has
pub journal-ticks : (streams : List (List Item)) (journal : List ℕ) → OnlyLastTicks streams → IsMerge streams journal
    → ticks_in (items_in (acts_of streams journal)) ≤ length (get_or streams 4 [])
journal-ticks streams journal only is =
    let few = acts-ticks streams [] journal only (λ p. let e = is p in omega (arith, e)) in
    let e = is 4 in
    omega (arith, few, e)
