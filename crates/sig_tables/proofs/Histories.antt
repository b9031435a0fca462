-- What a history keeps: shown once over its events. Only a tick and a download change the tables and the moments, so that
-- what speaks of these has two cases, whatever kinds of events there are.
use Rattle.std.proofs.Common.{ℕ, List, [], ◌∷◌, ◌+◌}
use Rattle.sig_tables.specs.declared.tables.Tables.{Tables}
use Rattle.sig_tables.specs.Events.{EachEvent}
use Rattle.sig_tables.specs.Past.{Event, Tick, Input, Install, SetPattern, SetClock, Ask, Cancel, SetDrift, Past, Moment, first_moment}
use Rattle.sig_tables.specs.Decide.{next_moment, past_of}

-- a fact of the tables in force, their number and the moments
abbrev pub Holds : (Tables → ℕ → List Moment → Type 0) → Past → Type 0
Holds fact past = fact past.tables past.version past.moments

-- what holds before any event, and is kept by each tick and each download that the events before it allow, holds after all
-- events that are allowed
pub over-events : (opening : Tables) (allows : List Event → Event → Type 0) (fact : Tables → ℕ → List Moment → Type 0)
    → fact opening 0 (first_moment opening ∷ [])
    → ((events : List Event) → EachEvent allows events → allows events Tick → Holds fact (past_of opening events)
    → fact (past_of opening events).tables (past_of opening events).version (next_moment (past_of opening events) ∷ (past_of opening events).moments))
    → ((events : List Event) (t : Tables) → EachEvent allows events → allows events (Install t) → Holds fact (past_of opening events)
    → fact t ((past_of opening events).version + 1) (past_of opening events).moments)
    → (events : List Event) → EachEvent allows events → Holds fact (past_of opening events)
over-events opening allows fact start tick install [] a = start
over-events opening allows fact start tick install (Tick ∷ events) a =
    tick events a.1 a.0 (over-events opening allows fact start tick install events a.1)
over-events opening allows fact start tick install (Install t ∷ events) a =
    install events t a.1 a.0 (over-events opening allows fact start tick install events a.1)
over-events opening allows fact start tick install (Input field ∷ events) a = over-events opening allows fact start tick install events a.1
over-events opening allows fact start tick install (SetPattern n ∷ events) a = over-events opening allows fact start tick install events a.1
over-events opening allows fact start tick install (SetClock n ∷ events) a = over-events opening allows fact start tick install events a.1
over-events opening allows fact start tick install (Ask request ∷ events) a = over-events opening allows fact start tick install events a.1
over-events opening allows fact start tick install (Cancel number ∷ events) a = over-events opening allows fact start tick install events a.1
over-events opening allows fact start tick install (SetDrift gain lose ∷ events) a = over-events opening allows fact start tick install events a.1

-- every event is allowed
abbrev pub Any : List Event → Event → Type 0
Any before e = Unit {0}

pub any-events : (events : List Event) → EachEvent Any events
any-events [] = tt
any-events (e ∷ events) = (tt, any-events events)

-- what the first moment has and each tick keeps, the moments of every history have
pub over-moments : (opening : Tables) (fact : List Moment → Type 0) → fact (first_moment opening ∷ [])
    → ((past : Past) → fact past.moments → fact (next_moment past ∷ past.moments))
    → (events : List Event) → fact (past_of opening events).moments
over-moments opening fact start tick events =
    over-events opening Any (λ t version moments. fact moments) start (λ before a allowed h. tick (past_of opening before) h)
    (λ before t a allowed h. h) events (any-events events)

-- what events may be where those before them are as one rule asks, they may be where they are as a weaker one asks
pub each-event : (P Q : List Event → Event → Type 0) → ((before : List Event) (e : Event) → P before e → Q before e)
    → (events : List Event) → EachEvent P events → EachEvent Q events
each-event P Q weaker [] h = tt
each-event P Q weaker (e ∷ events) h = (weaker events e h.0, each-event P Q weaker events h.1)
