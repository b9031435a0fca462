-- What each moment of a history is: shown once from the first moment and from one tick.
use Rattle.std.proofs.Common.{List, [], ◌∷◌}
use Rattle.sig_types.specs.declared.frame.Frame.{Frame}
use Rattle.sig_tables.specs.declared.tables.Tables.{Tables}
use Rattle.sig_tables.specs.Past.{Event, Tick, Past, Moment, first_frame, first_moment}
use Rattle.sig_tables.specs.Looking.{last_frame}
use Rattle.sig_tables.specs.Events.{EachEvent}
use Rattle.sig_tables.specs.Decide.{next_moment, past_of}
use Rattle.sig_tables.proofs.Histories.{over-events, over-moments}
use Rattle.tick_laws.specs.Each.{EachMoment}

-- what each moment is, it is by a weaker rule too
pub each-weaker : (asks other : List Moment → Moment → Type 0) → ((past : List Moment) (m : Moment) → asks past m → other past m)
    → (moments : List Moment) → EachMoment asks moments → EachMoment other moments
each-weaker asks other weaker [] h = tt
each-weaker asks other weaker (m ∷ past) h = (weaker past m h.0, each-weaker asks other weaker past h.1)

pub each-both : (asks other : List Moment → Moment → Type 0) (moments : List Moment) → EachMoment asks moments → EachMoment other moments
    → EachMoment (λ past m. asks past m × other past m) moments
each-both asks other [] h k = tt
each-both asks other (m ∷ past) h k = ((h.0, k.0), each-both asks other past h.1 k.1)

-- what the frame before any tick has, and that of each moment, the last frame has
pub at-last : (has : Frame → Type 0) → has first_frame → (moments : List Moment) → EachMoment (λ past m. has m.frame) moments
    → has (last_frame moments)
at-last has first [] h = first
at-last has first (m ∷ past) h = h.0

-- what the first moment has, and each tick gives where those before it have it, each moment of a history has
pub each-moment : (opening : Tables) (asks : List Moment → Moment → Type 0) → asks [] (first_moment opening)
    → ((past : Past) → EachMoment asks past.moments → asks past.moments (next_moment past))
    → (events : List Event) → EachMoment asks (past_of opening events).moments
each-moment opening asks first next events = over-moments opening (EachMoment asks) (first, tt) (λ past h. (next past h, h)) events

-- the same, where each event is one that the events before it allow
pub each-allowed : (opening : Tables) (allows : List Event → Event → Type 0) (asks : List Moment → Moment → Type 0)
    → asks [] (first_moment opening)
    → ((events : List Event) → EachEvent allows events → allows events Tick → EachMoment asks (past_of opening events).moments
    → asks (past_of opening events).moments (next_moment (past_of opening events)))
    → (events : List Event) → EachEvent allows events → EachMoment asks (past_of opening events).moments
each-allowed opening allows asks first next events a =
    over-events opening allows (λ t version moments. EachMoment asks moments) (first, tt)
    (λ before b allowed h. (next before b allowed h, h)) (λ before t b allowed h. h) events a
