-- In a history that the rules admitted a green gives way to each phase that is called and may not be on with it.
use Rattle.std.proofs.Common.{◌≡◌, ℕ, true, not, ◌&&◌, ◌==◌, List, refl}
use Rattle.std.proofs.lemmas.Bool.{and_parts}
use Rattle.sig_types.specs.Phases.{is_phase, is_in}
use Rattle.sig_tables.specs.declared.tables.Tables.{Tables}
use Rattle.sig_tables.specs.Tables.{ring_of, is_enabled, order_of}
use Rattle.sig_tables.specs.Sides.{are_concurrent, are_incompatible}
use Rattle.sig_tables.specs.Past.{Event, Moment}
use Rattle.sig_tables.specs.Decide.{past_of}
use Rattle.sig_tables.proofs.Histories.{over-events}
use Rattle.rule_book.specs.Rules.{Consistent}
use Rattle.tick_laws.specs.Each.{EachMoment}
use Rattle.tick_laws.specs.Barrier.{EndsForOther}
use Rattle.tick_laws.proofs.Each.{each-weaker, each-both}
use Rattle.tick_laws.proofs.Barrier.{each-for-other}
use Rattle.rule_facts.specs.Admitted.{is_flashing, IsAdmittedAfter, Admitted}
use Rattle.rule_facts.specs.GivesWay.{GivesWay, EachGivesWay}
use Rattle.rule_facts.proofs.Facts.{accepted-consistent, sequences-serve, sound}
use Rattle.rule_facts.proofs.Admitted.{lawful}

-- the tables in force are consistent, and so are those of each moment
abbrev AllConsistent : Tables → List Moment → Type 0
AllConsistent t moments = Consistent t × EachMoment (λ past m. Consistent m.tables) moments

all-consistent : (opening : Tables) (events : List Event) → Admitted opening events
    → AllConsistent (past_of opening events).tables (past_of opening events).moments
all-consistent opening events a =
    over-events opening (IsAdmittedAfter opening) (λ t version moments. AllConsistent t moments) (a.0, (a.0, tt))
    (λ before b allowed h. (h.0, (h.0, h.1)))
    (λ before t b allowed h. (accepted-consistent t (past_of opening before).tables (is_flashing (past_of opening before)) allowed, h.1))
    events a.1

-- each enabled phase is in the first sequence of consistent tables
in-first : (t : Tables) (q : ℕ) → Consistent t → is_enabled t q ≡ true → is_in (order_of t 1 (ring_of t q)) q ≡ true
in-first t q c e = ((sequences-serve t c 1 refl refl).ring (ring_of t q) ((sound t c).ring q e)).listed q e refl

other-enabled : (t : Tables) (p q : ℕ) → are_incompatible t p q ≡ true → is_enabled t q ≡ true
other-enabled t p q h =
    (and_parts (is_enabled t p) (is_enabled t q)
    (and_parts (is_enabled t p && is_enabled t q) (not (p == q))
    (and_parts (is_enabled t p && is_enabled t q && not (p == q)) (not (are_concurrent t p q)) h).0).0).1

pub each-gives-way : (opening : Tables) (events : List Event) → Admitted opening events → EachGivesWay (past_of opening events).moments
each-gives-way opening events a =
    each-weaker (λ past m. ((p q : ℕ) → is_phase p ≡ true → EndsForOther past m p q) × Consistent m.tables)
    (λ past m. (p q : ℕ) → is_phase p ≡ true → GivesWay past m p q)
    (λ past m h p q ph free through called apart leaves.
    h.0 p q ph free through called apart (in-first m.tables q h.1 (other-enabled m.tables p q apart)) leaves)
    (past_of opening events).moments
    (each-both (λ past m. (p q : ℕ) → is_phase p ≡ true → EndsForOther past m p q) (λ past m. Consistent m.tables) (past_of opening events).moments
    (each-for-other opening events (lawful opening events a)) (all-consistent opening events a).1)
