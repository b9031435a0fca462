-- The conditions on the tables of a history under which the laws of safety hold in every mode.
use Rattle.std.specs.Prelude.{ℕ, ◌≡◌, ◌≢◌, ◌≤◌, ◌⊎◌, Bool, true, false, List}
use Rattle.sig_types.specs.Phases.{is_in}
use Rattle.sig_types.specs.declared.frame.Mode.{Mode}
use Rattle.sig_types.specs.declared.frame.Mode.TheVariants.{Start, Flash}
use Rattle.sig_tables.specs.declared.tables.Tables.{Tables}
use Rattle.sig_tables.specs.Tables.{ring_of, is_enabled, starts_up}
use Rattle.sig_tables.specs.Sides.{are_concurrent, are_of_one_side}
use Rattle.sig_tables.specs.Slots.{is_defined, pattern_order}
use Rattle.sig_tables.specs.Splits.{coordinated_phases}
use Rattle.sig_tables.specs.Past.{Event, Install}
use Rattle.sig_tables.specs.Looking.{last_frame}
use Rattle.sig_tables.specs.Decide.{past_of}
use Rattle.sig_tables.specs.Events.{EachEvent}
use Rattle.plan_facts.specs.Goals.{GoTogether, PreemptFits}
use Rattle.plan_facts.specs.Times.{TimesHold}
use Rattle.plan_facts.specs.Plan.{PlanHolds}

-- sound tables. Each enabled phase is in ring 1 or 2. Concurrent phases are in different rings, and phases of one
-- barrier group in different rings are concurrent. The start-up phases may be on together, and so may the coordinated
-- phases of each defined pattern and the phases of each preempt. Each defined pattern has a plan, and its sequence
-- lists each enabled phase. The times are long enough
pub record Sound (t : Tables) : Type 0 where
  pub ring : (p : ℕ) → is_enabled t p ≡ true → (ring_of t p ≡ 1) ⊎ (ring_of t p ≡ 2)
  pub across : (p q : ℕ) → are_concurrent t p q ≡ true → ring_of t p ≢ ring_of t q
  pub side : (s p q : ℕ) → are_of_one_side t s p ≡ true → are_of_one_side t s q ≡ true → ring_of t p ≢ ring_of t q
      → are_concurrent t p q ≡ true
  pub start : (p q : ℕ) → starts_up t p ≡ true → starts_up t q ≡ true → (p ≡ q) ⊎ (are_concurrent t p q ≡ true)
  pub coordinated : (n : ℕ) → is_defined t n ≡ true → GoTogether t (coordinated_phases t n)
  pub preempts : (i : ℕ) → 1 ≤ i → i ≤ 8 → PreemptFits t i
  pub plans : (n : ℕ) → is_defined t n ≡ true → PlanHolds t n
  pub listed : (n p : ℕ) → is_defined t n ≡ true → is_enabled t p ≡ true → is_in (pattern_order t n (ring_of t p)) p ≡ true
  pub times : TimesHold t

-- two tables have the same enabled phases, rings and concurrent phases
pub record SameLayout (old new : Tables) : Type 0 where
  pub enabled : (p : ℕ) → is_enabled new p ≡ is_enabled old p
  pub ring : (p : ℕ) → is_enabled old p ≡ true → ring_of new p ≡ ring_of old p
  pub concurrent : (p q : ℕ) → are_concurrent new p q ≡ are_concurrent old p q

-- in this mode no phase is on
abbrev pub is_dark : Mode → Bool
is_dark Start = true
is_dark Flash = true
is_dark _ = false

-- the event is allowed after these: a download puts sound tables in force, and keeps the layout unless no phase is on
abbrev pub IsLawfulAfter : Tables → List Event → Event → Type 0
IsLawfulAfter opening before (Install t) =
    Sound t × ((is_dark (last_frame (past_of opening before).moments).mode ≡ true) ⊎ SameLayout (past_of opening before).tables t)
IsLawfulAfter opening before _ = Unit {0}

-- the opening tables are sound, and each event is allowed after those before it
abbrev pub Lawful : Tables → List Event → Type 0
Lawful opening events = Sound opening × EachEvent (IsLawfulAfter opening) events
