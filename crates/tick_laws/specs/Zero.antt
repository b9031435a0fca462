-- The ticks of a pattern, and the tick of local zero: what the pattern must give, what a tick sees and gives, and which
-- conditions on the phases it keeps (FHWA Signal Timing Manual, coordination).
use Rattle.std.specs.Prelude.{ℕ, true, false, ◌≡◌, ◌≢◌, ◌⊎◌, ◌≤◌, ◌+◌, Some, List, ◌∷◌}
use Rattle.sig_types.specs.declared.frame.Colour.TheVariants.{Green, Red}
use Rattle.sig_types.specs.Phases.{is_in}
use Rattle.sig_types.specs.Colour.{colour_of}
use Rattle.sig_tables.specs.declared.tables.Tables.{Tables}
use Rattle.sig_tables.specs.Tables.{ring_of, is_enabled, red_revert_time, clearance, yellow_time}
use Rattle.sig_tables.specs.Sides.{are_of_one_side}
use Rattle.sig_tables.specs.Cells.{pattern_of}
use Rattle.sig_tables.specs.Slots.{is_coordinated, is_omitted, coordinated_phase, pattern_order, window, least_service, cycle_time}
use Rattle.sig_tables.specs.Modes.{bound}
use Rattle.tick_laws.specs.Steps.{Steps}
use Rattle.tick_laws.specs.Phases.{Other, Held, OtherStands, HeldStands}
use Rattle.sig_tables.specs.Past.{Moment}
use Rattle.sig_tables.specs.Looking.{last_frame, runs_on}
use Rattle.sig_tables.specs.Moves.{ring_moves}
use Rattle.sig_tables.specs.Decide.{colour_after}
use Rattle.sig_tables.specs.View.{View, on_phase, is_startable}

-- the pattern coordinates one phase of each ring, and the two are in one barrier group. Being in one barrier group is
-- transitive. The pattern's sequence lists each enabled phase in its ring, 1 or 2. The window has at least one tick
pub record HoldsPair (t : Tables) (n : ℕ) : Type 0 where
  pub held : (r : ℕ) → (r ≡ 1) ⊎ (r ≡ 2) → is_coordinated t n (coordinated_phase t n r) ≡ true
  pub ring : (r : ℕ) → (r ≡ 1) ⊎ (r ≡ 2) → ring_of t (coordinated_phase t n r) ≡ r
  pub alone : (q : ℕ) → is_coordinated t n q ≡ true → q ≡ coordinated_phase t n (ring_of t q)
  pub side : (q x : ℕ) → is_coordinated t n q ≡ true → is_coordinated t n x ≡ true → are_of_one_side t q x ≡ true
  pub joined : (p q r : ℕ) → are_of_one_side t p q ≡ true → are_of_one_side t q r ≡ true → are_of_one_side t p r ≡ true
  pub listed : (p r : ℕ) → is_enabled t p ≡ true → ring_of t p ≡ r → is_in (pattern_order t n r) p ≡ true
  pub rings : (p : ℕ) → is_enabled t p ≡ true → (ring_of t p ≡ 1) ⊎ (ring_of t p ≡ 2)
  pub window : 1 ≤ window t n

-- the splits serve each other phase that the pattern doesn't omit: its clearance after a force-off ends within the
-- cycle. A red revert is over once any other phase has been served and has cleared
pub record PlanServes (t : Tables) (n : ℕ) : Type 0 where
  pub other : (p : ℕ) → is_enabled t p ≡ true → is_coordinated t n p ≡ false → is_omitted t n p ≡ false → Other t n p
  pub revert : (p q : ℕ) → is_enabled t p ≡ true → is_enabled t q ≡ true → p ≢ q → red_revert_time t p ≤ least_service t q + clearance t q

-- what a tick of the pattern sees. The sequence is the pattern's. A coordinated phase that is Red has demand; no phase
-- has demand unless it is enabled, Red and not omitted. Each ring has an entry for the phase that is on in it, and two
-- such phases are in one barrier group. The phases whose clearance ends are listed, and no Green phase is among them
pub record Sees (v : View) (n : ℕ) : Type 0 where
  pub bound : bound v.mode ≡ Some n
  pub sequence : v.sequence ≡ (pattern_of v.tables n).sequence
  pub called : (q : ℕ) → is_coordinated v.tables n q ≡ true → colour_of v.frame q ≡ Red → is_in v.demand q ≡ true
  pub placed : (p : ℕ) → is_enabled v.tables p ≡ true → colour_of v.frame p ≢ Red → on_phase v (ring_of v.tables p) ≡ p
  pub named : (r : ℕ) → (r ≡ 1) ⊎ (r ≡ 2)
      → (on_phase v r ≡ 0) ⊎ ((is_enabled v.tables (on_phase v r) ≡ true) × (colour_of v.frame (on_phase v r) ≢ Red) × (ring_of v.tables (on_phase v r) ≡ r))
  pub demanded : (p : ℕ) → is_in v.demand p ≡ true → (is_enabled v.tables p ≡ true) × (colour_of v.frame p ≡ Red) × (is_omitted v.tables n p ≡ false)
  pub beside : on_phase v 1 ≢ 0 → on_phase v 2 ≢ 0 → are_of_one_side v.tables (on_phase v 1) (on_phase v 2) ≡ true
  pub ended : (p : ℕ) → is_enabled v.tables p ≡ true → colour_of v.frame p ≢ Red → runs_on p v.tables v.past (colour_of v.frame p) ≡ Red
      → is_in v.ended p ≡ true
  pub runs : (p : ℕ) → colour_of v.frame p ≡ Green → is_in v.ended p ≡ false

-- at local zero each phase that isn't coordinated is Red or its clearance ends, and each coordinated phase is Green or
-- may begin
pub record AtZero (v : View) (n : ℕ) : Type 0 where
  pub zero : v.counter ≡ 0
  pub others : (p : ℕ) → is_enabled v.tables p ≡ true → is_coordinated v.tables n p ≡ false → (colour_of v.frame p ≡ Red) ⊎ (is_in v.ended p ≡ true)
  pub held : (r : ℕ) → (r ≡ 1) ⊎ (r ≡ 2) → (colour_of v.frame (coordinated_phase v.tables n r) ≡ Green)
      ⊎ ((colour_of v.frame (coordinated_phase v.tables n r) ≡ Red) × (is_startable v (coordinated_phase v.tables n r) ≡ true))

-- between two local zeros, at counter c of the last moment, each phase that the pattern serves is in time, and one that
-- it omits is Red
pub record InTime (t : Tables) (n c : ℕ) (past : List Moment) : Type 0 where
  pub others : (p : ℕ) → is_enabled t p ≡ true → is_coordinated t n p ≡ false → is_omitted t n p ≡ false
      → OtherStands t n p c past (colour_of (last_frame past) p)
  pub held : (q : ℕ) → is_coordinated t n q ≡ true → HeldStands t n q c past (colour_of (last_frame past) q)
  pub omitted : (p : ℕ) → is_enabled t p ≡ true → is_coordinated t n p ≡ false → is_omitted t n p ≡ true → colour_of (last_frame past) p ≡ Red

-- every yellow lasts at least a tick, and no coordinated phase has its force point before the end of the window
pub record TimesServe (t : Tables) (n : ℕ) : Type 0 where
  pub yellow : (p : ℕ) → is_enabled t p ≡ true → 1 ≤ yellow_time t p
  pub held : (q : ℕ) → is_coordinated t n q ≡ true → Held t n q

-- a tick in the pattern: the counter advances from c, the tables stay the same, and each phase gets the colour that the
-- moves of the rings give it
pub record Gives (v : View) (n c : ℕ) (m : Moment) : Type 0 where
  pub frame : v.frame ≡ last_frame v.past
  pub counter : Steps (cycle_time v.tables n) (window v.tables n) c v.counter
  pub tables : m.tables ≡ v.tables
  pub colours : (p : ℕ) → is_enabled v.tables p ≡ true
      → colour_of m.frame p ≡ colour_after (ring_moves v) p v.tables v.past (colour_of (last_frame v.past) p)

-- at local zero both coordinated phases are Green, and every other phase is Red
pub record ZeroHolds (t : Tables) (n : ℕ) (m : Moment) : Type 0 where
  pub held : (q : ℕ) → is_coordinated t n q ≡ true → colour_of m.frame q ≡ Green
  pub others : (p : ℕ) → is_enabled t p ≡ true → is_coordinated t n p ≡ false → colour_of m.frame p ≡ Red

-- what holds after a tick of the pattern: each phase is in time, and at local zero only the coordinated phases are
-- Green
pub record Kept (v : View) (n : ℕ) (m : Moment) : Type 0 where
  pub in_time : InTime v.tables n v.counter (m ∷ v.past)
  pub zero : v.counter ≡ 0 → ZeroHolds v.tables n m
