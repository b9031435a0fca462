-- What the rings see at a tick, in code and in the definitions.
use Rattle.std.specs.Prelude.{ℕ, ◌-◌, ◌≤◌, ◌≡◌, ◌&&◌, Bool, true, false, get_or, List}
use Rattle.sig_types.specs.declared.phase_set.PhaseSet.{PhaseSet}
use Rattle.sig_types.specs.Phases.{is_phase, is_in}
use Rattle.sig_tables.specs.Layout.{Has, LaidOut, Ordered, set_of}
use Rattle.sig_tables.specs.Looking.{last_on, latest_on}
use Rattle.sig_tables.specs.Sides.{are_of_one_side}
use Rattle.sig_tables.specs.View.{View as Scene, on_phase, is_open, is_startable, is_wanted, is_done, is_forced, present_side, clearance_of, greatest_clearance}
use Rattle.sig_tables.specs.Calls.{is_green}
use Rattle.sig_tables.specs.Goals.{is_cleared}
use Rattle.sig_tables.specs.Moves.{can_join}
use Rattle.ring_barrier.specs.declared.view.RingView.{RingView}
use Rattle.ring_barrier.specs.declared.view.View.{View}

-- whether each ring is open
abbrev pub Opens : List Bool → Scene → Type 0
Opens opening w = (r : ℕ) → 1 ≤ r → r ≤ 2 → get_or opening (r - 1) false ≡ is_open w r

-- each number in the list is a phase
abbrev pub ArePhases : List ℕ → Type 0
ArePhases phases = (q : ℕ) → is_in phases q ≡ true → is_phase q ≡ true

-- the layout is that of the tables, and what the rings show is that of the definitions: which phase is on in each,
-- whether it is open, and which phases may begin
pub record ShowsRings (v : RingView) (w : Scene) : Type 0 where
  pub laid : LaidOut v.layout.now w.tables
  pub on : (r : ℕ) → 1 ≤ r → r ≤ 2 → get_or v.on (r - 1) 0 ≡ on_phase w r
  pub opening : Opens v.opening w
  pub startable : Has v.startable (is_startable w)

-- everything else that decides the moves also is that of the definitions: the order of the sequence, the phases that
-- were on last, and the phases that are wanted now, after the clearance of a ring, and after that of both rings
pub record Shows (v : View) (w : Scene) : Type 0 where
  pub rings : ShowsRings v.rings w
  pub ordered : Ordered v.rings.layout.now w.tables w.sequence
  pub last : (r : ℕ) → 1 ≤ r → r ≤ 2 → get_or v.last (r - 1) 0 ≡ last_on r w.past
  pub latest : v.latest ≡ latest_on w.past
  pub demand : ArePhases w.demand
  pub wanted : Has v.wanted (is_wanted w 0)
  pub wanted_after : (r : ℕ) → 1 ≤ r → r ≤ 2 → Has (set_of v.wanted_after r) (is_wanted w (clearance_of w.tables (on_phase w r)))
  pub wanted_across : Has v.wanted_across (is_wanted w (greatest_clearance w))
  pub joining : Has v.joining (can_join w)
  pub done : Has v.done (is_done w)
  pub forced : Has v.forced (is_forced w)

-- `side` also is the set of the phases in the present barrier group
pub record Sees (v : View) (side : PhaseSet) (w : Scene) : Type 0 where
  pub shows : Shows v w
  pub of_side : Has side (are_of_one_side w.tables (present_side w))

-- phase p is Green and has been so for its minimum, so it may end on the way to a goal
abbrev pub is_leaving : Scene → ℕ → Bool
is_leaving w p = is_green w.frame p && is_cleared w.mode w.tables w.past p
