-- What a tick sees of both rings, in code and in the definitions.
use Rattle.std.specs.Prelude.{ℕ, ◌≡◌, ◌≤◌, ◌-◌, get_or}
use Rattle.sig_tables.specs.Looking.{last_on, latest_on}
use Rattle.sig_tables.specs.Layout.{Has, set_of}
use Rattle.sig_tables.specs.View.{View, on_phase, is_wanted, is_startable, is_done, is_forced, clearance_of, greatest_clearance}
use Rattle.ring_barrier.specs.Shows.{Opens}
use Rattle.tick_context.specs.declared.context_rings.RingState.{RingState}
use Rattle.tick_context.specs.declared.context_rings.Wanted.{Wanted}

-- the phases that are wanted now, after the clearance of a ring, and after that of both rings
pub record Wants (s : Wanted) (w : View) : Type 0 where
  pub now : Has s.now (is_wanted w 0)
  pub after : (r : ℕ) → 1 ≤ r → r ≤ 2 → Has (set_of s.after r) (is_wanted w (clearance_of w.tables (on_phase w r)))
  pub across : Has s.across (is_wanted w (greatest_clearance w))

-- which rings are open, which phases may begin, which were on last, and which may end or are forced off
pub record RingStateIs (s : RingState) (w : View) : Type 0 where
  pub opening : Opens s.opening w
  pub startable : Has s.startable (is_startable w)
  pub last : (r : ℕ) → 1 ≤ r → r ≤ 2 → get_or s.last (r - 1) 0 ≡ last_on r w.past
  pub latest : s.latest ≡ latest_on w.past
  pub done : Has s.done (is_done w)
  pub forced : Has s.forced (is_forced w)
