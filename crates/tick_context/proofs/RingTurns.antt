-- What the rings do at a tick, turn by turn.
use Rattle.std.proofs.Common.{◌≡◌, ℕ, false, [], sym, ◌∙◌}
use Rattle.sig_types.specs.Phases.{is_in}
use Rattle.sig_types.specs.PhaseSet.{has, phases_of}
use Rattle.sig_types.specs.declared.phase_set.PhaseSet.{PhaseSet}
use Rattle.sig_types.proofs.Sets.{in-phases}
use Rattle.sig_tables.specs.Tables.{starts_up}
use Rattle.sig_tables.specs.View.{View}
use Rattle.sig_tables.specs.Moves.{ring_moves, goal_moves}
use Rattle.sig_tables.specs.Layout.{Has}
use Rattle.sig_tables.specs.Decide.{RingTurn, Rest, StartUp, Rings, Goal, moves_of}
use Rattle.ring_barrier.specs.declared.view.Changes.{Changes}
use Rattle.tick_context.specs.Moves.{AreMoves}

-- what results from each
pub rest-moves : (ring_turn : RingTurn) (v : View) (changes : Changes) → Rest ≡ ring_turn → AreMoves changes (record { ends = []; begins = [] })
    → AreMoves changes (moves_of ring_turn v)
rest-moves ring_turn v changes e none = rw (← e) none

pub up-moves : (ring_turn : RingTurn) (v : View) (changes : Changes) → StartUp ≡ ring_turn
    → ((p : ℕ) → has changes.ends p ≡ false) → Has changes.begins (starts_up v.tables)
    → AreMoves changes (moves_of ring_turn v)
up-moves ring_turn v changes e none up = rw (← e) (record { ends = λ p h. none p; begins = λ p h. up p h ∙ sym (in-phases (starts_up v.tables) p h) })

pub ring-moves : (ring_turn : RingTurn) (v : View) (changes : Changes) → Rings ≡ ring_turn
    → Has changes.ends (is_in (ring_moves v).ends) → Has changes.begins (is_in (ring_moves v).begins)
    → AreMoves changes (moves_of ring_turn v)
ring-moves ring_turn v changes e ends begins = rw (← e) (record { ends = ends; begins = begins })

pub toward-moves : (ring_turn : RingTurn) (v : View) (changes : Changes) (goal : PhaseSet) → Goal (phases_of goal) ≡ ring_turn
    → AreMoves changes (goal_moves v (phases_of goal)) → AreMoves changes (moves_of ring_turn v)
toward-moves ring_turn v changes goal e moves = rw (← e) moves
