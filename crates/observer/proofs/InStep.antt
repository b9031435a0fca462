-- The counter of a frame that is coordinated in a pattern is within the cycle.
use Rattle.std.proofs.Common.{◌≡◌, ◌<◌, ◌==◌, ℕ, true, inl, inr, subst, sym, ap}
use Rattle.std.proofs.lemmas.Bool.{and_parts}
use Rattle.sig_types.specs.declared.frame.Mode.{Mode}
use Rattle.sig_types.specs.declared.frame.Mode.TheVariants.{Coord}
use Rattle.sig_types.specs.Colour.{same_mode}
use Rattle.sig_tables.specs.Slots.{cycle_time}
use Rattle.sig_tables.specs.Past.{Past}
use Rattle.sig_tables.specs.Choosing.{is_in_step}
use Rattle.sig_tables.specs.Clock.{clock_now, target_in}
use Rattle.sig_tables.specs.Counters.{counter_in}
use Rattle.sig_tables.specs.TickState.{tick_state_of}
use Rattle.sig_tables.specs.Decide.{next_moment, colours_of}
use Rattle.sig_tables.specs.Seen.{mode_seen, moves_seen}
use Rattle.tick_context.specs.declared.tick_state.TickState.{TickState}
use Rattle.tick_context.specs.TickState.{TickStateIs}
use Rattle.tick_context.proofs.Counted.{some-cycle}
use Rattle.tick_context.proofs.Sought.{reached-from}
use Rattle.tick_context.proofs.Steps.{seek-defined}

-- while coordinated in a pattern, the counter of the frame that a tick gives is within the cycle
pub next-within : (k : TickState) (past : Past) (n : ℕ) → TickStateIs k past → is_in_step (next_moment past).frame past.version n ≡ true
    → (next_moment past).frame.counter < cycle_time past.tables n
next-within k past n on step =
    let reached : same_mode (next_moment past).frame.mode (Coord n) ≡ true =
    (and_parts (same_mode (next_moment past).frame.mode (Coord n)) ((next_moment past).frame.version == past.version) step).0 in
    elim (reached-from (mode_seen past) past.tables (colours_of past (moves_seen past)) n reached) [
      | inl e ↦ subst (λ (x : ℕ). x < cycle_time past.tables n) on.counter (on.within n e)
      | inr e ↦
          let zero : (tick_state_of past).counter ≡ 0 =
          ap (λ (m : Mode). counter_in past.tables m (target_in past.tables m (clock_now past)) past.moments) e in
          subst (λ (x : ℕ). x < cycle_time past.tables n) (sym zero) (some-cycle past.tables n (seek-defined past n e))
    ]
