use Rattle.std.proofs.Common.{◌≡◌, ◌<◌, ◌==◌, ℕ, List, true, false, inl, inr, sym, ◌∙◌, ap, subst}
use Rattle.std.proofs.lemmas.Bool.{false≢true, and_parts}
use Rattle.sig_types.specs.declared.frame.Frame.{Frame}
use Rattle.sig_types.specs.declared.frame.Mode.{Mode}
use Rattle.sig_types.specs.declared.frame.Mode.TheVariants.{Coord}
use Rattle.sig_types.specs.Colour.{same_mode}
use Rattle.sig_tables.specs.Slots.{cycle_time}
use Rattle.sig_tables.specs.Choosing.{is_in_step}
use Rattle.sig_tables.specs.Clock.{clock_now, target_in}
use Rattle.sig_tables.specs.Counters.{counter_in}
use Rattle.sig_tables.specs.TickState.{tick_state_of}
use Rattle.sig_tables.specs.Decide.{next_moment, colours_of}
use Rattle.sig_tables.specs.Seen.{mode_seen, moves_seen}
use Rattle.coord_count.specs.CountStands.{CountStands}
use Rattle.tick_context.specs.Modes.{is_coord}
use Rattle.tick_context.proofs.Running.{coord-of}
use Rattle.tick_context.proofs.Sought.{reached-from}
use Rattle.tick_context.proofs.Counted.{counters-head, counters-none, some-cycle}
use Rattle.tick_context.proofs.Steps.{coord-step, seek-step, seek-defined}
use Rattle.tick_context.proofs.Pickups.{kept-on, picked-up}
use Rattle.controller.proofs.Registers.count_after.Goals as goal

pub returns-then-is_coord : goal.returns-then-is_coord
returns-then-is_coord c = record {
  counts = λ past k r f n st.
      let coord : is_coord (mode_seen past) ≡ true = coord-of c.args.context.now c.args.tick_state.now past _ _ r c.is_coord.ensures c.if-is_coord.true in
      let reached : same_mode (next_moment past).frame.mode (Coord n) ≡ true =
      ap (λ (x : Frame). same_mode x.mode (Coord n)) (sym f) ∙ (and_parts (same_mode c.args.frame.now.mode (Coord n))
      (c.args.frame.now.version == past.version) st).0 in
      let st2 : is_in_step (next_moment past).frame past.version n ≡ true = subst (λ (x : Frame). is_in_step x past.version n ≡ true) f st in
      elim (reached-from (mode_seen past) past.tables (colours_of past (moves_seen past)) n reached) [
        | inl e ↦
            let step = coord-step past n e in
            let (before, head) = counters-head n past.version past.moments step in
            let kept = c.counted.ensures.kept _ before (subst (λ (xs : List ℕ). CountStands c.args.self.now.count xs) head (k.counts n step).stands) in
            let at : c.args.frame.now.counter ≡ (tick_state_of past).counter = ap (λ (x : Frame). x.counter) f in
            record {
              stands = kept-on c.counted.result past (next_moment past) n _ c.args.frame.now.counter before st2 at head kept;
              within = subst (λ (x : ℕ). x < cycle_time past.tables n) (sym (kept.counter ∙ at ∙ sym r.tick_state.counter)) (r.tick_state.within n e);
            }
        | inr e ↦ absurd (false≢true (sym (ap is_coord e) ∙ coord))
      ];
}

pub returns-else-is_coord : goal.returns-else-is_coord
returns-else-is_coord c = record {
  counts = λ past k r f n st.
      let coord : is_coord (mode_seen past) ≡ false = coord-of c.args.context.now c.args.tick_state.now past _ _ r c.is_coord.ensures c.if-is_coord.false in
      let reached : same_mode (next_moment past).frame.mode (Coord n) ≡ true =
      ap (λ (x : Frame). same_mode x.mode (Coord n)) (sym f) ∙ (and_parts (same_mode c.args.frame.now.mode (Coord n))
      (c.args.frame.now.version == past.version) st).0 in
      let st2 : is_in_step (next_moment past).frame past.version n ≡ true = subst (λ (x : Frame). is_in_step x past.version n ≡ true) f st in
      elim (reached-from (mode_seen past) past.tables (colours_of past (moves_seen past)) n reached) [
        | inl e ↦ absurd (false≢true (sym (sym (ap is_coord e) ∙ coord)))
        | inr e ↦
            let zero : (tick_state_of past).counter ≡ 0 =
            ap (λ (m : Mode). counter_in past.tables m (target_in past.tables m (clock_now past)) past.moments) e in
            record {
              stands = picked-up c.new.result past (next_moment past) n st2 (sym zero) (counters-none n past.version past.moments
                  (seek-step past n e)) c.new.ensures.picked_up;
              within = subst (λ (x : ℕ). x < cycle_time past.tables n) (sym c.new.ensures.picked_up.counter) (some-cycle past.tables n (seek-defined past n e));
            }
      ];
}
