use Rattle.std.proofs.Common.{sym, ◌∙◌, ap}
use Rattle.sig_tables.specs.Seen.{ring_turn_seen, view_seen}
use Rattle.flash_mode.specs.RingTurns.{ring_turn_meant}
use Rattle.tick_context.proofs.RingTurns.{rest-moves, up-moves, ring-moves, toward-moves}
use Rattle.engine.proofs.Engine.moves.Goals as goal

pub returns-in-Rest : goal.returns-in-Rest
returns-in-Rest g c = record {
  moves = λ past r s.
      rest-moves (ring_turn_seen past) (view_seen past) _ (sym (ap ring_turn_meant c.in-Rest.is) ∙ r.tick_state.ring_turn) c.no_changes.ensures;
}

pub returns-in-StartUp : goal.returns-in-StartUp
returns-in-StartUp g c = record {
  moves = λ past r s.
      up-moves (ring_turn_seen past) (view_seen past) _ (sym (ap ring_turn_meant c.in-StartUp.is) ∙ r.tick_state.ring_turn) c.empty.ensures.has r.keeps.context.layout.starts_up;
}

pub returns-in-Rings : goal.returns-in-Rings
returns-in-Rings g c = record {
  moves = λ past r s.
      let m = c.ring_changes.ensures.changes past r s (sym (sym (ap ring_turn_meant c.in-Rings.is) ∙ r.tick_state.ring_turn)) in
      ring-moves (ring_turn_seen past) (view_seen past) c.ring_changes.result (sym (ap ring_turn_meant c.in-Rings.is) ∙ r.tick_state.ring_turn) m.ends m.begins;
}

pub returns-in-Goal : goal.returns-in-Goal
returns-in-Goal g c = record {
  moves = λ past r s.
      toward-moves (ring_turn_seen past) (view_seen past) c.goal_changes.result c.in-Goal.goal (sym (ap ring_turn_meant c.in-Goal.is) ∙ r.tick_state.ring_turn)
      (c.goal_changes.ensures.changes past r);
}
