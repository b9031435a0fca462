use Rattle.std.proofs.Common.{◌≡◌, [], sym, subst}
use Rattle.sig_tables.specs.Moves.{Moves, ring_moves}
use Rattle.sig_tables.specs.Seen.{view_seen}
use Rattle.tick_context.specs.Moves.{AreMoves}
use Rattle.engine.proofs.Running.{runs-context}
use Rattle.engine.proofs.Engine.ring_changes.Goals as goal

pub returns-then-is_resting : goal.returns-then-is_resting
returns-then-is_resting g c = record {
  changes = λ past r s t.
      let still : ring_moves (view_seen past) ≡ record { ends = []; begins = [] } =
      c.is_resting.ensures.rests (view_seen past) (c.opening-opening.ensures.opening past r.keeps) s.demand
      (c.forced-forced.ensures.forced past (runs-context _ _ past r) r.keeps.shown.green) c.if-is_resting.true in
      subst (λ (w : Moves). AreMoves c.no_changes.result w) (sym still) c.no_changes.ensures;
}

pub returns-then-is_idle : goal.returns-then-is_idle
returns-then-is_idle g c = record {
  changes = λ past r s t.
      let still : ring_moves (view_seen past) ≡ record { ends = []; begins = [] } =
      c.is_idle.ensures.idle (view_seen past) (c.opening-opening.ensures.opening past r.keeps) (c.done-done.ensures.done past r s)
      (c.forced-forced.ensures.forced past (runs-context _ _ past r) r.keeps.shown.green) c.if-is_idle.true in
      subst (λ (w : Moves). AreMoves c.no_changes-then-is_idle.result w) (sym still) c.no_changes-then-is_idle.ensures;
}

pub returns : goal.returns
returns g c = record {
  changes = λ past r s t. c.ring_changes.ensures.changes past (runs-context _ _ past r) s.demand t (record {
    opening = c.opening-opening.ensures.opening past r.keeps;
    startable = c.startable.ensures.startable past r.keeps;
    last = c.last_on.ensures.last past r.keeps.memory;
    latest = c.latest_on.ensures.latest past r.keeps.memory;
    done = c.done-done.ensures.done past r s;
    forced = c.forced-forced.ensures.forced past (runs-context _ _ past r) r.keeps.shown.green;
  });
}
