use Rattle.std.proofs.Common.{◌⊎◌, ℕ, sym, ◌∙◌, ap, arith, subst}
use Rattle.std.proofs.lemmas.Bool.{and_parts, false≢true}
use Rattle.sig_types.specs.Colour.{on_in}
use Rattle.sig_tables.specs.Tables.{is_enabled}
use Rattle.sig_tables.specs.Calls.{is_green}
use Rattle.sig_tables.specs.Modes.{bound}
use Rattle.sig_tables.specs.Seen.{frame_seen}
use Rattle.sig_tables.proofs.Below.{phase-is}
use Rattle.tick_context.specs.Lasting.{StaysUnserved, HasNoReason}
use Rattle.engine.proofs.Engine.on_left.Goals as goal

pub returns-then-not-has : goal.returns-then-not-has
returns-then-not-has g c = record {
  left = λ past r k keeps b looks is some within.
      let h = phase-is c.args.phase (omega arith) (omega arith) in
      record {
        on = λ e. c.if-phase-eq0.false (sym is ∙ e);
        undone = λ on.
            let parts = and_parts (is_enabled past.tables (on_in (frame_seen past) r)) (is_green (frame_seen past) (on_in (frame_seen past) r)) on in
            absurd (false≢true (sym c.if-not-has.true ∙ c.has.ensures.has ∙ keeps.shown.green c.args.phase h
            ∙ ap (is_green (frame_seen past)) (sym is) ∙ parts.1));
      };
}

pub returns-else-not-has : goal.returns-else-not-has
returns-else-not-has g c = record {
  left = λ past r k keeps b looks is some within. record {
    on = λ e. c.if-phase-eq0.false (sym is ∙ e);
    undone = λ on.
        let parts = and_parts (is_enabled past.tables (on_in (frame_seen past) r)) (is_green (frame_seen past) (on_in (frame_seen past) r)) on in
        subst (λ (p : ℕ). StaysUnserved k past p ⊎ HasNoReason (bound c.args.self.now.context.frame.mode) k past p) (sym is)
        (c.stay_left.ensures.left past k keeps b looks (ap (is_green (frame_seen past)) (sym is) ∙ parts.1) some within);
  };
}
