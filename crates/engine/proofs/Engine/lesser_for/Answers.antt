use Rattle.std.proofs.Common.{◌≡◌, Bool, true, false, if◌then◌else◌, refl, sym, ◌∙◌}
use Rattle.sig_types.specs.Phases.{is_in}
use Rattle.sig_tables.specs.Lesser.{Lesser, InFull}
use Rattle.sig_tables.specs.Goals.{goal_in, lesser_times}
use Rattle.sig_tables.specs.Modes.{stage_of}
use Rattle.sig_tables.specs.Seen.{mode_seen}
use Rattle.sig_tables.proofs.Below.{phase-is}
use Rattle.engine.proofs.Engine.lesser_for.Goals as goal

chosen : (b : Bool) (l : Lesser) → b ≡ true → InFull ≡ (if b then InFull else l)
chosen b l e = rw e refl

other : (b : Bool) (k l : Lesser) → b ≡ false → k ≡ l → k ≡ (if b then InFull else l)
other b k l e f = rw (e, f) refl

pub returns-then-has : goal.returns-then-has
returns-then-has g c = record {
  lesser = λ past r.
      chosen (is_in (goal_in past.tables (mode_seen past)) c.args.phase) _
      (sym (r.tick_state.goal c.args.phase (phase-is c.args.phase c.requires.above c.requires.within)) ∙ sym c.has.ensures.has ∙ c.if-has.true);
}

pub returns-else-has : goal.returns-else-has
returns-else-has g c = record {
  lesser = λ past r.
      other (is_in (goal_in past.tables (mode_seen past)) c.args.phase) _ (lesser_times past.tables (stage_of (mode_seen past)))
      (sym (r.tick_state.goal c.args.phase (phase-is c.args.phase c.requires.above c.requires.within)) ∙ sym c.has.ensures.has ∙ c.if-has.false) r.tick_state.lesser;
}
