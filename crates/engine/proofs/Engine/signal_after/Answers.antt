use Rattle.std.proofs.Common.{◌≡◌, Bool, true, false, if◌then◌else◌, refl, sym, ◌∙◌, ap}
use Rattle.sig_types.specs.declared.frame.Ped.{Ped}
use Rattle.sig_types.specs.declared.frame.Ped.TheVariants.{Walk}
use Rattle.sig_types.specs.PhaseSet.{has}
use Rattle.sig_types.specs.Colour.{signal_of}
use Rattle.sig_tables.specs.Lesser.{Lesser, signal_runs_within}
use Rattle.sig_tables.specs.Seen.{frame_seen}
use Rattle.tick_context.specs.Walks.{signal_seen}
use Rattle.engine.proofs.Engine.signal_after.Goals as goal

begins : (b : Bool) (y : Ped) → b ≡ true → Walk ≡ (if b then Walk else y)
begins b y e = rw e refl

otherwise : (b : Bool) (x y z : Ped) → b ≡ false → z ≡ y → z ≡ (if b then x else y)
otherwise b x y z e f = rw (e, f) refl

pub returns-then-has : goal.returns-then-has
returns-then-has g c = record {
  after = λ past r. begins (has c.args.walks c.args.phase) (signal_seen past c.args.phase) (sym c.has.ensures.has ∙ c.if-has.true);
}

pub returns-else-has : goal.returns-else-has
returns-else-has g c = record {
  after = λ past r.
      otherwise (has c.args.walks c.args.phase) Walk (signal_seen past c.args.phase) c.signal_on.result
      (sym c.has.ensures.has ∙ c.if-has.false)
      (c.signal_on.ensures.follows past r.keeps.memory r.keeps.context
      ∙ ap (λ (l : Lesser). signal_runs_within l c.args.phase past.tables past.moments (signal_of (frame_seen past) c.args.phase))
      (c.lesser_for.ensures.lesser past r));
}
