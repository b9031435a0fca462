use Rattle.std.proofs.Common.{◌≡◌, ◌≤◌, ◌+◌, ◌||◌, sym, ◌∙◌, ap, arith}
use Rattle.sig_types.specs.declared.frame.Colour.{Colour}
use Rattle.sig_types.specs.declared.frame.Colour.TheVariants.{Yellow, Clear}
use Rattle.sig_types.specs.declared.frame.Frame.{Frame}
use Rattle.sig_types.specs.Colour.{same_colour, colour_of}
use Rattle.sig_tables.specs.Seen.{frame_seen}
use Rattle.tick_context.proofs.Left.{steady-lasts, yellow-lasts, clear-lasts}
use Rattle.controller.proofs.RegistersMemory.colour_left.Goals as goal

pub returns-in-Green : goal.returns-in-Green
returns-in-Green c = record {
  left = λ past k keeps x some within.
      steady-lasts k c.args.phase past.tables past.moments (colour_of (frame_seen past) c.args.phase)
      (ap (λ (x : Colour). same_colour x Yellow || same_colour x Clear)
      (ap (λ (f : Frame). colour_of f c.args.phase) (sym x.frame) ∙ c.in-Green.is));
}

pub returns-in-Red : goal.returns-in-Red
returns-in-Red c = record {
  left = λ past k keeps x some within.
      steady-lasts k c.args.phase past.tables past.moments (colour_of (frame_seen past) c.args.phase)
      (ap (λ (x : Colour). same_colour x Yellow || same_colour x Clear)
      (ap (λ (f : Frame). colour_of f c.args.phase) (sym x.frame) ∙ c.in-Red.is));
}

pub returns-in-Yellow : goal.returns-in-Yellow
returns-in-Yellow c = record {
  left = λ past k keeps x some within.
      let shown : colour_of (frame_seen past) c.args.phase ≡ Yellow = ap (λ (f : Frame). colour_of f c.args.phase) (sym x.frame) ∙ c.in-Yellow.is in
      let sum : c.run.result + k ≤ c.latched_yellow-time.result = omega arith in
      yellow-lasts k c.args.phase past.tables past.moments _ c.run.result c.latched_yellow-time.result shown
      (c.run.ensures.run past.moments keeps.clocks)
      (c.latched_yellow-time.ensures.latched past.moments past.tables keeps.clocks shown) sum;
}

pub returns-in-Clear : goal.returns-in-Clear
returns-in-Clear c = record {
  left = λ past k keeps x some within.
      let shown : colour_of (frame_seen past) c.args.phase ≡ Clear = ap (λ (f : Frame). colour_of f c.args.phase) (sym x.frame) ∙ c.in-Clear.is in
      let sum : c.run-in-Clear.result + k ≤ c.latched_clear-time.result = omega arith in
      clear-lasts k c.args.phase past.tables past.moments _ c.run-in-Clear.result c.latched_clear-time.result shown
      (c.run-in-Clear.ensures.run past.moments keeps.clocks)
      (c.latched_clear-time.ensures.latched past.moments past.tables keeps.clocks shown) sum;
}
