use Rattle.std.proofs.Common.{sym, ◌∙◌, ap}
use Rattle.sig_types.specs.declared.frame.Frame.{Frame}
use Rattle.sig_types.specs.Colour.{colour_of}
use Rattle.sig_tables.proofs.Below.{phase-is}
use Rattle.tick_context.proofs.Colours.{green-ends, green-stays, red-begins, red-stays, yellow-runs, clear-runs}
use Rattle.engine.proofs.Engine.colour_after.Goals as goal

pub returns-then-has : goal.returns-then-has
returns-then-has g c = record {
  after = λ past w k m.
      let h = phase-is c.args.phase c.requires.above c.requires.within in
      green-ends w c.args.phase past.tables past.moments _ (ap (λ (f : Frame). colour_of f c.args.phase) (sym k.context.frame) ∙ c.in-Green.is)
      (sym (m.ends c.args.phase h) ∙ sym c.has.ensures.has ∙ c.if-has.true);
}

pub returns-else-has : goal.returns-else-has
returns-else-has g c = record {
  after = λ past w k m.
      let h = phase-is c.args.phase c.requires.above c.requires.within in
      green-stays w c.args.phase past.tables past.moments _ (ap (λ (f : Frame). colour_of f c.args.phase) (sym k.context.frame) ∙ c.in-Green.is)
      (sym (m.ends c.args.phase h) ∙ sym c.has.ensures.has ∙ c.if-has.false);
}

pub returns-then-has-2 : goal.returns-then-has-2
returns-then-has-2 g c = record {
  after = λ past w k m.
      let h = phase-is c.args.phase c.requires.above c.requires.within in
      red-begins w c.args.phase past.tables past.moments _ (ap (λ (f : Frame). colour_of f c.args.phase) (sym k.context.frame) ∙ c.in-Red.is)
      (sym (m.begins c.args.phase h) ∙ sym c.has-in-Red.ensures.has ∙ c.if-has-2.true);
}

pub returns-else-has-2 : goal.returns-else-has-2
returns-else-has-2 g c = record {
  after = λ past w k m.
      let h = phase-is c.args.phase c.requires.above c.requires.within in
      red-stays w c.args.phase past.tables past.moments _ (ap (λ (f : Frame). colour_of f c.args.phase) (sym k.context.frame) ∙ c.in-Red.is)
      (sym (m.begins c.args.phase h) ∙ sym c.has-in-Red.ensures.has ∙ c.if-has-2.false);
}

pub returns-in-Yellow : goal.returns-in-Yellow
returns-in-Yellow g c = record {
  after = λ past w k m.
      c.runs_on.ensures.follows past k.memory k.context
      ∙ yellow-runs w c.args.phase past.tables past.moments _ (ap (λ (f : Frame). colour_of f c.args.phase) (sym k.context.frame) ∙ c.in-Yellow.is);
}

pub returns-in-Clear : goal.returns-in-Clear
returns-in-Clear g c = record {
  after = λ past w k m.
      c.runs_on-in-Clear.ensures.follows past k.memory k.context
      ∙ clear-runs w c.args.phase past.tables past.moments _ (ap (λ (f : Frame). colour_of f c.args.phase) (sym k.context.frame) ∙ c.in-Clear.is);
}
