use Rattle.std.proofs.Common.{sym, ◌∙◌, ap}
use Rattle.sig_types.specs.declared.frame.Colour.{Colour}
use Rattle.sig_types.specs.declared.frame.Colour.TheVariants.{Red}
use Rattle.sig_types.specs.declared.frame.Frame.{Frame}
use Rattle.sig_types.specs.Colour.{same_colour, colour_of}
use Rattle.sig_types.proofs.Same.{same_colour-is}
use Rattle.sig_tables.proofs.Below.{phase-is}
use Rattle.tick_context.proofs.Seen.{clearance-red, clearance-other}
use Rattle.engine.proofs.Engine.ends_clearance.Goals as goal

pub returns-then-eq : goal.returns-then-eq
returns-then-eq g c = record {
  ends = λ past k.
      clearance-red past c.args.phase (phase-is c.args.phase c.requires.above c.requires.within)
      (ap (λ (f : Frame). same_colour (colour_of f c.args.phase) Red) (sym k.context.frame) ∙ sym (same_colour-is _ _) ∙ sym c.eq.ensures ∙ c.if-eq.true);
}

pub returns-else-eq : goal.returns-else-eq
returns-else-eq g c = record {
  ends = λ past k.
      c.eq-else-eq.ensures ∙ same_colour-is _ _ ∙ ap (λ (x : Colour). same_colour x Red) (c.runs_on.ensures.follows past k.memory k.context)
      ∙ clearance-other past c.args.phase (phase-is c.args.phase c.requires.above c.requires.within)
      (ap (λ (f : Frame). same_colour (colour_of f c.args.phase) Red) (sym k.context.frame) ∙ sym (same_colour-is _ _) ∙ sym c.eq.ensures ∙ c.if-eq.false);
}
