use Rattle.std.proofs.Common.{◌&&◌, ◌==◌, not, refl, ◌∙◌, ap}
use Rattle.sig_types.specs.declared.frame.Colour.TheVariants.{Red}
use Rattle.sig_types.specs.Phases.{all_phases, only}
use Rattle.sig_types.specs.PhaseSet.{has}
use Rattle.sig_types.specs.Colour.{same_colour, colour_in}
use Rattle.sig_types.proofs.Sets.{first-same, listed-phase}
use Rattle.sig_tables.specs.Tables.{is_enabled, ring_of}
use Rattle.sig_tables.proofs.Below.{is-within}
use Rattle.tick_context.proofs.context.TickContext.on_in_ring.Goals as goal

pub returns : goal.returns
returns c = record {
  on = λ past veh k red.
      c.first.ensures.least
      ∙ ap only (first-same (has c.minus.result)
      (λ p. is_enabled past.tables p && ring_of past.tables p == c.args.ring && not (same_colour (colour_in veh p) Red)) all_phases
      (λ p i. let h = listed-phase p i in
      c.minus.ensures.has p (is-within p h) ∙ rw (k.layout.rings c.args.ring c.requires.above c.requires.within p h, red p h) refl));
}
