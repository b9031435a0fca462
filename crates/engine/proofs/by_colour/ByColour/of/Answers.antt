use Rattle.sig_tables.proofs.Below.{is-above, is-within}
use Rattle.std.proofs.Common.{refl, ◌∙◌}
use Rattle.engine.proofs.by_colour.ByColour.of.Goals as goal

pub returns : goal.returns
returns c = record {
  green = λ p h. c.showing-3.ensures.shown p (is-above p h) (is-within p h);
  red = λ p h. c.showing-4.ensures.shown p (is-above p h) (is-within p h);
  clearing = λ p h. c.union-clearing.ensures.has p
      ∙ rw (c.showing.ensures.shown p (is-above p h) (is-within p h), c.showing-2.ensures.shown p (is-above p h) (is-within p h)) refl;
}
