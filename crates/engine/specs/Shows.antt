-- Sets of phases by the colour that a frame shows.
use Rattle.std.specs.Prelude.{List}
use Rattle.sig_types.specs.declared.frame.Colour.{Colour}
use Rattle.sig_types.specs.declared.frame.Colour.TheVariants.{Green, Red}
use Rattle.sig_types.specs.Colour.{same_colour, colour_in}
use Rattle.sig_tables.specs.Layout.{Has}
use Rattle.engine.specs.declared.by_colour.ByColour.{ByColour}
use Rattle.tick_context.specs.Shows.{is_clearing}

-- the sets are those of these colours
pub record ShowsColours (s : ByColour) (veh : List Colour) : Type 0 where
  pub green : Has s.green (λ p. same_colour (colour_in veh p) Green)
  pub red : Has s.red (λ p. same_colour (colour_in veh p) Red)
  pub clearing : Has s.clearing (is_clearing veh)
