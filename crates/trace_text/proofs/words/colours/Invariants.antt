use Rattle.std.proofs.Common.{◌≡◌, ◌++◌, map, drop}
use Rattle.trace_text.specs.Texts.{colour_letter}
use Rattle.trace_text.proofs.words.colours.Given as goal

abbrev pub invariant-loop-colour : goal.invariant-loop-colour
invariant-loop-colour l = l.out.items ++ map colour_letter (drop l.colour-index l.veh) ≡ l.initial.out.items ++ map colour_letter l.veh
