use Rattle.std.proofs.Common.{◌≡◌, ◌+◌, length, get_or}
use Rattle.sig_types.specs.declared.frame.Colour.TheVariants.{Green}
use Rattle.sig_types.proofs.InTurn.{InTurn}
use Rattle.look_back.specs.Latched.{ColourSteps}
use Rattle.look_back.proofs.latched.step_colours.Given as goal

abbrev pub invariant-loop-p : goal.invariant-loop-p
invariant-loop-p l = record {
  count : length l.cells ≡ 16;
  each : InTurn (λ k old new. ColourSteps old new (get_or l.before k Green) (get_or l.shown k Green) (k + 1) l.t) 0 l.fn.cells l.cells l.p;
}
