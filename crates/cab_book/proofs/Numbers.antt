-- The numbers of the streams of messages lie between that of the inputs and that of the ticks.
use Rattle.std.proofs.Common.{◌≡◌, ◌≤◌, ◌<◌, ℕ, sym, arith}
use Rattle.sig_types.specs.declared.notes.Way.{Way}
use Rattle.sig_types.specs.declared.notes.Way.TheVariants.{Poll, Load, Prio}
use Rattle.sig_types.specs.declared.streams.Stream.{Stream}
use Rattle.sig_types.specs.declared.streams.Stream.TheVariants.{Inputs, Messages, Ticks}
use Rattle.sig_types.specs.Passes.{Brings, number_of, pass_of}

pub way-above : (way : Way) → 1 ≤ pass_of way
way-above Poll = omega arith
way-above Load = omega arith
way-above Prio = omega arith

pub way-within : (way : Way) → pass_of way ≤ 3
way-within Poll = omega arith
way-within Load = omega arith
way-within Prio = omega arith

pub way-low : (way : Way) → pass_of way < 4
way-low way = omega (arith, way-within way)

-- of passes 0 to 4 each brings the stream of its own number
pub number-brought : (pass : ℕ) (stream : Stream) → pass ≤ 4 → Brings pass stream → number_of stream ≡ pass
number-brought pass Inputs few brings = sym brings
number-brought pass (Messages way) few brings = sym brings
number-brought pass Ticks few brings = omega (arith, few, brings.0)
