-- The streams of a round at a cabinet, and the passes that process their items: pass 0 the inputs from the street,
-- passes 1 to 3 the three streams of messages, and pass 4 the ticks. If the ticks are shared among several passes,
-- passes 5 to 7 process the other parts.
use Rattle.std.specs.Prelude.{ℕ, ◌≡◌, ◌≤◌}
use Rattle.sig_types.specs.declared.streams.Stream.{Stream}
use Rattle.sig_types.specs.declared.streams.Stream.TheVariants.{Inputs, Messages, Ticks}
use Rattle.sig_types.specs.declared.notes.Way.{Way}
use Rattle.sig_types.specs.declared.notes.Way.TheVariants.{Poll, Load, Prio}

-- the pass that processes the messages of this stream
abbrev pub pass_of : Way → ℕ
pass_of Poll = 1
pass_of Load = 2
pass_of Prio = 3

-- the number of a stream in a trace
abbrev pub number_of : Stream → ℕ
number_of Inputs = 0
number_of (Messages way) = pass_of way
number_of Ticks = 4

-- a pass processes items of this stream
abbrev pub Brings : ℕ → Stream → Type 0
Brings pass Inputs = pass ≡ 0
Brings pass (Messages way) = pass ≡ pass_of way
Brings pass Ticks = (4 ≤ pass) × (pass ≤ 7)
