use Rattle.std.proofs.Common.{◌≡◌, ◌+◌, length, drop, All}
use Rattle.agent.specs.Bindings.{each_gives, after}
use Rattle.agent.specs.Downloads.{put_of, IsPut}
use Rattle.agent.proofs.downloads.puts_in.Given as goal

abbrev pub invariant-loop-bind : goal.invariant-loop-bind
invariant-loop-bind l = record {
  count : length l.puts.items ≡ l.bind-index;
  goes : after l.puts.items (each_gives put_of (l.bind-index + 3) (drop l.bind-index l.binds)) ≡ each_gives put_of 3 l.binds;
  fit : All IsPut l.puts.items;
}
