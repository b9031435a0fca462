use Rattle.std.proofs.Common.{◌≡◌, length, All}
use Rattle.master_poll.specs.Channels.{IsNew}
use Rattle.master_poll.proofs.master.new_channels.Given as goal

abbrev pub invariant-loop-place : goal.invariant-loop-place
invariant-loop-place l = record {
  count : length l.channels.items ≡ l._place;
  new : All IsNew l.channels.items;
}
