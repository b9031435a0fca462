use Rattle.std.proofs.Common.{◌≡◌, ◌+◌, drop}
use Rattle.agent.specs.Bindings.{each_gives}
use Rattle.agent.specs.Seen.{seen}
use Rattle.agent.specs.Replies.{given}
use Rattle.agent.specs.Written.{Leads}
use Rattle.agent.proofs.reply.values_into.Given as goal

abbrev pub invariant-loop-bind : goal.invariant-loop-bind
invariant-loop-bind l = record {
  count : l.index ≡ l.bind-index;
  leads : Leads l.fits l.list.items (each_gives (given l.reach (seen l.cabinet)) (l.bind-index + 1) (drop l.bind-index l.binds)) (each_gives (given l.reach (seen l.cabinet)) 1 l.binds);
}
