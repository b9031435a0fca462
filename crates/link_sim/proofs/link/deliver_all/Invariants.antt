use Rattle.std.proofs.Common.{◌≡◌, ◌+◌, get_or}
use Rattle.scenario_data.specs.Content.{scenario_content}
use Rattle.scenario_data.specs.declared.scenario.Direction.TheVariants.{Down}
use Rattle.sig_types.specs.declared.streams.Sending.{Sending}
use Rattle.link_sim.specs.Kept.{faults_in}
use Rattle.link_sim.specs.Link.{Stays, Delivers}
use Rattle.link_sim.proofs.Goes.{Goes}
use Rattle.link_sim.proofs.link.deliver_all.Given as goal

-- each cabinet so far got what reaches it, and the others are as before
abbrev pub invariant-loop-k : goal.invariant-loop-k
invariant-loop-k l =
    (l.cab ≡ l.k + 1)
    × Goes (λ j old new streams. (m : Sending) → Delivers old new l.lists (scenario_content l.s) l.round (j + 1) (get_or l.sendings j m) streams)
    (λ j old new. Stays old new (faults_in l.lists.faults) (j + 1) Down l.round) l.fn.down.items l.down.items l.all.items l.k
