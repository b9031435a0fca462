use Rattle.std.proofs.Common.{◌+◌, get_or}
use Rattle.scenario_data.specs.Content.{ScenarioContent}
use Rattle.scenario_data.specs.declared.scenario.Direction.TheVariants.{Up}
use Rattle.sig_types.specs.declared.streams.Answers.{Answers}
use Rattle.link_sim.specs.Kept.{faults_in}
use Rattle.link_sim.specs.Link.{Stays, Returns}
use Rattle.link_sim.proofs.Goes.{Goes}
use Rattle.link_sim.proofs.link.bring_all_back.Given as goal

-- of each cabinet so far its replies were brought back, and the others are as before
abbrev pub invariant-loop-k : goal.invariant-loop-k
invariant-loop-k l =
    Goes (λ j old new arrived. (s : ScenarioContent) (m : Answers) → Returns old new l.lists s l.round (j + 1) (get_or l.answers j m) arrived)
    (λ j old new. Stays old new (faults_in l.lists.faults) (j + 1) Up l.round) l.fn.up.items l.up.items l.all.items l.k
