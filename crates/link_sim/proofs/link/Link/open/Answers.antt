use Rattle.std.proofs.Common.{arith}
use Rattle.std.proofs.lemmas.Grind.{common_steps}
use Rattle.link_sim.specs.Kept.{faults_in}
use Rattle.link_sim.proofs.link.Link.open.Goals as goal

pub returns-clause-stands : goal.returns-clause-stands
returns-clause-stands c = λ place below. record {
  lists = c.in_ok-lists.ensures;
  down = λ d. c.in-Ok.ensures.unused place d (faults_in c.in_ok-lists.lists.faults) (grind (arith, below, common_steps));
  up = λ d. c.in-Ok-open_lines.ensures.unused place d (faults_in c.in_ok-lists.lists.faults) (grind (arith, below, common_steps));
}
