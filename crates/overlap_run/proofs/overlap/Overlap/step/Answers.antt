use Rattle.overlap_run.proofs.overlap.Overlap.step.Goals.{in-Red, in-Green, in-Yellow, in-Clear}
use Rattle.overlap_run.proofs.overlap.Overlap.step.Goals as goal

pub returns-clause-stands : goal.returns-clause-stands
returns-clause-stands c = λ t greens s. elim c.match-self.branch [
  | in-Red w ↦ rw w.self-is (w.begin.ensures t greens s)
  | in-Green w ↦ rw w.self-is (w.hold.ensures t greens s)
  | in-Yellow w ↦ rw w.self-is (w.change.ensures t c.args.green greens s)
  | in-Clear w ↦ rw w.self-is (w.clear.ensures t c.args.green greens s)
]
