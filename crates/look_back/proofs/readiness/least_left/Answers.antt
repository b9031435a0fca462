use Rattle.sig_tables.specs.Modes.{stage_of}
use Rattle.look_back.proofs.Clearing.{left-within}
use Rattle.look_back.proofs.readiness.least_left.Goals as goal

pub returns-clause-within : goal.returns-clause-within
returns-clause-within c = rw c.lesser_green.ensures (left-within c.args.t.now (stage_of c.args.mode) c.args.time c.requires)
