use Rattle.std.proofs.Common.{refl}
use Rattle.run_definition.specs.Smallest.{smallest}
use Rattle.run_definition.proofs.smallest_run.Goals as goal

pub returns : goal.returns
unfolding smallest
returns c = refl
