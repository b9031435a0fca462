use Rattle.std.proofs.Common.{refl}
use Rattle.std.specs.Fmt.{digits}
use Rattle.serde_json.proofs.OnLiterals.{serde_json_on_literals}
use Rattle.gen_arterial.specs.Draws.{drawn}
use Rattle.gen_arterial.proofs.smallest_generated.Goals as goal

pub returns : goal.returns
unfolding drawn serde_json_on_literals digits
returns c = refl
