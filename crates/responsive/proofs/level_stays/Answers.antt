use Rattle.responsive.proofs.Levels.{stays}
use Rattle.responsive.proofs.level_stays.Goals as goal

pub returns : goal.returns
returns c = stays
