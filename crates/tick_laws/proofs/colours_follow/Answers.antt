use Rattle.sig_tables.specs.Decide.{since_opening}
use Rattle.tick_laws.proofs.ColoursFollow.{each-follows}
use Rattle.tick_laws.proofs.colours_follow.Goals as goal

pub returns : goal.returns
returns c = λ h. each-follows h.tables (since_opening h)
