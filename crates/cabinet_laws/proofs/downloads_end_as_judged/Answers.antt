use Rattle.cabinet_laws.proofs.Judging.{load-says}
use Rattle.cabinet_laws.proofs.downloads_end_as_judged.Goals as goal

pub returns : goal.returns
returns c = load-says c.installs_what_keeps_the_rules.ensures
