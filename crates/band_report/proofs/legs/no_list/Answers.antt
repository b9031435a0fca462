use Rattle.std.proofs.Common.{[], codes}
use Rattle.scenario_read.specs.Paths.{then_named}
use Rattle.scenario_read.specs.Kinds.{whole}
use Rattle.band_report.proofs.Times.{no-list}
use Rattle.band_report.proofs.legs.no_list.Goals as goal

pub returns : goal.returns
returns c = λ d wrong. no-list c.refuse_member.result (whole 0 864000) (then_named [] (codes "travel")) d wrong c.refuse_member.ensures
