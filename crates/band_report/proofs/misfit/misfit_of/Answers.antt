use Rattle.std.proofs.Common.{◌∙◌, false, ap}
use Rattle.scenario_data.specs.Content.{scenario_content}
use Rattle.band_report.specs.Street.{members}
use Rattle.band_report.specs.Arcs.{misfit_read}
use Rattle.band_report.proofs.Reading.{misfit-is}
use Rattle.band_report.proofs.misfit.misfit_of.Goals as goal

pub returns-in-Ok : goal.returns-in-Ok
returns-in-Ok c =
    c.misfit_read.ensures ∙ ap (misfit_read c.args.legs) c.in-Ok.ensures
    ∙ misfit-is c.args.pattern c.args.legs false (members (scenario_content c.args.s.now).cabinets c.args.section)
