use Rattle.band_report.proofs.told.report_by_parts.Goals as goal

pub returns-in-Ok-lines_of-clause-told : goal.returns-in-Ok-lines_of-clause-told
returns-in-Ok-lines_of-clause-told c =
    let asked = c.in-Ok.ensures.read in
    (asked.0, asked.1, asked.2, c.in-Ok-lines_of.ensures asked.0 asked.3)
