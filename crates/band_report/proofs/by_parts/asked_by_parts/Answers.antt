use Rattle.serde_json.specs.Data.{object}
use Rattle.band_report.proofs.Kept.{refused-first}
use Rattle.band_report.proofs.by_parts.asked_by_parts.Goals as goal

pub returns-in-Err-clause-refused : goal.returns-in-Err-clause-refused
returns-in-Err-clause-refused c =
    let found = c.in-Some.ensures in
    let ms = found.ok.0 in
    refused-first c.args.bytes.now (object ms) c.in-Err.fail (found.utf8, found.ok.1) (c.in-Err.ensures.read ms found.ok.2)
