use Rattle.std.proofs.Common.{◌≡◌, [], subst}
use Rattle.serde_json.specs.View.{view}
use Rattle.band_report.specs.Asked.{band_faults}
use Rattle.band_report.specs.BandAnswer.{TellsOf}
use Rattle.band_report.proofs.Kept.{street-right, street-refused, no-street}
use Rattle.band_report.proofs.told.report_by_kept.Goals as goal

pub returns-in-Err-clause-refused : goal.returns-in-Err-clause-refused
returns-in-Err-clause-refused c = no-street c.args.bytes.now c.in-Err.fail c.in-Err.ensures.none

pub returns-in-Ok-report_of-clause-told : goal.returns-in-Ok-report_of-clause-told
returns-in-Ok-report_of-clause-told c =
    let kept = c.in-Ok.ensures.kept in
    let told = c.in-Ok-report_of.ensures in
    let same : view c.in-Ok.kept ≡ kept.0 = street-right c.args.bytes.now kept.0 (view c.in-Ok.kept) kept.1 kept.2 told.0 in
    (kept.0, kept.1, subst (λ w. band_faults w ≡ []) same told.0, subst (λ w. TellsOf w c.in-Ok-report_of.text.items) same told.1)

pub returns-clause-refused : goal.returns-clause-refused
returns-clause-refused c =
    let kept = c.in-Ok.ensures.kept in
    street-refused c.args.bytes.now kept.0 (view c.in-Ok.kept) kept.1 kept.2 c.in-Err-report_of.fail c.in-Err-report_of.ensures
