use Rattle.std.proofs.Common.{Err, ap}
use Rattle.station.specs.declared.status.Status.TheVariants.{Done, NotATrace}
use Rattle.station.proofs.CheckDue.{too_long_text, trace_read, check-due}
use Rattle.station.proofs.checking.check_input.Goals as goal

pub returns-in-Err-TooLong-clause-checked : goal.returns-in-Err-TooLong-clause-checked
returns-in-Err-TooLong-clause-checked g c =
    too_long_text _ _ (c.in-Err-TooLong.ensures.long (ap Err c.in-Err-TooLong.field-0-is)) (c.in-Err-TooLong.ensures.stopped (ap Err c.in-Err-TooLong.field-0-is))

pub returns-in-Err-TooLong-clause-due : goal.returns-in-Err-TooLong-clause-due
returns-in-Err-TooLong-clause-due g c = λ sound.
    check-due c.traces_have_no_fault.ensures c.faults_are_determined.ensures (NotATrace (record { line = 0; rule = 1 })) _ _ _
    (too_long_text _ _ (c.in-Err-TooLong.ensures.long (ap Err c.in-Err-TooLong.field-0-is))
    (c.in-Err-TooLong.ensures.stopped (ap Err c.in-Err-TooLong.field-0-is))) sound

pub returns-in-Ok-check-clause-due : goal.returns-in-Ok-check-clause-due
returns-in-Ok-check-clause-due g c = λ sound.
    check-due c.traces_have_no_fault.ensures c.faults_are_determined.ensures Done _ _ _
    (trace_read _ _ c.in-Ok.text.items c.as_slice.result.now c.in-Ok.ensures.whole c.as_slice.ensures.value c.in-Ok-check.ensures.tells.1
    c.in-Ok-check.ensures.kept (c.bands_are_green.ensures.bands c.as_slice.result.now c.in-Ok-check.ensures.kept) c.in-Ok.ensures.ended) sound

pub returns-in-Ok-check-clause-checked : goal.returns-in-Ok-check-clause-checked
returns-in-Ok-check-clause-checked g c =
    trace_read _ _ c.in-Ok.text.items c.as_slice.result.now c.in-Ok.ensures.whole c.as_slice.ensures.value c.in-Ok-check.ensures.tells.1
    c.in-Ok-check.ensures.kept (c.bands_are_green.ensures.bands c.as_slice.result.now c.in-Ok-check.ensures.kept) c.in-Ok.ensures.ended
