use Rattle.std.proofs.Common.{inl, ℕ, List, Err, refl, sym, ap, subst}
use Rattle.band_report.specs.BandAnswer.{AsksOfBands, TellsBands, IsFirstBandFault}
use Rattle.scenario_data.specs.declared.refusal.Refusal.{Refusal}
use Rattle.station.specs.Io.{Io, io_of}
use Rattle.station.specs.Replied.{ReplyAnswer}
use Rattle.station.specs.declared.status.Status.TheVariants.{Scenario}
use Rattle.station.proofs.Refusals.{named_elsewhere, refused_first}
use Rattle.station.proofs.Due.{reply_answer, told_reply}
use Rattle.station.proofs.asking.band.Goals as goal

-- what has a text of it is asked for
asks : (bytes text : List ℕ) → TellsBands bytes text → AsksOfBands bytes
asks bytes text (d, reads, none, told) = (d, reads, none)

pub returns-in-Err-Refused-clause-answered : goal.returns-in-Err-Refused-clause-answered
returns-in-Err-Refused-clause-answered g c =
    let used : Io = io_of g.S.Source.left g.S.Source.faults g.K.Sink.written g.K.Sink.faults c.args.source.now c.whole_input.new.source c.args.sink.now c.args.sink.now in
    subst (λ (r : Refusal). ReplyAnswer TellsBands AsksOfBands IsFirstBandFault (Scenario r) used) (sym c.in-Err-Refused.refusal-is)
    (reply_answer TellsBands IsFirstBandFault AsksOfBands asks c.bytes_have_one_answer.ensures.apart (Scenario c.in-Err-Refused.refusal) used.left used.ends used.unread used.old used.new used.unwritten
    (inl (c.in-Err-Refused.ensures.refused c.in-Err-Refused.refusal (ap Err c.in-Err-Refused.field-0-is)), refl))

pub returns-in-Ok-report-clause-answered : goal.returns-in-Ok-report-clause-answered
returns-in-Ok-report-clause-answered g c =
    let bytes = c.in-Ok.input.items in
    let text = c.as_slice-in-Ok-report.result.now in
    let slice : TellsBands c.as_slice.result.now text = subst (λ (x : List ℕ). TellsBands c.as_slice.result.now x) (sym c.as_slice-in-Ok-report.ensures.value) c.in-Ok-report.ensures.told in
    reply_answer TellsBands IsFirstBandFault AsksOfBands asks c.bytes_have_one_answer.ensures.apart c.tell.result _ _ _ _ _ _
    (told_reply TellsBands IsFirstBandFault c.tell.result _ _ _ _ _ _ text
    (record {
      bytes = bytes;
      all = c.in-Ok.ensures.input;
      short = c.in-Ok.ensures.short;
      tells = subst (λ (x : List ℕ). TellsBands x text) c.as_slice.ensures.value slice;
      ended = c.in-Ok.ensures.ended;
    }) c.tell.ensures.tells)

pub returns-in-Err-Refused-report-clause-answered : goal.returns-in-Err-Refused-report-clause-answered
returns-in-Err-Refused-report-clause-answered g c =
    let refusal = c.in-Err-Refused-report.refusal in
    let fault : IsFirstBandFault c.as_slice.result.now refusal = rw c.in-Err-Refused-report.field-0-is at c.in-Err-Refused-report.ensures.refused in
    reply_answer TellsBands IsFirstBandFault AsksOfBands asks c.bytes_have_one_answer.ensures.apart (Scenario refusal) _ _ _ _ _ _ (
      refused_first IsFirstBandFault (named_elsewhere IsFirstBandFault c.limits_have_names.ensures) _ _ c.in-Ok.input.items c.as_slice.result.now refusal
          c.in-Ok.ensures.input c.as_slice.ensures.value c.in-Ok.ensures.short fault c.in-Ok.ensures.ended,
      refl,
    )
