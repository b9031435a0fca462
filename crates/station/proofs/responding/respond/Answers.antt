use Rattle.std.proofs.Common.{inl, ℕ, List, Err, refl, sym, ap, subst}
use Rattle.field_file.specs.FieldAnswer.{HasResult, TellsResult, IsFirstResultFault}
use Rattle.scenario_data.specs.declared.refusal.Refusal.{Refusal}
use Rattle.station.specs.Io.{Io, io_of}
use Rattle.station.specs.Replied.{ReplyAnswer}
use Rattle.station.specs.declared.status.Status.TheVariants.{Scenario}
use Rattle.station.proofs.Refusals.{named_elsewhere, refused_first}
use Rattle.station.proofs.Due.{reply_answer, told_reply}
use Rattle.station.proofs.responding.respond.Goals as goal

-- what has a text of it is asked for
asks : (bytes text : List ℕ) → TellsResult bytes text → HasResult bytes
asks bytes text (d, reads, none, told) = (d, reads, none)

pub returns-in-Err-Refused-clause-answered : goal.returns-in-Err-Refused-clause-answered
returns-in-Err-Refused-clause-answered g c =
    let used : Io = io_of g.S.Source.left g.S.Source.faults g.K.Sink.written g.K.Sink.faults c.args.source.now c.whole_input.new.source c.args.sink.now c.args.sink.now in
    subst (λ (r : Refusal). ReplyAnswer TellsResult HasResult IsFirstResultFault (Scenario r) used) (sym c.in-Err-Refused.refusal-is)
    (reply_answer TellsResult IsFirstResultFault HasResult asks c.bytes_have_one_answer.ensures.apart (Scenario c.in-Err-Refused.refusal) used.left used.ends used.unread used.old used.new used.unwritten
    (inl (c.in-Err-Refused.ensures.refused c.in-Err-Refused.refusal (ap Err c.in-Err-Refused.field-0-is)), refl))

pub returns-in-Ok-respond-clause-answered : goal.returns-in-Ok-respond-clause-answered
returns-in-Ok-respond-clause-answered g c =
    let bytes = c.in-Ok.input.items in
    let text = c.as_slice-in-Ok-respond.result.now in
    let slice : TellsResult c.as_slice.result.now text = subst (λ (x : List ℕ). TellsResult c.as_slice.result.now x) (sym c.as_slice-in-Ok-respond.ensures.value) c.in-Ok-respond.ensures.told in
    reply_answer TellsResult IsFirstResultFault HasResult asks c.bytes_have_one_answer.ensures.apart c.tell.result _ _ _ _ _ _
    (told_reply TellsResult IsFirstResultFault c.tell.result _ _ _ _ _ _ text
    (record {
      bytes = bytes;
      all = c.in-Ok.ensures.input;
      short = c.in-Ok.ensures.short;
      tells = subst (λ (x : List ℕ). TellsResult x text) c.as_slice.ensures.value slice;
      ended = c.in-Ok.ensures.ended;
    }) c.tell.ensures.tells)

pub returns-in-Err-Refused-respond-clause-answered : goal.returns-in-Err-Refused-respond-clause-answered
returns-in-Err-Refused-respond-clause-answered g c =
    let refusal = c.in-Err-Refused-respond.refusal in
    let fault : IsFirstResultFault c.as_slice.result.now refusal = rw c.in-Err-Refused-respond.field-0-is at c.in-Err-Refused-respond.ensures.refused in
    reply_answer TellsResult IsFirstResultFault HasResult asks c.bytes_have_one_answer.ensures.apart (Scenario refusal) _ _ _ _ _ _ (
      refused_first IsFirstResultFault (named_elsewhere IsFirstResultFault c.limits_have_names.ensures) _ _ c.in-Ok.input.items c.as_slice.result.now refusal
          c.in-Ok.ensures.input c.as_slice.ensures.value c.in-Ok.ensures.short fault c.in-Ok.ensures.ended,
      refl,
    )
