use Rattle.std.proofs.Common.{◌≡◌, ◌∙◌, inl, sym, subst}
use Rattle.scenario_data.specs.declared.refusal.Refusal.{Refusal}
use Rattle.scenario_data.specs.Content.{scenario_content}
use Rattle.scenario_read.specs.Answers.{IsFirstFault}
use Rattle.scenario_checked.proofs.Ranges.{runs}
use Rattle.station.specs.Judged.{IsHeadFault}
use Rattle.station.proofs.Refusals.{head_elsewhere, line_refused}
use Rattle.station.proofs.judging.head.Goals as goal

pub returns-in-Ok-read-clause-read : goal.returns-in-Ok-read-clause-read
returns-in-Ok-read-clause-read g c = record {
  head = record {
    line = c.in-Ok.line.items;
    first = c.in-Ok.ensures.line;
    head = record {
      bytes = c.in-Some.bytes.now;
      text = sym c.as_slice.ensures.value ∙ c.in-Some.ensures.some;
      short = c.in-Ok.ensures.short;
      scenario = c.in-Ok-read.ensures.scenario;
    };
  };
  rest = c.in-Ok.ensures.behind;
}

pub returns-in-Ok-read-clause-runnable : goal.returns-in-Ok-read-clause-runnable
returns-in-Ok-read-clause-runnable g c = runs c.in-Some.bytes.now (scenario_content c.in-Ok-read.scenario) c.in-Ok-read.ensures.scenario

pub returns-in-Err-Refused-clause-refused : goal.returns-in-Err-Refused-clause-refused
returns-in-Err-Refused-clause-refused g c = λ r e.
    let same : c.in-Err-Refused.refusal ≡ r = cc in
    let fault : IsFirstFault c.in-Some.bytes.now c.in-Err-Refused.refusal = rw c.in-Err-Refused.field-0-is at c.in-Err-Refused.ensures.refused in
    line_refused IsHeadFault head_elsewhere _ c.in-Ok.line.items c.as_slice.result.now r c.in-Ok.ensures.line c.as_slice.ensures.value c.in-Ok.ensures.short
    (inl (c.in-Some.bytes.now, c.in-Some.ensures.some, subst (λ (x : Refusal). IsFirstFault c.in-Some.bytes.now x) same fault))
