use Rattle.std.proofs.Common.{◌≡◌, ◌∙◌, ap, inl, inr, subst, Err, List, ℕ}
use Rattle.scenario_data.specs.declared.refusal.Refusal.{Refusal}
use Rattle.scenario_data.specs.declared.refusal.ReadFail.TheVariants.{Refused}
use Rattle.scenario_data.specs.Content.{scenario_content}
use Rattle.scenario_read.specs.Answers.{IsScenario, IsFirstFault}
use Rattle.scenario_checked.proofs.Ranges.{runs}
use Rattle.run_definition.specs.SessionDialogue.{IsOrderFault}
use Rattle.station.specs.Lived.{IsFirstLineFault}
use Rattle.station.proofs.Refusals.{line_elsewhere, line_refused}
use Rattle.station.proofs.living.base.Goals as goal

pub returns-in-Err-Refused-clause-refused : goal.returns-in-Err-Refused-clause-refused
returns-in-Err-Refused-clause-refused g c = λ r e.
    let same : c.in-Err-Refused.refusal ≡ r = cc in
    let fault : IsFirstFault c.deref.result.now c.in-Err-Refused.refusal = rw c.in-Err-Refused.field-0-is at c.in-Err-Refused.ensures.refused in
    line_refused IsFirstLineFault line_elsewhere _ c.in-Ok.line.items c.deref.result.now r c.in-Ok.ensures.line c.deref.ensures.value c.in-Ok.ensures.short
    (inl (subst (λ (x : Refusal). IsFirstFault c.deref.result.now x) same fault))

pub returns-in-Ok-by_rounds-clause-opened : goal.returns-in-Ok-by_rounds-clause-opened
returns-in-Ok-by_rounds-clause-opened g c = record {
  line = c.in-Ok.line.items;
  first = c.in-Ok.ensures.line;
  base = record {
    short = c.in-Ok.ensures.short;
    scenario = subst (λ (x : List ℕ). IsScenario x (scenario_content c.in-Ok-read.scenario)) c.deref.ensures.value c.in-Ok-read.ensures.scenario;
    by_rounds = c.in-Ok-by_rounds.ensures.ordered;
  };
  rest = c.in-Ok.ensures.behind;
}

pub returns-in-Ok-by_rounds-clause-runnable : goal.returns-in-Ok-by_rounds-clause-runnable
returns-in-Ok-by_rounds-clause-runnable g c = runs c.deref.result.now (scenario_content c.in-Ok-read.scenario) c.in-Ok-read.ensures.scenario

pub returns-in-Err-Refused-by_rounds-clause-refused : goal.returns-in-Err-Refused-by_rounds-clause-refused
returns-in-Err-Refused-by_rounds-clause-refused g c = λ r e.
    let same : c.in-Err-Refused-by_rounds.refusal ≡ r = cc in
    let order : IsOrderFault (scenario_content c.in-Ok-read.scenario) r =
    c.by_rounds.ensures.refused r (c.in-Err-Refused-by_rounds.is ∙ ap Err (c.in-Err-Refused-by_rounds.field-0-is ∙ ap Refused same)) in
    line_refused IsFirstLineFault line_elsewhere _ c.in-Ok.line.items c.deref.result.now r c.in-Ok.ensures.line c.deref.ensures.value c.in-Ok.ensures.short
    (inr (scenario_content c.in-Ok-read.scenario, c.in-Ok-read.ensures.scenario, order))
