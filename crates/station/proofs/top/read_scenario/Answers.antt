use Rattle.std.proofs.Common.{◌≡◌, subst}
use Rattle.scenario_data.specs.declared.refusal.Refusal.{Refusal}
use Rattle.scenario_data.specs.Content.{scenario_content}
use Rattle.scenario_read.specs.Answers.{IsFirstFault}
use Rattle.scenario_checked.proofs.Ranges.{runs}
use Rattle.station.proofs.Refusals.{whole_scenario, fault_elsewhere, refused_first}
use Rattle.station.proofs.top.read_scenario.Goals as goal

pub returns-in-Ok-clause-scenario : goal.returns-in-Ok-clause-scenario
returns-in-Ok-clause-scenario g c =
    whole_scenario _ c.in_ok-input.input.items c.deref.result.now
    (scenario_content c.in-Ok.scenario) c.in_ok-input.ensures.input c.deref.ensures.value c.in_ok-input.ensures.short c.in-Ok.ensures.scenario

pub returns-in-Ok-clause-runnable : goal.returns-in-Ok-clause-runnable
returns-in-Ok-clause-runnable g c = runs c.deref.result.now (scenario_content c.in-Ok.scenario) c.in-Ok.ensures.scenario

pub returns-in-Err-Refused-clause-refused : goal.returns-in-Err-Refused-clause-refused
returns-in-Err-Refused-clause-refused g c = λ r e.
    let same : c.in-Err-Refused.refusal ≡ r = cc in
    let fault : IsFirstFault c.deref.result.now c.in-Err-Refused.refusal = rw c.in-Err-Refused.field-0-is at c.in-Err-Refused.ensures.refused in
    refused_first IsFirstFault fault_elsewhere _ _ c.in_ok-input.input.items c.deref.result.now r c.in_ok-input.ensures.input c.deref.ensures.value c.in_ok-input.ensures.short
    (subst (λ (x : Refusal). IsFirstFault c.deref.result.now x) same fault) c.in_ok-input.ensures.ended
