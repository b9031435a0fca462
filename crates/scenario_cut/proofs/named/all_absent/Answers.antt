use Rattle.serde_json.specs.Data.{object, no_members}
use Rattle.scenario_cut.specs.declared.named.Known.{Known}
use Rattle.scenario_cut.proofs.Passes.{all-told}
use Rattle.scenario_cut.proofs.named.all_absent.Goals as goal

pub returns : goal.returns
returns c = λ e.
    let known : Known = record {
      cabinets = c.absent-cabinets.result;
      inputs = c.absent-inputs.result;
      loads = c.absent-loads.result;
      priority = c.absent-priority.result;
      frames = c.absent-frames.result;
      faults = c.absent-faults.result;
    } in
    all-told e (object no_members) known (c.absent-cabinets.ensures e) (c.absent-inputs.ensures e) (c.absent-loads.ensures e) (c.absent-priority.ensures e) (c.absent-frames.ensures e)
    (c.absent-faults.ensures e)
