use Rattle.std.proofs.Common.{List, [], sym, subst}
use Rattle.serde_json.specs.View.{view}
use Rattle.scenario_data.specs.Causes.{Cause}
use Rattle.scenario_read.specs.Readers.{Refuses}
use Rattle.scenario_read.proofs.Objects.{known-object}
use Rattle.scenario_read.proofs.Refusing.{refuses_more}
use Rattle.band_report.specs.Asked.{asked_shape}
use Rattle.band_report.proofs.asked.named_in.Goals as goal

pub returns-in-Err-clause-read : goal.returns-in-Err-clause-read
returns-in-Err-clause-read c =
    let known = known-object asked_shape [] (view c.args.value.now) c.in_ok-names_known.ensures.0 in
    subst (λ (causes : List Cause). Refuses c.in-Err.fail causes) (sym known)
    (refuses_more c.in-Err.fail _ _ (refuses_more c.in-Err.fail _ _ c.in-Err.ensures.read))
