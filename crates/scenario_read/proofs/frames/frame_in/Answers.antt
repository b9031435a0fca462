use Rattle.std.proofs.Common.{List, sym, subst}
use Rattle.serde_json.specs.View.{view}
use Rattle.scenario_data.specs.Causes.{Cause}
use Rattle.scenario_read.specs.declared.place.List.TheVariants.{Frames}
use Rattle.scenario_read.specs.declared.place.Place.TheVariants.{Listed}
use Rattle.scenario_read.specs.Table.{frame_shape}
use Rattle.scenario_read.specs.Readers.{steps_of, Refuses}
use Rattle.scenario_read.proofs.Objects.{known-object, after-one}
use Rattle.scenario_read.proofs.frames.frame_in.Goals as goal

pub returns-in-Err : goal.returns-in-Err
returns-in-Err c =
    let known = known-object (frame_shape c.args.rounds c.args.cabinets) (steps_of (Listed Frames c.args.frame)) (view c.args.object.now) c.in_ok-known_names.ensures.0 in
    subst (λ (causes : List Cause). Refuses c.in-Err.fail causes) (sym known)
    (after-one c.in-Err.fail _ _ _ c.in_ok-round.ensures.read.0 c.in-Err.ensures.read)
