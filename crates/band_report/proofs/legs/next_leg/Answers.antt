use Rattle.std.proofs.Common.{[], codes}
use Rattle.serde_json.specs.View.{view}
use Rattle.scenario_read.specs.Paths.{then_named, then_item}
use Rattle.band_report.proofs.Alone.{answers-alone}
use Rattle.band_report.proofs.legs.next_leg.Goals as goal

pub returns-clause-ok : goal.returns-clause-ok
returns-clause-ok c =
    let done = c.in_ok-value.ensures.ok in (
      done.0,
      done.1,
      answers-alone c.leg_in.result 0 864000 (then_item (then_named [] (codes "travel")) c.args.place) (view c.in_ok-value.value) done.0 done.2 c.leg_in.ensures,
    )
