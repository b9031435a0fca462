use Rattle.std.proofs.Common.{[], Ok, Err, sym, ap, subst}
use Rattle.serde_json.specs.View.{view}
use Rattle.scenario_read.specs.Paths.{then_named}
use Rattle.scenario_read.specs.Kinds.{Fit, fault_at}
use Rattle.scenario_read.specs.Readers.{Refuses}
use Rattle.band_report.proofs.Alone.{answers-alone}
use Rattle.band_report.proofs.parts.number_at.Goals as goal

pub returns-in-Ok-clause-ok : goal.returns-in-Ok-clause-ok
returns-in-Ok-clause-ok c =
    let done = c.in_ok-value.ensures.ok in
    let path = then_named [] c.args.name.now in
    let read = c.in-Ok.ensures.read in (
      done.0,
      done.1,
      answers-alone (Ok c.in-Ok.number) 1 c.args.most path (view c.in_ok-value.value) done.0 done.2 (ap (fault_at path) read.0, read.1),
    )

pub returns-clause-ok : goal.returns-clause-ok
returns-clause-ok c =
    let done = c.in_ok-value.ensures.ok in
    let path = then_named [] c.args.name.now in
    let fail = c.refuse_member.result in (
      done.0,
      done.1,
      answers-alone (Err fail) 1 c.args.most path (view c.in_ok-value.value) done.0 done.2
          (subst (λ (fit : Fit). Refuses fail (fault_at path fit)) (sym c.in-Err.ensures.read) c.refuse_member.ensures),
    )
