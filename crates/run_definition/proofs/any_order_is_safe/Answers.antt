use Rattle.scenario_data.specs.Opening.{opening_tables}
use Rattle.runnable.specs.Runnable.{CanOpen}
use Rattle.runnable.proofs.Numbered.{can-open}
use Rattle.run_definition.specs.Lines.{run_lines}
use Rattle.run_definition.specs.Safe.{as_far_as}
use Rattle.run_definition.proofs.Streets.{Ended, drift_in, opening-fits, run-ended}
use Rattle.run_definition.proofs.any_order_is_safe.Goals as goal

pub returns : goal.returns
returns c = λ s open_all journals are cab d is.
    let can : CanOpen d = can-open cab 1 d s.cabinets is open_all in
    let e : Ended s journals cab d = run-ended s journals cab d are is in
    record {
      end = e.end;
      own = e.own;
      come = e.come;
      safe = c.cabinet_histories_are_safe.ensures.safe e.end.cabinet_history (opening_tables d) (drift_in d) cab (run_lines s journals) e.opens can.consistent e.told;
      whole = c.cabinet_histories_are_safe.ensures.whole e.end.cabinet_history (opening_tables d) (drift_in d) cab (run_lines s journals) e.opens e.told;
      tables = λ version later counted. c.downloads_are_whole.ensures.versions e.end.cabinet_history (opening_tables d) (drift_in d) version later e.opens counted;
      judged = λ later earlier octets came. c.downloads_end_as_judged.ensures (as_far_as e.end.cabinet_history earlier) octets;
      meets = c.cabinet_histories_meet_coordination.ensures.drifting e.end.cabinet_history (opening_tables d) (drift_in d) e.opens can.consistent (opening-fits d) can.slow;
      greens = c.cabinet_histories_keep_to_plan.ensures e.end.cabinet_history (opening_tables d) (drift_in d) e.opens can.consistent;
    }
