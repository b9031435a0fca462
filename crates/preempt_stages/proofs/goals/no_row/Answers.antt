use Rattle.std.proofs.Common.{◌≡◌, ◌≤◌, ◌-◌, length, refl, arith}
use Rattle.std.proofs.lemmas.List.{get_or_past}
use Rattle.sig_tables.specs.Cells.{preempt_of, missing_preempt}
use Rattle.preempt_stages.proofs.goals.no_row.Goals as goal

pub returns : goal.returns
returns c =
    let eight : length c.args.t.now.preempts ≡ 8 = c.has_eight_preempts.ensures.eight in
    let past : length c.args.t.now.preempts ≤ c.args.number - 1 = omega (arith, eight, c.requires.past) in
    let none : preempt_of c.args.t.now c.args.number ≡ missing_preempt = get_or_past c.args.t.now.preempts (c.args.number - 1) missing_preempt past in
    record {
      row = rw none (record {
        minimum_duration = refl;
        minimum_green = refl;
        minimum_walk = refl;
        enter_pedestrian_clear = refl;
        track_green = refl;
        dwell_green = refl;
        track_phases = refl;
        dwell_phases = refl;
        exit_phases = refl;
      });
    }
