use Rattle.std.proofs.Common.{◌≡◌, refl, ◌∙◌}
use Rattle.sig_tables.specs.Tables.{listed}
use Rattle.sig_tables.specs.Splits.{coordinated_phases}
use Rattle.sig_tables.specs.Preempts.{entry_set, dwell_set, exit_set}
use Rattle.preempt_stages.proofs.Listed.{goal-has, goal-listed}
use Rattle.preempt_stages.proofs.goals.goal.Goals as goal

pub returns-in-Seek : goal.returns-in-Seek
returns-in-Seek c =
    let xs = coordinated_phases c.args.t.now c.in-Seek.field-0 in
    record {
      has = λ sought. rw c.in-Seek.is (goal-has c.args.coordinated xs xs refl (rw c.in-Seek.is at sought));
      phases = λ sought. rw c.in-Seek.is (goal-listed c.args.coordinated xs xs refl (rw c.in-Seek.is at sought));
    }

pub returns-in-Entry : goal.returns-in-Entry
returns-in-Entry c =
    let xs = entry_set c.args.t.now c.in-Entry.number in
    let e : listed c.entry_list.result.now ≡ xs =
    c.entry_list.ensures ∙ rw (c.row_of.ensures.row.track_phases, c.row_of.ensures.row.dwell_phases) refl in
    record {
      has = λ sought. rw c.in-Entry.is (goal-has c.phases_in.result (listed c.entry_list.result.now) xs e c.phases_in.ensures.has);
      phases = λ sought. rw c.in-Entry.is (goal-listed c.phases_in.result (listed c.entry_list.result.now) xs e c.phases_in.ensures.has);
    }

pub returns-in-Track : goal.returns-in-Track
returns-in-Track c =
    let xs = entry_set c.args.t.now c.in-Track.number in
    let e : listed c.entry_list-in-Track.result.now ≡ xs =
    c.entry_list-in-Track.ensures ∙ rw (c.row_of-in-Track.ensures.row.track_phases, c.row_of-in-Track.ensures.row.dwell_phases) refl in
    record {
      has = λ sought. rw c.in-Track.is
          (goal-has c.phases_in-in-Track.result (listed c.entry_list-in-Track.result.now) xs e c.phases_in-in-Track.ensures.has);
      phases = λ sought. rw c.in-Track.is
          (goal-listed c.phases_in-in-Track.result (listed c.entry_list-in-Track.result.now) xs e c.phases_in-in-Track.ensures.has);
    }

pub returns-in-Dwell : goal.returns-in-Dwell
returns-in-Dwell c =
    let xs = dwell_set c.args.t.now c.in-Dwell.number in
    let e : listed c.row_of-in-Dwell.result.now.dwell_phases ≡ xs = c.row_of-in-Dwell.ensures.row.dwell_phases in
    record {
      has = λ sought. rw c.in-Dwell.is
          (goal-has c.phases_in-in-Dwell.result (listed c.row_of-in-Dwell.result.now.dwell_phases) xs e c.phases_in-in-Dwell.ensures.has);
      phases = λ sought. rw c.in-Dwell.is
          (goal-listed c.phases_in-in-Dwell.result (listed c.row_of-in-Dwell.result.now.dwell_phases) xs e c.phases_in-in-Dwell.ensures.has);
    }

pub returns-in-Exit : goal.returns-in-Exit
returns-in-Exit c =
    let xs = exit_set c.args.t.now c.in-Exit.number in
    let e : listed c.row_of-in-Exit.result.now.exit_phases ≡ xs = c.row_of-in-Exit.ensures.row.exit_phases in
    record {
      has = λ sought. rw c.in-Exit.is
          (goal-has c.phases_in-in-Exit.result (listed c.row_of-in-Exit.result.now.exit_phases) xs e c.phases_in-in-Exit.ensures.has);
      phases = λ sought. rw c.in-Exit.is
          (goal-listed c.phases_in-in-Exit.result (listed c.row_of-in-Exit.result.now.exit_phases) xs e c.phases_in-in-Exit.ensures.has);
    }
