use Rattle.std.proofs.Common.{true, false, sym, ◌∙◌}
use Rattle.look_back.specs.Cuts.{lesser_of}
use Rattle.look_back.proofs.Overs.{walk-follows, flash-follows}
use Rattle.look_back.proofs.frame_history.FrameHistory.signal_runs_on.Goals as goal

pub returns-then-is_walk_over : goal.returns-then-is_walk_over
returns-then-is_walk_over c = λ past looks shown.
    c.after_walk.ensures
    ∙ rw c.pedestrian_clear_time.ensures.time
    (walk-follows true (lesser_of c.args.cut) c.args.phase c.args.t.now past
    c.args.shown c.signal-time.result c.ped_run-frames.result c.in-Walk.is (c.signal-time.ensures.time past c.args.t.now looks.latched shown)
    (c.ped_run-frames.ensures past looks.window) (sym c.is_walk_over.ensures ∙ c.if-is_walk_over.true))

pub returns-else-is_walk_over : goal.returns-else-is_walk_over
returns-else-is_walk_over c = λ past looks shown.
    walk-follows false (lesser_of c.args.cut) c.args.phase c.args.t.now past
    c.args.shown c.signal-time.result c.ped_run-frames.result c.in-Walk.is (c.signal-time.ensures.time past c.args.t.now looks.latched shown)
    (c.ped_run-frames.ensures past looks.window) (sym c.is_walk_over.ensures ∙ c.if-is_walk_over.false)

pub returns-then-is_clearance_over : goal.returns-then-is_clearance_over
returns-then-is_clearance_over c = λ past looks shown.
    flash-follows true (lesser_of c.args.cut) c.args.phase c.args.t.now past
    c.args.shown c.signal-time-in-Flash.result c.ped_run-frames-in-Flash.result c.in-Flash.is (c.signal-time-in-Flash.ensures.time past c.args.t.now looks.latched shown)
    (c.ped_run-frames-in-Flash.ensures past looks.window) (sym c.is_clearance_over.ensures ∙ c.if-is_clearance_over.true)

pub returns-else-is_clearance_over : goal.returns-else-is_clearance_over
returns-else-is_clearance_over c = λ past looks shown.
    flash-follows false (lesser_of c.args.cut) c.args.phase c.args.t.now past
    c.args.shown c.signal-time-in-Flash.result c.ped_run-frames-in-Flash.result c.in-Flash.is (c.signal-time-in-Flash.ensures.time past c.args.t.now looks.latched shown)
    (c.ped_run-frames-in-Flash.ensures past looks.window) (sym c.is_clearance_over.ensures ∙ c.if-is_clearance_over.false)
