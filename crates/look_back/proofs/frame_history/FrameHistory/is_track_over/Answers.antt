use Rattle.look_back.proofs.frame_history.FrameHistory.is_track_over.Goals as goal

pub returns : goal.returns
returns c = λ past looks. c.is_track_over.ensures c.args.t.now past (c.window.ensures past looks) c.row_of.ensures.row.track_green
