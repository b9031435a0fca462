use Rattle.std.proofs.Common.{refl, ◌∙◌, ap}
use Rattle.std.specs.Prelude.{Some}
use Rattle.sig_types.specs.declared.frame.Mode.{Mode}
use Rattle.sig_types.specs.declared.frame.Mode.TheVariants.{Entry, Track, Dwell}
use Rattle.sig_types.specs.Phases.{has_some}
use Rattle.sig_tables.specs.Preempts.{has_reached, track_set, entry_set}
use Rattle.preempt_stages.proofs.Listed.{some-of}
use Rattle.look_back.proofs.frame_history.FrameHistory.stage_after.Goals as goal

pub returns-in-Entry : goal.returns-in-Entry
returns-in-Entry c = λ past inputs looks last are none.
    rw (c.in-Entry.is, ← last)
    (ap (λ (mode : Mode). Some mode) (c.after_entry.ensures
    ∙ rw (c.row_of.ensures.row.track_phases, c.row_of.ensures.row.dwell_phases) refl)
    ∙ some-of (has_reached c.args.last.now (entry_set c.args.t.now c.in-Entry.number)) (has_some (track_set c.args.t.now c.in-Entry.number))
    (Track c.in-Entry.number) (Dwell c.in-Entry.number) (Entry c.in-Entry.number))
