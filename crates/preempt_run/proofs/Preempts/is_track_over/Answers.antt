use Rattle.std.proofs.Common.{◌≡◌, ◌*◌, max, sym, arith}
use Rattle.sig_types.specs.declared.frame.Mode.TheVariants.{Track}
use Rattle.sig_tables.specs.Cells.{preempt_of}
use Rattle.preempt_run.proofs.Runs.{mode-lasts}
use Rattle.preempt_run.proofs.Preempts.is_track_over.Goals as goal

pub returns : goal.returns
returns c = record {
  over = λ past stands at.
      let time : c.max.result ≡ max 1 (10 * (preempt_of c.args.t.now c.args.number).track_green) =
      omega (arith, c.row_of.ensures.row.track_green) in
      rw time
      (sym (mode-lasts c.args.self.now past (Track c.args.number) (max 1 (10 * (preempt_of c.args.t.now c.args.number).track_green))
      c.mode_run.result stands at (c.mode_run.ensures.run past stands)));
}
