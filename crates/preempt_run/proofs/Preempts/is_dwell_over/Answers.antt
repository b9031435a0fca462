use Rattle.std.proofs.Common.{◌≡◌, ◌*◌, nat_le, max, refl, sym, ◌∙◌, arith}
use Rattle.sig_tables.specs.Tables.{listed}
use Rattle.sig_tables.specs.Cells.{preempt_of}
use Rattle.sig_tables.specs.Preempts.{has_dwelt, has_lasted, dwell_set}
use Rattle.preempt_stages.proofs.Listed.{held, not-held}
use Rattle.preempt_run.proofs.Runs.{stage-lasts}
use Rattle.preempt_run.proofs.Preempts.is_dwell_over.Goals as goal

pub returns-then-holds_dwell : goal.returns-then-holds_dwell
returns-then-holds_dwell c = record {
  over = λ past stands at.
      let t = c.args.t.now in
      let i = c.args.number in
      let time : c.ticks-least.result ≡ 10 * (preempt_of t i).minimum_duration = omega (arith, c.row_of-row.ensures.row.minimum_duration) in
      let lasted : has_lasted t i past.moments ≡ nat_le c.ticks-least.result c.stage_run.result =
      rw time (stage-lasts c.args.self.now past i (10 * (preempt_of t i).minimum_duration) c.stage_run.result stands at
      (c.stage_run.ensures.run past stands)) in
      sym (rw (lasted, ← c.is_called.ensures.called past stands)
      (held c.is_called.result (has_dwelt t i past.moments) c.stage_run.result c.ticks-least.result
      (sym c.holds_dwell.ensures ∙ c.if-holds_dwell.true)));
}

pub returns : goal.returns
returns c = record {
  over = λ past stands at.
      let t = c.args.t.now in
      let i = c.args.number in
      let time : c.ticks-least.result ≡ 10 * (preempt_of t i).minimum_duration = omega (arith, c.row_of-row.ensures.row.minimum_duration) in
      let lasted : has_lasted t i past.moments ≡ nat_le c.ticks-least.result c.stage_run.result =
      rw time (stage-lasts c.args.self.now past i (10 * (preempt_of t i).minimum_duration) c.stage_run.result stands at
      (c.stage_run.ensures.run past stands)) in
      let green : c.max.result ≡ max 1 (10 * (preempt_of t i).dwell_green) = omega (arith, c.row_of-row.ensures.row.dwell_green) in
      let phases : listed c.row_of-row.result.now.dwell_phases ≡ dwell_set t i = c.row_of-row.ensures.row.dwell_phases in
      let dwelt : c.has_dwelt.result ≡ has_dwelt t i past.moments = c.has_dwelt.ensures.dwelt past i stands at ∙ rw (green, phases) refl in
      dwelt ∙ sym (rw (lasted, ← c.is_called.ensures.called past stands)
      (not-held c.is_called.result (has_dwelt t i past.moments) c.stage_run.result c.ticks-least.result
      (sym c.holds_dwell.ensures ∙ c.if-holds_dwell.false)));
}
