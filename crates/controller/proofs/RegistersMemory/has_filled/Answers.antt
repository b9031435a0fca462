use Rattle.std.proofs.Common.{◌≡◌, ◌+◌, ℕ, if◌then◌else◌, false, ◌∙◌, ap}
use Rattle.sig_types.specs.declared.frame.Colour.{Colour}
use Rattle.sig_types.specs.declared.frame.Colour.TheVariants.{Green}
use Rattle.sig_types.specs.Colour.{colour_of}
use Rattle.sig_tables.specs.declared.tables.Tables.{Tables}
use Rattle.sig_tables.specs.declared.tables.PhaseTimes.{PhaseTimes}
use Rattle.sig_tables.specs.Tables.{row, clearance}
use Rattle.sig_tables.specs.Coordinating.{is_floating, has_floated}
use Rattle.sig_tables.specs.Looking.{run}
use Rattle.sig_tables.specs.Seen.{frame_seen}
use Rattle.tick_context.proofs.Running.{active_pattern-in}
use Rattle.tick_context.proofs.Seen.{green-is}
use Rattle.controller.proofs.RegistersMemory.has_filled.Goals as goal

pub returns : goal.returns
returns c = record {
  filled = λ past n k r e green.
      let x = r.context in
      let b = active_pattern-in c.args.context.now c.args.tick_state.now past n r e in
      let shown : colour_of (frame_seen past) c.args.phase ≡ Green = green-is _ green in
      let mine : c.phase-times.result.now ≡ row past.tables c.args.phase = c.phase-times.ensures.row ∙ ap (λ (t : Tables). row t c.args.phase) x.tables in
      let clear : c.from.result + c.from-2.result ≡ clearance past.tables c.args.phase =
      rw (c.from.ensures, c.from-2.ensures) (ap (λ (r : PhaseTimes). r.yellow_change + r.red_clear) mine) in
      c.filled.ensures.filled past.tables n b.plan clear
      ∙ ap (λ (green : ℕ). if is_floating past.tables then has_floated past.tables n c.args.phase green else false)
      (c.run.ensures.run past.moments k.clocks ∙ ap (λ (x : Colour). run c.args.phase x past.moments) shown);
}
