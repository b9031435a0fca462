use Rattle.std.proofs.Common.{◌≡◌, ℕ, max, nat_le, ◌∙◌, ap, arith}
use Rattle.sig_types.specs.declared.frame.Colour.{Colour}
use Rattle.sig_tables.specs.declared.tables.Tables.{Tables}
use Rattle.sig_tables.specs.declared.tables.PhaseTimes.{PhaseTimes}
use Rattle.sig_tables.specs.Tables.{row, red_revert_time}
use Rattle.sig_tables.specs.Looking.{run}
use Rattle.tick_context.proofs.Seen.{startable-counted, red-is}
use Rattle.controller.proofs.RegistersMemory.is_startable.Goals as goal

pub returns : goal.returns
returns c = record {
  startable = λ past k x on red.
      let mine : c.phase.result.now ≡ row past.tables c.args.phase = c.phase.ensures.row ∙ ap (λ (t : Tables). row t c.args.phase) x.tables in
      let swap : max (row past.tables c.args.phase).red_revert 1 ≡ red_revert_time past.tables c.args.phase = omega arith in
      let revert : c.from.result ≡ red_revert_time past.tables c.args.phase =
      c.from.ensures ∙ c.max.ensures ∙ ap (λ (r : PhaseTimes). max r.red_revert 1) mine ∙ swap in
      ap (λ (n : ℕ). nat_le n c.run.result) revert
      ∙ startable-counted past c.args.phase c.run.result on red
      (c.run.ensures.run past.moments k.clocks ∙ ap (λ (x : Colour). run c.args.phase x past.moments) (red-is _ red));
}
