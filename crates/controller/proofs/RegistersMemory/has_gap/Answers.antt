use Rattle.std.proofs.Common.{◌≡◌, ◌-◌, ℕ, max, nat_le, ◌∙◌, ap, arith}
use Rattle.sig_tables.specs.declared.tables.Tables.{Tables}
use Rattle.sig_tables.specs.declared.tables.PhaseTimes.{PhaseTimes}
use Rattle.sig_tables.specs.Tables.{row, gap_time}
use Rattle.sig_tables.proofs.Below.{phase-is}
use Rattle.tick_context.proofs.Seen.{gap-counted}
use Rattle.controller.proofs.RegistersMemory.has_gap.Goals as goal

pub returns : goal.returns
returns c = record {
  gap = λ past k x on quiet.
      let h = phase-is c.args.phase c.requires.above c.requires.within in
      let mine : c.phase.result.now ≡ row past.tables c.args.phase = c.phase.ensures.row ∙ ap (λ (t : Tables). row t c.args.phase) x.tables in
      let swap : max (row past.tables c.args.phase).passage 1 ≡ gap_time past.tables c.args.phase = omega arith in
      let time : c.from.result ≡ gap_time past.tables c.args.phase =
      c.from.ensures ∙ c.max.ensures ∙ ap (λ (r : PhaseTimes). max r.passage 1) mine ∙ swap in
      ap (λ (n : ℕ). nat_le (n - 1) c.quiet.result) time
      ∙ gap-counted past c.args.phase c.quiet.result h on quiet (c.quiet.ensures.quiet past.moments k.clocks);
}
