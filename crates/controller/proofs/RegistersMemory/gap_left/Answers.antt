use Rattle.std.proofs.Common.{◌≡◌, ◌<◌, ◌+◌, max, inr, ◌∙◌, ap, arith}
use Rattle.sig_types.specs.Phases.{is_in}
use Rattle.sig_tables.specs.declared.tables.Tables.{Tables}
use Rattle.sig_tables.specs.declared.tables.PhaseTimes.{PhaseTimes}
use Rattle.sig_tables.specs.Tables.{row, gap_time}
use Rattle.sig_tables.specs.Looking.{in_a_row}
use Rattle.controller.proofs.RegistersMemory.gap_left.Goals as goal

pub returns : goal.returns
returns c = record {
  left = λ past o k keeps x some within.
      let mine : c.phase.result.now ≡ row past.tables c.args.phase = c.phase.ensures.row ∙ ap (λ (t : Tables). row t c.args.phase) x.tables in
      let swap : max (row past.tables c.args.phase).passage 1 ≡ gap_time past.tables c.args.phase = omega arith in
      let time : c.from-gap.result ≡ gap_time past.tables c.args.phase =
      c.from-gap.ensures ∙ c.max.ensures ∙ ap (λ (r : PhaseTimes). max r.passage 1) mine ∙ swap in
      let count : c.quiet.result ≡ in_a_row (λ m. is_in m.quiet c.args.phase) past.moments = c.quiet.ensures.quiet past.moments keeps.clocks in
      let sum : c.quiet.result + k < c.from-gap.result = omega arith in
      inr (omega (arith, time, count, sum));
}
