use Rattle.std.proofs.Common.{◌≡◌, ◌-◌, ◌*◌, ℕ, nat_le, sym, ◌∙◌, ap}
use Rattle.sig_tables.specs.declared.tables.Tables.{Tables}
use Rattle.sig_tables.specs.declared.tables.PhaseTimes.{PhaseTimes}
use Rattle.sig_tables.specs.Tables.{row, maximum_time}
use Rattle.tick_context.proofs.Seen.{maximum-counted, maximum-unopposed}
use Rattle.controller.proofs.RegistersMemory.has_maximum.Goals as goal

pub returns-then-opposed : goal.returns-then-opposed
returns-then-opposed c = record {
  maximum = λ past k x o.
      let mine : c.phase.result.now ≡ row past.tables c.args.phase = c.phase.ensures.row ∙ ap (λ (t : Tables). row t c.args.phase) x.tables in
      let time : 10 * c.from-maximum.result ≡ maximum_time past.tables c.args.phase =
      ap (λ (n : ℕ). 10 * n) (c.from-maximum.ensures ∙ ap (λ (r : PhaseTimes). r.maximum) mine) in
      ap (λ (n : ℕ). nat_le (n - 1) c.pressed.result) time
      ∙ maximum-counted past c.args.phase c.pressed.result (λ e. c.if-maximum-eq0.false (time ∙ e))
      (sym o ∙ c.if-opposed.true) (c.pressed.ensures.pressed past.moments k.clocks);
}

pub returns-else-opposed : goal.returns-else-opposed
returns-else-opposed c = record {
  maximum = λ past k x o.
      let mine : c.phase.result.now ≡ row past.tables c.args.phase = c.phase.ensures.row ∙ ap (λ (t : Tables). row t c.args.phase) x.tables in
      let time : 10 * c.from-maximum.result ≡ maximum_time past.tables c.args.phase =
      ap (λ (n : ℕ). 10 * n) (c.from-maximum.ensures ∙ ap (λ (r : PhaseTimes). r.maximum) mine) in
      maximum-unopposed past c.args.phase (λ e. c.if-maximum-eq0.false (time ∙ e)) (sym o ∙ c.if-opposed.false);
}
