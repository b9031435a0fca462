use Rattle.std.proofs.Common.{◌≡◌, ◌<◌, ◌+◌, ◌*◌, ℕ, inl, inr, sym, ◌∙◌, ap, arith}
use Rattle.sig_types.specs.Phases.{is_in}
use Rattle.sig_tables.specs.declared.tables.Tables.{Tables}
use Rattle.sig_tables.specs.declared.tables.PhaseTimes.{PhaseTimes}
use Rattle.sig_tables.specs.Tables.{row, maximum_time}
use Rattle.sig_tables.specs.Looking.{in_a_row}
use Rattle.controller.proofs.RegistersMemory.maximum_left.Goals as goal

pub returns-then-maximum-eq0 : goal.returns-then-maximum-eq0
returns-then-maximum-eq0 c = record {
  left = λ past o k keeps x e some within. absurd (omega (arith, some, within));
}

pub returns-then-opposed : goal.returns-then-opposed
returns-then-opposed c = record {
  left = λ past o k keeps x e some within.
      let mine : c.phase.result.now ≡ row past.tables c.args.phase = c.phase.ensures.row ∙ ap (λ (t : Tables). row t c.args.phase) x.tables in
      let time : 10 * c.from-maximum.result ≡ maximum_time past.tables c.args.phase =
      ap (λ (n : ℕ). 10 * n) (c.from-maximum.ensures ∙ ap (λ (r : PhaseTimes). r.maximum) mine) in
      let count : c.pressed.result ≡ in_a_row (λ m. is_in m.opposed c.args.phase) past.moments = c.pressed.ensures.pressed past.moments keeps.clocks in
      let sum : c.pressed.result + k < 10 * c.from-maximum.result = omega arith in
      (λ z. c.if-maximum-eq0.false (time ∙ z), inr (omega (arith, time, count, sum)));
}

pub returns-else-opposed : goal.returns-else-opposed
returns-else-opposed c = record {
  left = λ past o k keeps x e some within.
      let mine : c.phase.result.now ≡ row past.tables c.args.phase = c.phase.ensures.row ∙ ap (λ (t : Tables). row t c.args.phase) x.tables in
      let time : 10 * c.from-maximum.result ≡ maximum_time past.tables c.args.phase =
      ap (λ (n : ℕ). 10 * n) (c.from-maximum.ensures ∙ ap (λ (r : PhaseTimes). r.maximum) mine) in
      (λ z. c.if-maximum-eq0.false (time ∙ z), inl (sym e ∙ c.if-opposed.false));
}
