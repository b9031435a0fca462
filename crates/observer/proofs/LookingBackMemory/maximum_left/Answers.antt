use Rattle.std.proofs.Common.{◌≡◌, ◌≢◌, ◌<◌, ◌+◌, inl, inr, sym, ◌∙◌, ap, arith, subst}
use Rattle.sig_types.specs.Phases.{is_in}
use Rattle.sig_tables.specs.declared.tables.Tables.{Tables}
use Rattle.sig_tables.specs.declared.tables.PhaseTimes.{PhaseTimes}
use Rattle.sig_tables.specs.Tables.{row, maximum_time}
use Rattle.sig_tables.specs.Looking.{in_a_row}
use Rattle.observer.proofs.LookingBackMemory.maximum_left.Goals as goal

pub returns-then-phase-eq0 : goal.returns-then-phase-eq0
returns-then-phase-eq0 c = record {
  left = λ past o k keeps x e some within. absurd (omega (arith, some, within));
}

pub returns-then-opposed : goal.returns-then-opposed
returns-then-opposed c = record {
  left = λ past o k keeps x e some within.
      let less : in_a_row (λ m. is_in m.opposed c.args.phase) past.moments + k < maximum_time past.tables c.args.phase =
      subst (λ (t : Tables). in_a_row (λ m. is_in m.opposed c.args.phase) past.moments + k < maximum_time t c.args.phase) x.tables
      (c.maximum_left.ensures.left past.moments k (c.window.ensures past.moments keeps.frame_history) some within) in
      (λ z. absurd (omega (arith, less, z)), inr less);
}

pub returns-else-opposed : goal.returns-else-opposed
returns-else-opposed c = record {
  left = λ past o k keeps x e some within.
      let mine : c.phase.result.now ≡ row past.tables c.args.phase = c.phase.ensures.row ∙ ap (λ (t : Tables). row t c.args.phase) x.tables in
      let maximum : c.phase.result.now.maximum ≡ (row past.tables c.args.phase).maximum = ap (λ (r : PhaseTimes). r.maximum) mine in
      let some_time : maximum_time past.tables c.args.phase ≢ 0 = λ z. absurd (omega (arith, c.if-phase-eq0.false, maximum, z)) in
      (some_time, inl (sym e ∙ c.if-opposed.false));
}
