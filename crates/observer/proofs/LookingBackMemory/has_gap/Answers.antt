use Rattle.std.proofs.Common.{◌≡◌, ◌≢◌, ◌≤◌, ◌<◌, ◌-◌, ◌==◌, ℕ, nat_le, inl, inr, refl, sym, ◌∙◌, ap, arith}
use Rattle.std.proofs.lemmas.Bool.{cases_Bool, leb-true, leb-false, ne_eqb, eq-eqb}
use Rattle.sig_types.specs.Phases.{is_in}
use Rattle.sig_tables.specs.declared.tables.Tables.{Tables}
use Rattle.sig_tables.specs.Tables.{gap_time}
use Rattle.sig_tables.specs.Looking.{in_a_row}
use Rattle.sig_tables.proofs.Below.{phase-is}
use Rattle.tick_context.proofs.Seen.{gap-counted}
use Rattle.observer.proofs.LookingBackMemory.has_gap.Goals as goal

none-left : (a n : ℕ) → ((a - n) == 0) ≡ nat_le a n
none-left a n = elim (cases_Bool (nat_le a n)) [
  | inl e ↦
      let k : a ≤ n = leb-true a n e in
      let z : a - n ≡ 0 = omega arith in
      eq-eqb (a - n) 0 z ∙ sym e
  | inr e ↦
      let k : n < a = leb-false a n e in
      let z : a - n ≢ 0 = λ q. absurd (omega (arith, q, k)) in
      ne_eqb (a - n) 0 z ∙ sym e
]

pub returns : goal.returns
returns c = record {
  gap = λ past k x on quiet.
      let h = phase-is c.args.phase c.requires.above c.requires.within in
      ap (λ (n : ℕ). n == 0) (c.gap_left.ensures.is past.moments (c.window.ensures past.moments k.frame_history)
      ∙ ap (λ (t : Tables). gap_time t c.args.phase - 1 - in_a_row (λ m. is_in m.quiet c.args.phase) past.moments) x.tables)
      ∙ none-left _ _
      ∙ gap-counted past c.args.phase _ h on quiet refl;
}
