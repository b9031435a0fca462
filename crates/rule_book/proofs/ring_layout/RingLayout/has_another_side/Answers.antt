use Rattle.std.proofs.Common.{◌≡◌, ◌∙◌, ◌&&◌, true, false, not, sym, refl, arith}
use Rattle.sig_types.specs.Phases.{is_phase, all_phases}
use Rattle.sig_tables.specs.Tables.{is_enabled}
use Rattle.sig_tables.specs.Sides.{are_of_one_side}
use Rattle.sig_tables.proofs.Below.{phase-is, is-within}
use Rattle.sig_tables.proofs.Near.{some-tells}
use Rattle.rule_book.proofs.Asked.{some-never}
use Rattle.rule_book.proofs.ring_layout.RingLayout.has_another_side.Goals as goal

pub returns-then-has : goal.returns-then-has
returns-then-has c = λ t reads.
    let is : is_phase c.args.phase ≡ true = phase-is c.args.phase (omega arith) (omega arith) in
    let on : is_enabled t c.args.phase ≡ true = sym (reads.lists.enabled c.args.phase is) ∙ sym c.has.ensures.has ∙ c.if-has.true in
    some-tells c.is_empty.result c.minus.result
    (λ q. is_enabled t c.args.phase && is_enabled t q && not (are_of_one_side t c.args.phase q)) c.is_empty.ensures.empty
    (λ q at. c.minus.ensures.has q (is-within q at) ∙ rw (reads.lists.enabled q at, reads.sides c.args.phase is q at, on) refl)

pub returns-else-has : goal.returns-else-has
returns-else-has c = λ t reads.
    let off : is_enabled t c.args.phase ≡ false =
    sym (reads.lists.enabled c.args.phase (phase-is c.args.phase (omega arith) (omega arith))) ∙ sym c.has.ensures.has ∙ c.if-has.false in
    c.if-has.false ∙ rw off (sym (some-never all_phases))
