use Rattle.std.proofs.Common.{◌≡◌, ◌∙◌, ◌&&◌, ◌||◌, ◌==◌, Bool, true, false, not, sym, refl, arith}
use Rattle.sig_types.specs.Phases.{is_phase}
use Rattle.sig_tables.specs.Tables.{starts_up}
use Rattle.sig_tables.specs.Sides.{are_concurrent}
use Rattle.sig_tables.proofs.Below.{phase-is, is-above, is-within}
use Rattle.rule_book.proofs.Asked.{every-tells}
use Rattle.rule_book.proofs.ring_layout.RingLayout.starts_beside.Goals as goal

fails : (a e b : Bool) → ((a && not e) && not b) ≡ not (not a || e || b)
fails true true b = refl
fails true false true = refl
fails true false false = refl
fails false e b = refl

pub returns-then-not-has : goal.returns-then-not-has
returns-then-not-has c = λ t reads.
    let off : starts_up t c.args.phase ≡ false =
    sym (reads.starting c.args.phase (phase-is c.args.phase (omega arith) (omega arith))) ∙ sym c.has.ensures.has ∙ c.if-not-has.true in
    rw (c.if-not-has.true, off) refl

pub returns-else-not-has : goal.returns-else-not-has
returns-else-not-has c = λ t reads.
    let is : is_phase c.args.phase ≡ true = phase-is c.args.phase (omega arith) (omega arith) in
    let on : starts_up t c.args.phase ≡ true = sym (reads.starting c.args.phase is) ∙ sym c.has.ensures.has ∙ c.if-not-has.false in
    every-tells c.is_empty.result c.minus.result (λ q. not (starts_up t q) || q == c.args.phase || are_concurrent t c.args.phase q) c.is_empty.ensures.empty
    (λ q at. c.minus.ensures.has q (is-within q at)
    ∙ rw (
      c.minus-others.ensures.has q (is-within q at),
      c.with-alone.ensures.has q (is-above q at)
          (is-within q at),
      c.empty.ensures.has q,
      reads.starting q at,
      reads.concurrent c.args.phase is q at,
    )
    (fails (starts_up t q) (q == c.args.phase) (are_concurrent t c.args.phase q)))
    ∙ rw on refl
