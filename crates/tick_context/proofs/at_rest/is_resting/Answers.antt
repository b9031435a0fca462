use Rattle.std.proofs.Common.{◌≡◌, false, refl, sym, ◌∙◌, arith}
use Rattle.sig_types.proofs.Sets.{empty-is}
use Rattle.sig_tables.specs.View.{is_open}
use Rattle.tick_context.proofs.Resting.{resting, none-forced}
use Rattle.tick_context.proofs.at_rest.is_resting.Goals as goal

pub returns-then-is_empty-clause-is : goal.returns-then-is_empty-clause-is
returns-then-is_empty-clause-is c =
    empty-is c.args.forced c.is_empty-then-is_empty.result c.is_empty-then-is_empty.ensures.empty
    ∙ rw (c.if-opening.false, c.if-opening-2.false, ← empty-is c.args.demand c.is_empty.result c.is_empty.ensures.empty, c.if-is_empty.true) refl

pub returns-then-is_empty-clause-rests : goal.returns-then-is_empty-clause-rests
returns-then-is_empty-clause-rests c = λ w o d f none.
    let one : is_open w 1 ≡ false = sym (o 1 (omega arith) (omega arith)) ∙ c.if-opening.false in
    let two : is_open w 2 ≡ false = sym (o 2 (omega arith) (omega arith)) ∙ c.if-opening-2.false in
    resting w (none-forced w c.args.forced f (c.is_empty-then-is_empty.ensures.empty.0 none)) (sym d ∙ c.is_empty.ensures.empty.0 c.if-is_empty.true) one two

pub returns-else-is_empty-clause-is : goal.returns-else-is_empty-clause-is
returns-else-is_empty-clause-is c =
    rw (c.if-opening.false, c.if-opening-2.false, ← empty-is c.args.demand c.is_empty.result c.is_empty.ensures.empty, c.if-is_empty.false) refl
