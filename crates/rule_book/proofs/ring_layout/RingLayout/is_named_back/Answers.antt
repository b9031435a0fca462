use Rattle.std.proofs.Common.{◌∙◌, refl}
use Rattle.sig_tables.specs.Sides.{names}
use Rattle.sig_tables.proofs.Below.{is-within}
use Rattle.rule_book.specs.Sets.{is_neighbour}
use Rattle.rule_book.proofs.Asked.{every-those-tells}
use Rattle.rule_book.proofs.ring_layout.RingLayout.is_named_back.Goals as goal

pub returns : goal.returns
returns c = λ t reads.
    every-those-tells c.is_empty.result c.minus.result (is_neighbour t c.args.phase) (λ q. names t q c.args.phase) c.is_empty.ensures.empty
    (λ q on. c.minus.ensures.has q (is-within q on) ∙ rw (c.neighbours.ensures t reads.lists q on, c.namers_of-back.ensures t reads.lists.named q on) refl)
