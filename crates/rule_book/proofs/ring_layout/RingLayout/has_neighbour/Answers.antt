use Rattle.std.proofs.Common.{◌∙◌, sym}
use Rattle.sig_types.specs.Phases.{is_in}
use Rattle.sig_types.proofs.Sets.{in-phases}
use Rattle.rule_book.specs.RingLayout.{neighbours}
use Rattle.rule_book.specs.Sets.{is_neighbour}
use Rattle.sig_tables.proofs.Near.{some-tells}
use Rattle.rule_book.proofs.ring_layout.RingLayout.has_neighbour.Goals as goal

pub returns : goal.returns
returns c = λ t reads.
    some-tells c.is_empty.result c.neighbours.result (is_in (neighbours t c.args.phase)) c.is_empty.ensures.empty
    (λ q on. c.neighbours.ensures t reads.lists q on ∙ sym (in-phases (is_neighbour t c.args.phase) q on))
