use Rattle.std.proofs.Common.{◌∙◌, refl, arith}
use Rattle.sig_tables.proofs.Below.{phase-is}
use Rattle.rule_book.proofs.ring_layout.Lists.neighbours.Goals as goal

pub returns : goal.returns
returns c = λ t reads q on. c.meet.ensures.has q
    ∙ rw (reads.enabled q on, reads.named c.args.phase (phase-is c.args.phase (omega arith) (omega arith)) q on) refl
