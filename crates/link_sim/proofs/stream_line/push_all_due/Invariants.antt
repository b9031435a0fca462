use Rattle.std.proofs.Common.{◌≡◌, ◌++◌, drop}
use Rattle.sig_types.specs.Items.{texts_of}
use Rattle.link_sim.specs.Due.{due_texts}
use Rattle.link_sim.proofs.stream_line.push_all_due.Given as goal

-- what was appended so far, with the expected ones to come, is all of it
abbrev pub invariant-loop-copy : goal.invariant-loop-copy
invariant-loop-copy l =
    texts_of l.out.items ++ due_texts l.round l.round (drop l.copy-index l.late.items)
    ≡ texts_of l.fn.out.items ++ due_texts l.round l.round l.late.items
