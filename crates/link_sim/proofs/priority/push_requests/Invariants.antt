use Rattle.std.proofs.Common.{◌≡◌, ◌++◌, drop}
use Rattle.sig_types.specs.Items.{texts_of}
use Rattle.link_sim.specs.Agenda.{made}
use Rattle.link_sim.specs.Made.{request_made}
use Rattle.link_sim.proofs.priority.push_requests.Given as goal

-- what was appended so far, with that of the items to come, is all of it
abbrev pub invariant-loop-due : goal.invariant-loop-due
invariant-loop-due l =
    texts_of l.out.items ++ made (request_made l.community.items) l.items (drop l.due-index l.dues)
    ≡ texts_of l.fn.out.items ++ made (request_made l.community.items) l.items l.dues
