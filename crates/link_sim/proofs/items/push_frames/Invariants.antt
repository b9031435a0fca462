use Rattle.std.proofs.Common.{◌≡◌, ◌++◌, drop, map}
use Rattle.scenario_data.specs.Content.{frame_content}
use Rattle.sig_types.specs.Items.{texts_of}
use Rattle.link_sim.specs.Agenda.{made}
use Rattle.link_sim.specs.Made.{frame_made}
use Rattle.link_sim.proofs.items.push_frames.Given as goal

-- what was appended so far, with that of the items to come, is all of it
abbrev pub invariant-loop-due : goal.invariant-loop-due
invariant-loop-due l =
    texts_of l.out.items ++ made (frame_made l.way) (map frame_content l.frames) (drop l.due-index l.dues)
    ≡ texts_of l.fn.out.items ++ made (frame_made l.way) (map frame_content l.frames) l.dues
