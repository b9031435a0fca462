use Rattle.std.proofs.Common.{◌≡◌, ◌++◌, drop, map}
use Rattle.scenario_data.specs.Content.{frame_content}
use Rattle.link_sim.specs.Agenda.{listed}
use Rattle.link_sim.proofs.items.frame_dues.Given as goal

-- what is listed so far, with the rest, is the whole list
abbrev pub invariant-loop-frame : goal.invariant-loop-frame
invariant-loop-frame l =
    (l.place ≡ l.frame-index)
    × (l.dues.items ++ listed (λ f. f.round) (λ f. f.cabinet) l.place (map frame_content (drop l.frame-index l.frames)) ≡ listed (λ f. f.round) (λ f. f.cabinet) 0 (map frame_content l.frames))
