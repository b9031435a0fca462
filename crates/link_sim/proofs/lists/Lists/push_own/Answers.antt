use Rattle.std.proofs.Common.{refl, ◌∙◌}
use Rattle.scenario_data.specs.Content.{scenario_content}
use Rattle.link_sim.specs.Sorted.{dues_in}
use Rattle.link_sim.proofs.Picked.{frames_found}
use Rattle.link_sim.proofs.lists.Lists.push_own.Goals as goal

pub returns-in-Ok : goal.returns-in-Ok
returns-in-Ok c = λ are.
    let found = frames_found c.args.way (scenario_content c.args.s.now).frames (dues_in c.args.self.now.frames) are.frames c.args.round c.args.cab in
    c.in-Ok.ensures ∙ rw (c.deref.ensures.value, c.of.ensures, found) refl
