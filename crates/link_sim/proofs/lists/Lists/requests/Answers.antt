use Rattle.std.proofs.Common.{◌∙◌}
use Rattle.link_sim.specs.Sorted.{dues_in}
use Rattle.link_sim.proofs.Picked.{requests_found}
use Rattle.link_sim.proofs.lists.Lists.requests.Goals as goal

pub returns-in-Ok : goal.returns-in-Ok
returns-in-Ok c = λ are.
    let found = requests_found c.args.s.now.community.items c.args.s.now.priority.items (dues_in c.args.self.now.requests) are.requests c.args.round c.args.cab in
    c.in-Ok.ensures ∙ rw (c.new-texts.ensures.items, c.deref.ensures.value, c.of.ensures) found
