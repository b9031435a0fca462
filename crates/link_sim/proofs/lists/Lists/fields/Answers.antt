use Rattle.std.proofs.Common.{◌∙◌}
use Rattle.link_sim.specs.Sorted.{dues_in}
use Rattle.link_sim.proofs.Picked.{fields_found}
use Rattle.link_sim.proofs.lists.Lists.fields.Goals as goal

pub returns-in-Ok : goal.returns-in-Ok
returns-in-Ok c = λ are.
    let found = fields_found c.args.s.now.inputs.items (dues_in c.args.self.now.inputs) are.inputs c.args.round c.args.cab in
    c.in-Ok.ensures ∙ rw (c.new-fields.ensures.items, c.deref.ensures.value, c.of.ensures) found
