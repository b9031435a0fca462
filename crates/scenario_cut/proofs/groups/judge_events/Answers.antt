use Rattle.std.proofs.Common.{refl}
use Rattle.scenario_cut.specs.Around.{scenario_in}
use Rattle.scenario_cut.specs.declared.named.Group.TheVariants.{Events}
use Rattle.scenario_cut.specs.declared.named.Search.{Search}
use Rattle.scenario_cut.proofs.groups.judge_events.Goals as goal

pub returns-in-Some : goal.returns-in-Some
returns-in-Some c = λ d reads kept.
    let search : Search = record { group = Events; extent = c.args.extent } in
    c.first_of.ensures search (scenario_in c.args.around d) refl (c.in-Some.ensures d reads kept)
