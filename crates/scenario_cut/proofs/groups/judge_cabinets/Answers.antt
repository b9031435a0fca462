use Rattle.std.proofs.Common.{refl}
use Rattle.scenario_cut.specs.Around.{scenario_in}
use Rattle.scenario_cut.specs.declared.judge.Listing.TheVariants.{Cabinets}
use Rattle.scenario_cut.proofs.groups.judge_cabinets.Goals as goal

pub returns-in-Some : goal.returns-in-Some
returns-in-Some c = λ d reads kept. c.answer_of.ensures Cabinets c.args.extent (scenario_in c.args.around d) (c.in-Some.ensures d reads kept Cabinets refl)
