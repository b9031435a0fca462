use Rattle.look_back.proofs.Counted.{counting-on, counting-none}
use Rattle.look_back.proofs.counting.Counting.step_again.Goals as goal

pub returns-in-Coord : goal.returns-in-Coord
returns-in-Coord c = λ active pressed last before ms stands few fits all.
    counting-on c.args.self c.gone_on.result c.in-Coord.field-0 c.args.ticks active pressed last before ms stands few c.requires fits all
    c.in-Coord.is c.gone_on.ensures

pub returns-in_default : goal.returns-in_default
returns-in_default c = λ active pressed last before ms stands few fits all.
    counting-none c.args.self active pressed last before ms stands all c.in_default.not-Coord
