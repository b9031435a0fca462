use Rattle.scenario_read.proofs.Rising.{read-sorted}
use Rattle.scenario_read.proofs.reading.read.Goals as goal

pub scenario_in-requires : goal.scenario_in-requires
scenario_in-requires c = record { sorted = read-sorted _ _ c.in-Ok.ensures.ok.1; nests = c.in-Ok.ensures.nests }
