-- The faults in a list of faults.
use Rattle.std.specs.Prelude.{List}
use Rattle.scenario_data.specs.declared.scenario.Fault.{Fault}
use Rattle.link_sim.specs.declared.fault_list.FaultList.{FaultList}

-- the faults in the order in which they are stored
abbrev pub faults_in : FaultList → List Fault
faults_in kept = kept.sorted.items
