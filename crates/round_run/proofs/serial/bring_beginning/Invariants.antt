use Rattle.std.proofs.Common.{ℕ, []}
use Rattle.scenario_data.specs.Content.{ScenarioContent}
use Rattle.run_definition.specs.CabinetState.{CabinetState}
use Rattle.round_run.specs.CabinetStates.{HasRun}
use Rattle.round_run.proofs.InSerial.{BroughtTo, BegunTo}
use Rattle.round_run.proofs.serial.bring_beginning.Given as goal

-- what the passes before this one bring was brought
abbrev pub invariant-loop-pass : goal.invariant-loop-pass
invariant-loop-pass l = record {
  brought : (s : ScenarioContent) (cab : ℕ) (t : CabinetState) → HasRun s cab t [] l.fn.book → BroughtTo s cab t l.pass l.book;
  begun : BegunTo l.fn.book l.book l.pass;
}
