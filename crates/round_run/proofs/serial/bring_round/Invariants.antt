use Rattle.std.proofs.Common.{◌≡◌, ℕ, []}
use Rattle.scenario_data.specs.Content.{ScenarioContent}
use Rattle.run_definition.specs.CabinetState.{CabinetState}
use Rattle.cab_book.specs.Books.{ticks_by_end}
use Rattle.round_run.specs.CabinetStates.{HasRun}
use Rattle.round_run.proofs.InSerial.{BroughtTo, FinishedTo}
use Rattle.round_run.proofs.serial.bring_round.Given as goal

-- what the passes before this one bring was brought
abbrev pub invariant-loop-pass : goal.invariant-loop-pass
invariant-loop-pass l = record {
  brought : (s : ScenarioContent) (cab : ℕ) (t : CabinetState) → HasRun s cab t [] l.fn.book → BroughtTo s cab t l.pass l.book;
  finished : FinishedTo l.fn.book l.book l.pass;
  ticks : ticks_by_end l.book ≡ ticks_by_end l.fn.book;
}
