use Rattle.std.proofs.Common.{map, drop}
use Rattle.scenario_data.specs.Content.{cabinet_content}
use Rattle.runnable.specs.Runnable.{AllOpen}
use Rattle.round_run.specs.CabinetStates.{AreGivenBy}
use Rattle.round_run.proofs.Opening.{OpenedTo}
use Rattle.round_run.proofs.books.open_books.Given as goal

-- the books so far are those of the cabinets before this place
abbrev pub invariant-loop-setup : goal.invariant-loop-setup
invariant-loop-setup l = record {
  can_open : AllOpen (map cabinet_content (drop l.setup-index l.setups));
  each : OpenedTo l.community.items l.books.items l.setups l.setup-index;
  engine : AreGivenBy l.engine l.books.items;
}
