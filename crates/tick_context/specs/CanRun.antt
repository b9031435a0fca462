-- The tables and the inputs that a cabinet accepts.
use Rattle.std.specs.Prelude.{◌≡◌, ◌≤◌, true}
use Rattle.sig_types.specs.declared.frame.Field.{Field}
use Rattle.sig_types.specs.declared.frame.Field.TheVariants.{Veh, Ped as Button, Preempt as PreemptInput}
use Rattle.sig_types.specs.Phases.{is_phase}
use Rattle.sig_tables.specs.declared.tables.Tables.{Tables}

-- tables that a cabinet can run: the correction of a cycle may add, and subtract, at least one tick
pub record CanRun (t : Tables) : Type 0 where
  pub adds : 1 ≤ t.unit.add
  pub subtracts : 1 ≤ t.unit.subtract

-- the input is that of a phase, 1 to 16, or of a preempt, 1 to 8
abbrev pub NamesPlace : Field → Type 0
NamesPlace (Veh p on) = is_phase p ≡ true
NamesPlace (Button p) = is_phase p ≡ true
NamesPlace (PreemptInput i on) = (1 ≤ i) × (i ≤ 8)
