-- Pulses that are checked one after the other, when the numbers of rounds and cabinets of the scenario are known.
use Rattle.std.specs.Prelude.{List, [], codes, Result}
use Rattle.serde_json.specs.Data.{Data, Items}
use Rattle.serde_json.specs.Events.{items_len}
use Rattle.scenario_data.specs.declared.refusal.ReadFail.{ReadFail}
use Rattle.scenario_data.specs.Causes.{Cause}
use Rattle.scenario_read.specs.Kinds.{Kind, each}
use Rattle.scenario_read.specs.Fields.{Field, field_faults, object_of}
use Rattle.scenario_read.specs.Readers.{Answers}
use Rattle.scenario_cut.specs.Judging.{Counted, TellsUpTo}
use Rattle.scenario_cut.specs.declared.judge.Extent.{Extent}
use Rattle.scenario_file.specs.Listing.{list_path}
use Rattle.field_read.specs.declared.judged.Judged.{Judged}
use Rattle.field_read.specs.Table.{pulse_shape, pulses}

-- the kind of pulses in a scenario of this extent
abbrev pub pulse_kind : Extent → Kind
pulse_kind e = object_of (pulse_shape e.rounds e.cabinets)

-- the field with the pulses in a field file
abbrev pub pulses_field : Extent → Field
pulses_field e = pulses e.rounds e.cabinets

-- the faults of pulses
abbrev pub each_pulse : Extent → Items → List Cause
each_pulse e ds = each (pulse_kind e) (list_path (codes "pulses")) 0 ds

-- the pulses were checked
pub record IsJudged (e : Extent) (judged : Judged) (ds : Items) : Type 0 where
  pub counted : Counted 1000000 judged.count (items_len ds)
  pub told : TellsUpTo 1000000 judged.refusal judged.count (each_pulse e ds) (Unit {0})

-- the answer to a value in the place of the pulses
abbrev pub IsListAnswer : Extent → Result (Unit {0}) ReadFail → Data → Type 0
IsListAnswer e answer d = Answers answer ((pulses_field e).kind (list_path (codes "pulses")) d) (λ _. Unit {0})

-- the answer to the pulses of a file
abbrev pub IsAnswer : Extent → Result (Unit {0}) ReadFail → Data → Type 0
IsAnswer e answer d = Answers answer (field_faults [] d (pulses_field e)) (λ _. Unit {0})
