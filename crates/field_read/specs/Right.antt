-- The field file that was read in parts is the one that the value describes.
use Rattle.std.specs.Prelude.{◌≡◌, []}
use Rattle.serde_json.specs.Data.{Data}
use Rattle.scenario_read.specs.Fields.{held}
use Rattle.scenario_checked.specs.Inside.{scenario}
use Rattle.scenario_file.specs.Source.{Writes}
use Rattle.field_read.specs.Content.{field_content, field_of}
use Rattle.field_read.specs.Checks.{named_faults}
use Rattle.field_read.specs.declared.whole.Listed.{Listed}

-- what was read is what the value describes, and its names and values have no fault
pub record SaysNames (listed : Listed) (d : Data) : Type 0 where
  pub clean : named_faults d ≡ []
  pub said : field_content listed.field ≡ field_of d
  pub text : Writes listed.text (held scenario d)
