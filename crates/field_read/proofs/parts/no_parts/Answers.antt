use Rattle.std.proofs.Common.{codes, refl}
use Rattle.serde_json.specs.Data.{no_items}
use Rattle.scenario_file.specs.Listing.{list_path}
use Rattle.field_read.specs.Content.{detector_of, pulse_of}
use Rattle.field_read.specs.Lists.{any_detector, any_pulse}
use Rattle.field_read.proofs.Standing.{none-told}
use Rattle.field_read.proofs.parts.no_parts.Goals as goal

pub returns : goal.returns
returns c = record {
  names = refl;
  scenario = refl;
  bank = record { items = no_items; held = refl; holds = none-told (list_path (codes "bank")) any_detector (detector_of 64) 512 c.new.result.items c.new.ensures.items };
  pulses = record { items = no_items; held = refl; holds = none-told (list_path (codes "pulses")) any_pulse (pulse_of 86400 64) 1000000 c.new-2.result.items c.new-2.ensures.items };
  respond = refl;
}
