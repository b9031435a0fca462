use Rattle.safety_laws.proofs.Refused.{short_green_on_entry-refused, short_yellow_on_entry-refused, short_walk_on_entry-refused, short_flash_on_entry-refused}
use Rattle.safety_laws.proofs.Allowed.{cut-safe, served_cut-refused}
use Rattle.safety_laws.proofs.preempts_cut_short.Goals as goal

pub returns : goal.returns
returns c = record {
  allowed = cut-safe;
  green = short_green_on_entry-refused;
  yellow = short_yellow_on_entry-refused;
  walk = short_walk_on_entry-refused;
  flash = short_flash_on_entry-refused;
  served = served_cut-refused;
}
