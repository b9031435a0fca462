use Rattle.safety_laws.proofs.Refused.{conflict-refused, two_walks-refused, disabled_lit-refused, no_yellow-refused, short_yellow-refused}
use Rattle.safety_laws.proofs.Refused.{long_yellow-refused, no_clear-refused, short_clear-refused, long_clear-refused, short_green-refused, short_walk-refused}
use Rattle.safety_laws.proofs.Refused.{long_walk-refused, no_flash-refused, short_flash-refused, long_flash-refused, walk_on_red-refused}
use Rattle.safety_laws.proofs.Refused.{newest_yellow-refused}
use Rattle.safety_laws.proofs.unsafe_traces_are_refused.Goals as goal

pub returns : goal.returns
returns c = record {
  conflict = conflict-refused;
  two_walks = two_walks-refused;
  disabled_lit = disabled_lit-refused;
  no_yellow = no_yellow-refused;
  short_yellow = short_yellow-refused;
  long_yellow = long_yellow-refused;
  no_clear = no_clear-refused;
  short_clear = short_clear-refused;
  long_clear = long_clear-refused;
  short_green = short_green-refused;
  short_walk = short_walk-refused;
  long_walk = long_walk-refused;
  no_flash = no_flash-refused;
  short_flash = short_flash-refused;
  long_flash = long_flash-refused;
  walk_on_red = walk_on_red-refused;
  newest_yellow = newest_yellow-refused;
}
