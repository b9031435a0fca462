-- Where the scenario of a text is: it is the value of the text, or it is at the name `scenario` of an object.
use Rattle.std.specs.Prelude.{codes, unwrap_or, None}
use Rattle.serde_json.specs.Data.{Data, null}
use Rattle.serde_json.specs.Find.{get}
use Rattle.scenario_read.specs.Fields.{either}
pub use Rattle.scenario_cut.specs.declared.around.Around.{Around}
pub use Rattle.scenario_cut.specs.declared.around.Around.TheVariants.{Nothing, Object}

-- the scenario in the value of a text; null if the value isn't an object or has no scenario
abbrev pub scenario_in : Around → Data → Data
scenario_in Nothing d = d
scenario_in Object d = unwrap_or (either (get (codes "scenario") d) None) null
