-- Values that are read as trees: what is stored of a value, and the members of an object, of which some were skipped.
use Rattle.std.specs.Prelude.{ℕ, List, ◌≡◌, ◌||◌, Bool, false, is_some, None}
use Rattle.serde_json.specs.Data.{Data, null, boolean, number, string, array, object, Members, no_members, member}
use Rattle.serde_json.specs.Find.{as_null}
use Rattle.serde_json.specs.View.{view}
use Rattle.scenario_file.specs.declared.trees.Kept.{Kept}
use Rattle.scenario_file.specs.declared.trees.Kept.TheVariants.{Whole, Passed}

-- this is stored of a value: the value, which isn't null, or nothing
abbrev pub KeptOf : Data → Kept → Type 0
KeptOf d Passed = Unit {0}
KeptOf d (Whole v) = (view v ≡ d) × (as_null d ≡ None)

-- what represents a value among the members, by what is stored of it
abbrev pub standing : Kept → Data
standing Passed = null
standing (Whole v) = view v

-- one of the names has null
abbrev pub has_null : Members → Bool
has_null no_members = false
has_null (member name d ms) = is_some (as_null d) || has_null ms

-- the value at a name; instead of null, the value that was skipped
abbrev pub seen : (List ℕ → Data) → List ℕ → Data → Data
seen passed name null = passed name
seen passed name (boolean b) = boolean b
seen passed name (number n) = number n
seen passed name (string s) = string s
seen passed name (array ds) = array ds
seen passed name (object ms) = object ms
