-- The text between the brackets of a list of values.
use Rattle.std.specs.Prelude.{ℕ, zero, suc, List, [], ◌++◌, Bool, true, take, string_bytes}
use Rattle.serde_json.specs.Data.{Items, no_items, item, object, no_members}
use Rattle.serde_json.specs.Written.{comma_if, compact_text}
use Rattle.scenario_file.specs.declared.written.Written.{Written}

-- a text: the first bytes of a part of the file, and then further bytes
abbrev pub written : Written → List ℕ
written text = take text.len text.part.now ++ string_bytes text.further

-- the compact text of the items, with a comma between two of them. If `later` is true, there is also a comma before
-- the first
abbrev pub inner_text : Bool → Items → List ℕ
inner_text later no_items = []
inner_text later (item d ds) = comma_if later ++ (compact_text d ++ inner_text true ds)

-- something precedes what is written after these items: at least one item, or `later` is true
abbrev pub follows : Bool → Items → Bool
follows later no_items = later
follows later (item d ds) = true

-- this many empty objects
abbrev pub blanks : ℕ → Items
blanks zero = no_items
blanks (suc n) = item (object no_members) (blanks n)
