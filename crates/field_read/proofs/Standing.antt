-- What was found at the names is there when another member is put among the members.
use Rattle.std.proofs.Common.{◌≡◌, ℕ, List, [], false, Option, Some, bytes_eq, length, refl, sym, ap, subst, arith}
use Rattle.serde_json.specs.Data.{Data, array, Items, no_items, Members, put}
use Rattle.serde_json.specs.Find.{get_member}
use Rattle.serde_json.proofs.Views.{get_member-put, get_member-put_other}
use Rattle.scenario_read.specs.Paths.{Step}
use Rattle.scenario_read.specs.Kinds.{Kind}
use Rattle.scenario_read.proofs.NameOrder.{apart}
use Rattle.scenario_file.specs.Listing.{ListTold}
use Rattle.field_read.specs.declared.found.Found.{Found}
use Rattle.field_read.specs.declared.parts.Parts.{Parts}
use Rattle.field_read.specs.Lists.{Holds, name_of}
use Rattle.field_read.specs.Parts.{IsAt, IsList, ListStands, PartsStand}

-- what is put at its name, and at another
pub is-here : {A : Type 0} (Says : A → Data → Type 0) (a : A) (name : List ℕ) (d : Data) (ms : Members) → Says a d → IsAt Says (Some a) (get_member name (put name d ms))
is-here Says a name d ms says = (d, get_member-put name d ms, says)

pub is-there : {A : Type 0} (Says : A → Data → Type 0) (found : Option A) (name other : List ℕ) (d : Data) (ms : Members) → bytes_eq name other ≡ false
    → IsAt Says found (get_member name ms) → IsAt Says found (get_member name (put other d ms))
is-there Says found name other d ms differ at = subst (λ o. IsAt Says found o) (sym (get_member-put_other name other d ms (apart name other differ))) at

-- the same of a list
pub list-here : (found : Found) (ds : Items) (ms : Members) → Holds found ds → ListStands found (put (name_of found) (array ds) ms)
list-here found ds ms holds = record {
  items = ds;
  held = subst (λ o. IsList o ds) (sym (get_member-put (name_of found) (array ds) ms)) refl;
  holds = holds;
}

pub list-there : (found : Found) (other : List ℕ) (d : Data) (ms : Members) → bytes_eq (name_of found) other ≡ false → ListStands found ms → ListStands found (put other d ms)
list-there found other d ms differ stands = record {
  items = stands.items;
  held = subst (λ o. IsList o stands.items) (sym (get_member-put_other (name_of found) other d ms (apart (name_of found) other differ))) stands.held;
  holds = stands.holds;
}

-- a list put in under what it is known to be
pub same-found : (parts : Parts) (found known : Found) (ds : Items) (ms : Members) → found ≡ known → PartsStand parts (put (name_of known) (array ds) ms) → PartsStand parts (put (name_of found) (array ds) ms)
same-found parts found known ds ms is stands = subst (λ (f : Found). PartsStand parts (put (name_of f) (array ds) ms)) (sym is) stands

-- a list without items
pub none-told : {A : Type 0} (path : List Step) (kind : Kind) (says : Data → A) (most : ℕ) (found : List A) → found ≡ [] → ListTold path kind says most found no_items
none-told path kind says most found none =
    let count : length found ≡ 0 = ap length none in
    record { causes = refl; said = none; few = omega (arith, count) }
