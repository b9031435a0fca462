-- The lists at the top of a scenario, checked item by item when the version and the numbers of rounds and cabinets
-- are known: the first fault of a list, and what is stored of its items.
use Rattle.std.specs.Prelude.{ℕ, ◌≡◌, ◌≤◌, ◌<◌, ◌+◌, ◌&&◌, nat_le, Bool, true, List, [], ◌∷◌, Option, Some, None, codes, map}
use Rattle.serde_json.specs.Data.{Data, array, Items}
use Rattle.serde_json.specs.Events.{items_len}
use Rattle.scenario_data.specs.declared.refusal.ReadFail.{ReadFail}
use Rattle.scenario_data.specs.Causes.{Cause}
use Rattle.scenario_data.specs.Content.{cabinet_content}
use Rattle.scenario_read.specs.Paths.{Step, Named}
use Rattle.scenario_read.specs.Kinds.{Kind, each_behind}
use Rattle.scenario_read.specs.Fields.{Field, held, field_faults, object_of}
use Rattle.scenario_read.specs.Readers.{Refuses, load_cabinets}
use Rattle.scenario_read.specs.Table.{cabinet, cabinets, input_shape, inputs, load, load_cabinet, loads, priority_item, priority, frame_shape, frames, fault_shape, link_faults}
use Rattle.scenario_read.specs.Content.{each_of, list_in, cabinet_of}
use Rattle.scenario_cut.specs.Cutting.{Form, Cabinet, Event}
use Rattle.scenario_cut.specs.declared.judge.Extent.{Extent}
use Rattle.scenario_cut.specs.declared.judge.Found.{Found}
use Rattle.scenario_cut.specs.declared.judge.Listing.{Listing}
use Rattle.scenario_cut.specs.declared.judge.Listing.TheVariants.{Cabinets, Inputs, Loads, Priority, Frames, Faults}
use Rattle.scenario_cut.specs.declared.listing.Judged.{Judged}
use Rattle.scenario_cut.specs.declared.listing.ListVerdict.{ListVerdict}

-- the name of a list
abbrev pub name_of : Listing → List ℕ
name_of Cabinets = codes "cabinets"
name_of Inputs = codes "inputs"
name_of Loads = codes "loads"
name_of Priority = codes "priority"
name_of Frames = codes "frames"
name_of Faults = codes "faults"

-- the path of a list
abbrev pub list_path : Listing → List Step
list_path l = Named (name_of l) ∷ []

-- the field of the list, in a scenario of this extent
abbrev pub list_field : Listing → Extent → Field
list_field Cabinets e = cabinets e.version
list_field Inputs e = inputs e.rounds e.cabinets
list_field Loads e = loads e.rounds e.cabinets
list_field Priority e = priority e.rounds e.cabinets
list_field Frames e = frames e.rounds e.cabinets
list_field Faults e = link_faults e.rounds e.cabinets

-- the form of an item, which determines how much of it is stored
abbrev pub form_of : Listing → Form
form_of Cabinets = Cabinet
form_of _ = Event

-- the kind of an item; a load is checked with the cabinets of the loads before it
abbrev pub item_kind : Listing → Extent → List ℕ → Kind
item_kind Cabinets e earlier = cabinet e.version
item_kind Inputs e earlier = object_of (input_shape e.rounds e.cabinets)
item_kind Loads e earlier = load e.rounds e.cabinets earlier
item_kind Priority e earlier = priority_item e.rounds e.cabinets
item_kind Frames e earlier = object_of (frame_shape e.rounds e.cabinets)
item_kind Faults e earlier = object_of (fault_shape e.rounds e.cabinets)

-- the cabinets of these items, read as loads
abbrev pub cabinets_of : Extent → Items → List ℕ
cabinets_of e = each_of (load_cabinet e.cabinets)

-- the faults of the items of a list
abbrev pub items_faults : Listing → Extent → Items → List Cause
items_faults l e ds = each_behind (item_kind l e) (load_cabinet e.cabinets) (list_path l) 0 [] ds

-- what is stored of the items: everything that cabinets describe, and the cabinets of loads
abbrev pub Stays : Listing → Extent → Found → Items → Type 0
Stays Cabinets e found ds = map cabinet_content found.cabinets.items ≡ each_of (cabinet_of e.version) ds
Stays Inputs e found ds = Unit {0}
Stays Loads e found ds = load_cabinets found.loads.items ≡ cabinets_of e ds
Stays Priority e found ds = Unit {0}
Stays Frames e found ds = Unit {0}
Stays Faults e found ds = Unit {0}

-- the refusal names the first of these faults; without a refusal there are no faults, and `P` holds
abbrev pub Tells : Option ReadFail → List Cause → Type 0 → Type 0
Tells None causes P = (causes ≡ []) × P
Tells (Some fail) causes P = Refuses fail causes

-- the number of items up to which the check of the items covers the whole list
abbrev pub most_judged : Listing → ℕ
most_judged Cabinets = 64
most_judged Inputs = 1000000
most_judged Loads = 1000000
most_judged Priority = 1000000
most_judged Frames = 1000000
most_judged Faults = 1000000

-- the items were counted, up to one more than `most`
pub record Counted (most count len : ℕ) : Type 0 where
  pub few : count ≤ most + 1
  pub exact : count ≤ most → count ≡ len
  pub many : most < count → most < len

-- the same for items that were counted: only if all were checked is it known that they have no fault
abbrev pub TellsUpTo : ℕ → Option ReadFail → ℕ → List Cause → Type 0 → Type 0
TellsUpTo most None count causes P = count ≤ most → (causes ≡ []) × P
TellsUpTo most (Some fail) count causes P = Refuses fail causes

-- the items were checked
pub record IsJudged (l : Listing) (e : Extent) (judged : Judged) (ds : Items) : Type 0 where
  pub counted : Counted (most_judged l) judged.count (items_len ds)
  pub told : TellsUpTo (most_judged l) judged.refusal judged.count (items_faults l e ds) (Stays l e judged.found ds)

-- the list may have this many items. Loads may be any number, because each cabinet's loads are counted separately
abbrev pub may_have : Listing → ℕ → Bool
may_have Cabinets n = nat_le 1 n && nat_le n 64
may_have Inputs n = nat_le 0 n && nat_le n 1000000
may_have Loads n = true
may_have Priority n = nat_le 0 n && nat_le n 100000
may_have Frames n = nat_le 0 n && nat_le n 100000
may_have Faults n = nat_le 0 n && nat_le n 100000

-- the value is not a list
abbrev pub IsNoList : Data → Type 0
IsNoList (array ds) = ⊥
IsNoList _ = Unit {0}

-- what is stored of a list: everything that cabinets describe
abbrev pub StaysIn : Listing → Extent → Found → Data → Type 0
StaysIn Cabinets e found d = map cabinet_content found.cabinets.items ≡ list_in (cabinet_of e.version) d
StaysIn Inputs e found d = Unit {0}
StaysIn Loads e found d = Unit {0}
StaysIn Priority e found d = Unit {0}
StaysIn Frames e found d = Unit {0}
StaysIn Faults e found d = Unit {0}

-- the value in the place of the list was checked
abbrev pub TellsOf : Listing → Extent → ListVerdict → Data → Type 0
TellsOf l e told d = Tells told.refusal ((list_field l e).kind (list_path l) d) (StaysIn l e told.found d)

-- the list of a scenario was checked
abbrev pub TellsIn : Listing → Extent → ListVerdict → Data → Type 0
TellsIn l e told d = Tells told.refusal (field_faults [] d (list_field l e)) (StaysIn l e told.found (held (list_field l e) d))
