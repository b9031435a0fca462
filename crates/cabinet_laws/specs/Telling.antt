-- What the items of a cabinet report, in order: the display before any tick, each display that has a line, and each
-- version that an accepted finish makes.
use Rattle.std.specs.Prelude.{ℕ, List, [], ◌∷◌, ◌++◌, Option, Some, None, Result, Ok, Err}
use Rattle.sig_types.specs.declared.notes.Broken.{Broken}
use Rattle.sig_types.specs.declared.frame.Frame.{Frame}
use Rattle.sig_tables.specs.Past.{History, first_frame}
use Rattle.safety_laws.specs.Written.{shown_by}
use Rattle.safety_laws.specs.CabinetTold.{CabinetTold, Shows, Loads}
use Rattle.sig_types.specs.Items.{Item, InputTold as Input, Came, Ticked}
use Rattle.cabinet_history.specs.declared.Load.{Load}
use Rattle.cabinet_history.specs.CabinetHistory.{CabinetHistory, with_item}
use Rattle.cabinet_history.specs.Journals.{Act}
use Rattle.cabinet_history.specs.CabinetAnswers.{load_end, item_written}

-- the report of a version, if one was made
abbrev pub version_told : Result ℕ Broken → List CabinetTold
version_told (Ok version) = Loads version ∷ []
version_told (Err broken) = []

-- the report of the end of a download: the version that it made
abbrev pub load_told : Option Load → List CabinetTold
load_told None = []
load_told (Some load) = version_told load.result

-- the reports of these displays, each with the number of its tick
abbrev pub frames_told : List (ℕ × Frame) → List CabinetTold
frames_told [] = []
frames_told (f ∷ frames) = Shows f.0 (shown_by f.1) ∷ frames_told frames

-- the report of an item after a cabinet history
abbrev pub item_told : CabinetHistory → Item → List CabinetTold
item_told cabinet_history (Input field) = []
item_told cabinet_history (Came octets) = load_told (load_end cabinet_history octets)
item_told cabinet_history Ticked = frames_told (item_written cabinet_history Ticked)

-- the reports of these items in the order in which they came; the newest item is the first in the list
abbrev pub items_told : List ℕ → History → List Item → List CabinetTold
items_told community opening [] = Shows 0 (shown_by first_frame) ∷ []
items_told community opening (item ∷ items) =
    items_told community opening items ++ item_told (record { community = community; opening = opening; items = items }) item

-- the reports of a cabinet history
abbrev pub cabinet_history_told : CabinetHistory → List CabinetTold
cabinet_history_told cabinet_history = items_told cabinet_history.community cabinet_history.opening cabinet_history.items

-- the reports of these acts after a cabinet history, in order
abbrev pub acts_told : CabinetHistory → List Act → List CabinetTold
acts_told cabinet_history [] = []
acts_told cabinet_history (act ∷ acts) = item_told cabinet_history act.item ++ acts_told (with_item cabinet_history act.item) acts
