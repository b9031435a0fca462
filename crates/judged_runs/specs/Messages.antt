-- What messages request under the number of a load. If each message agrees with its load, so does each download, even
-- if messages are lost, repeated, delayed or mixed with others.
use Rattle.std.specs.Prelude.{ℕ, ◌≡◌, Bool, true, false, is_some, List, length, map, Option, Some, None, IfSome}
use Rattle.std.specs.List.{AllByRecursion}
use Rattle.sig_types.specs.Items.{Item, Came}
use Rattle.sig_tables.specs.declared.tables.Tables.{Tables}
use Rattle.sig_tables.specs.declared.cells.Cell.{Cell}
use Rattle.sig_tables.specs.Cells.{Content}
use Rattle.sig_tables.specs.Putting.{put_content}
use Rattle.scenario_data.specs.declared.scenario.Direction.{Direction}
use Rattle.scenario_data.specs.declared.scenario.Direction.TheVariants.{Down, Up}
use Rattle.scenario_data.specs.declared.scenario.FaultKind.{FaultKind}
use Rattle.scenario_data.specs.declared.scenario.FaultKind.TheVariants.{Flip}
use Rattle.scenario_data.specs.Content.{ScenarioContent}
use Rattle.master_load.specs.Downloads.{part_cells, parts_for}
use Rattle.agent.specs.declared.ask.Wish.{Wish}
use Rattle.agent.specs.declared.ask.Wish.TheVariants.{Part, Verify, Finish}
use Rattle.agent.specs.Asks.{ask_of}
use Rattle.judge_session.specs.Told.{load_told}
use Rattle.run_definition.specs.CabinetState.{CabinetState, HasComeTo, opened_cabinet_states, cabinet_states_after}

-- these are the cells of the part with this number of a load; if there is no such load, any cells are allowed
abbrev pub IsPartOf : Option (List (Cell × Content)) → ℕ → List (Cell × Content) → Type 0
IsPartOf None number cells = Unit {0}
IsPartOf (Some own) number cells = cells ≡ part_cells own number

-- this is the number of parts of a load; if there is no such load, any number is allowed
abbrev pub IsTotalOf : Option (List (Cell × Content)) → ℕ → Type 0
IsTotalOf None total = Unit {0}
IsTotalOf (Some own) total = total ≡ parts_for (length own)

-- a load has the number, if that is required
abbrev pub IsFinishOf : Bool → Option (List (Cell × Content)) → Type 0
IsFinishOf false load = Unit {0}
IsFinishOf true load = is_some load ≡ true

-- a part or a total in a request agrees with the load of its number; if it is required, only loads are finished. Any
-- other request is allowed
abbrev pub IsOwnWish : Bool → (ℕ → Option (List (Cell × Content))) → Wish → Type 0
IsOwnWish only load (Part id number puts) = IsPartOf (load id) number (map put_content puts.items)
IsOwnWish only load (Verify id total) = IsTotalOf (load id) total
IsOwnWish only load (Finish id) = IsFinishOf only (load id)
IsOwnWish only load _ = Unit {0}

-- the message makes such a request, or none, with any tables in force
abbrev pub IsOwnItem : Bool → (ℕ → Option (List (Cell × Content))) → List ℕ → Item → Type 0
IsOwnItem only load community (Came octets) = (t : Tables) → IfSome (ask_of octets community t) (λ ask. IsOwnWish only load ask.wish)
IsOwnItem only load community _ = Unit {0}

-- each message that reaches a cabinet in a run with these journals makes such a request, or none
abbrev pub MessagesAreOwn : Bool → ScenarioContent → List (List (List ℕ)) → Type 0
MessagesAreOwn only s journals = (cab : ℕ) (end : CabinetState) → HasComeTo cab end 1 (cabinet_states_after s (opened_cabinet_states s s.cabinets) journals)
    → AllByRecursion (IsOwnItem only (load_told s cab) end.cabinet_history.community) end.cabinet_history.items

-- this kind of fault changes no byte of a message to a cabinet; it may lose, repeat, delay or truncate it
abbrev pub leaves : Direction → FaultKind → Type 0
leaves Up kind = Unit {0}
leaves Down Flip = ⊥
leaves Down _ = Unit {0}

-- no fault changes a byte of a message to a cabinet, and messages of other software request no other cells under the
-- number of a load; if it is required, they finish only loads
pub record IsPlainLink (only : Bool) (s : ScenarioContent) : Type 0 where
  pub frames : AllByRecursion (λ f. IsOwnItem only (load_told s f.cabinet) s.community (Came f.hex)) s.frames
  pub faults : AllByRecursion (λ f. leaves f.way f.kind) s.faults
