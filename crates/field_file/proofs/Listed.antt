-- Calls as inputs and entries as those of a schedule have no fault, where they are in range.
use Rattle.std.proofs.Common.{◌≡◌, ◌≤◌, ◌+◌, ℕ, List, [], ◌∷◌, ◌++◌, length, map, refl, suc, ap, arith}
use Rattle.serde_json.specs.Data.{Data, array, Items, no_items, item}
use Rattle.serde_json.specs.Events.{items_len}
use Rattle.serde_json.specs.View.{items_of}
use Rattle.scenario_data.specs.declared.scenario.Entry.{Entry}
use Rattle.scenario_read.specs.Paths.{Step, then_item}
use Rattle.scenario_read.specs.Kinds.{Kind, each, list_of}
use Rattle.scenario_read.specs.Fields.{object_of}
use Rattle.scenario_read.specs.Table.{input_shape, entry_shape}
use Rattle.scenario_read.proofs.NoFaults.{none-left}
use Rattle.scenario_read.proofs.Walks.{within-fits}
use Rattle.detector_bank.specs.declared.bank.Call.{Call}
use Rattle.scenario_cut.specs.Growing.{both}
use Rattle.field_file.specs.Written.{call_value, entry_value}
use Rattle.field_file.proofs.Every.{Every}

-- a call of a round, a cabinet and a phase that there are
pub record IsCalled (rounds cabinets : ℕ) (call : Call) : Type 0 where
  pub late : 1 ≤ call.round
  pub early : call.round ≤ rounds
  pub some : 1 ≤ call.cabinet
  pub few : call.cabinet ≤ cabinets
  pub least : 1 ≤ call.phase
  pub most : call.phase ≤ 16

-- an entry of a second of the day, a section and a pattern that there are
pub record IsListed (entry : Entry) : Type 0 where
  pub second : entry.second ≤ 86399
  pub some : 1 ≤ entry.section
  pub few : entry.section ≤ 8
  pub pattern : entry.pattern ≤ 255

pub call-clean : (rounds cabinets : ℕ) (call : Call) → IsCalled rounds cabinets call → (path : List Step) → object_of (input_shape rounds cabinets) path (call_value call) ≡ []
call-clean rounds cabinets call h path =
    rw (within-fits 1 rounds call.round h.late h.early, within-fits 1 cabinets call.cabinet h.some h.few, within-fits 1 16 call.phase h.least h.most) refl

pub entry-clean : (entry : Entry) → IsListed entry → (path : List Step) → object_of entry_shape path (entry_value entry) ≡ []
entry-clean entry h path =
    rw (within-fits 0 86399 entry.second (omega arith) h.second, within-fits 1 8 entry.section h.some h.few, within-fits 0 255 entry.pattern (omega arith) h.pattern) refl

-- values that are made of a list, as items
pub made-clean : {A : Type 0} (kind : Kind) (f : A → Data) (P : A → Type 0) → ((x : A) → P x → (path : List Step) → kind path (f x) ≡ []) → (path : List Step) (place : ℕ) (xs : List A)
    → Every P xs → each kind path place (items_of (map f xs)) ≡ []
made-clean kind f P clean path place [] h = refl
made-clean kind f P clean path place (x ∷ xs) h = rw (clean x h.0 (then_item path place), made-clean kind f P clean path (place + 1) xs h.1) refl

pub made-length : {A : Type 0} (f : A → Data) (xs : List A) → items_len (items_of (map f xs)) ≡ length xs
made-length f [] = refl
made-length f (x ∷ xs) = ap suc (made-length f xs)

and-length : (ds es : Items) → items_len (both ds es) ≡ items_len ds + items_len es
and-length no_items es = omega arith
and-length (item d ds) es = rw (and-length ds es) (omega arith)

none-of-two : {A : Type 0} (a b : List A) → a ≡ [] → b ≡ [] → a ++ b ≡ []
none-of-two a b p q = rw (p, q) refl

and-clean : (kind : Kind) (path : List Step) (place : ℕ) (ds es : Items) → each kind path place ds ≡ [] → ((at : ℕ) → each kind path at es ≡ []) → each kind path place (both ds es) ≡ []
and-clean kind path place no_items es p q = q place
and-clean kind path place (item d ds) es p q =
    let parts = none-left (kind (then_item path place) d) (each kind path (place + 1) ds) p in
    none-of-two (kind (then_item path place) d) (each kind path (place + 1) (both ds es)) parts.0 (and-clean kind path (place + 1) ds es parts.1 q)

-- a list of these
pub list-clean : (most : ℕ) (kind : Kind) (path : List Step) (ds : Items) → items_len ds ≤ most → each kind path 0 ds ≡ [] → list_of 0 most kind path (array ds) ≡ []
list-clean most kind path ds few clean = rw (within-fits 0 most (items_len ds) (omega arith) few, clean) refl

pub list-and-clean : (most : ℕ) (kind : Kind) (path : List Step) (ds es : Items) → items_len ds + items_len es ≤ most → each kind path 0 ds ≡ [] → ((at : ℕ) → each kind path at es ≡ [])
    → list_of 0 most kind path (array (both ds es)) ≡ []
list-and-clean most kind path ds es few p q = list-clean most kind path (both ds es) (omega (arith, and-length ds es, few)) (and-clean kind path 0 ds es p q)
