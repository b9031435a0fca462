-- The fields of an object that is filled: what is without fault in the frame is so in the value, and says the same, or what it is
-- filled with.
use Rattle.std.proofs.Common.{◌≡◌, ◌≤◌, ℕ, if◌then◌else◌, List, [], ◌∷◌, length, Option, Some, None, unwrap_or, option_map, refl, sym, ap, ◌∙◌, subst, arith}
use Rattle.serde_json.specs.Data.{Data, null, array, Items, no_items, Members, no_members, member}
use Rattle.serde_json.specs.Events.{items_len}
use Rattle.serde_json.specs.Find.{get}
use Rattle.scenario_data.specs.Causes.{Field as FieldCause}
use Rattle.scenario_read.specs.Paths.{Step, path_text, then_named}
use Rattle.scenario_read.specs.Kinds.{Kind, is_among, fault_at, within, each}
use Rattle.scenario_read.specs.Fields.{Field, either, faults_of, field_faults, fields_faults, held, unknown_faults}
use Rattle.scenario_read.specs.Table.{optional_list}
use Rattle.scenario_read.specs.Content.{whole_of, number_at}
use Rattle.scenario_read.proofs.NoFaults.{none-left, none-both}
use Rattle.scenario_read.proofs.Walks.{within-fits, each_of-len}
use Rattle.scenario_file.specs.Listing.{ListTold}
use Rattle.scenario_file.specs.Framing.{filled, filled_in, IsHeld}
use Rattle.scenario_file.proofs.Frames.{get-in}

pub unknown-same : (known : List (List ℕ)) (path : List Step) (fill : List ℕ → Data → Data) (ms : Members) → unknown_faults known path (filled fill ms) ≡ unknown_faults known path ms
unknown-same known path fill no_members = refl
unknown-same known path fill (member name e ms) =
    ap (λ rest. if is_among known name then rest else (FieldCause (path_text (then_named path name)) ∷ rest)) (unknown-same known path fill ms)

-- ---- names at which every value stays

abbrev pub Stays : (List ℕ → Data → Data) → List ℕ → Type 0
Stays fill name = (d : Data) → fill name d ≡ d

same-value : (f : Data → Data) → ((d : Data) → f d ≡ d) → (o : Option Data) → option_map f o ≡ o
same-value f same None = refl
same-value f same (Some d) = ap Some (same d)

get-same : (fill : List ℕ → Data → Data) (name : List ℕ) (d : Data) → Stays fill name → get name (filled_in fill d) ≡ get name d
get-same fill name d stays = get-in fill name d ∙ same-value (fill name) stays (get name d)

-- fields that are without fault in the value where they are in the frame
abbrev pub AllKept : (List ℕ → Data → Data) → List Step → Data → List Field → Type 0
AllKept fill path d [] = Unit {0}
AllKept fill path d (f ∷ fields) = (field_faults path d f ≡ [] → field_faults path (filled_in fill d) f ≡ []) × AllKept fill path d fields

pub kept : (f : Field) (fill : List ℕ → Data → Data) (path : List Step) (d : Data) → Stays fill f.name → field_faults path d f ≡ [] → field_faults path (filled_in fill d) f ≡ []
kept f fill path d stays e = ap (λ o. faults_of f.kind (then_named path f.name) (either o f.default)) (get-same fill f.name d stays) ∙ e

pub kept-fields : (fields : List Field) (fill : List ℕ → Data → Data) (path : List Step) (d : Data) → AllKept fill path d fields → fields_faults path d fields ≡ [] → fields_faults path (filled_in fill d) fields ≡ []
kept-fields [] fill path d all e = refl
kept-fields (f ∷ fields) fill path d all e =
    let parts = none-left (field_faults path d f) (fields_faults path d fields) e in
    none-both (field_faults path (filled_in fill d) f) (fields_faults path (filled_in fill d) fields) (all.0 parts.0) (kept-fields fields fill path d all.1 parts.1)

pub same-held : (f : Field) (fill : List ℕ → Data → Data) (d : Data) → Stays fill f.name → held f (filled_in fill d) ≡ held f d
same-held f fill d stays = ap (λ o. unwrap_or (either o f.default) null) (get-same fill f.name d stays)

pub same-number : (f : Field) (fill : List ℕ → Data → Data) (d : Data) → Stays fill f.name → number_at f (filled_in fill d) ≡ number_at f d
same-number f fill d stays = ap whole_of (same-held f fill d stays)

-- ---- the names of lists

abbrev pub Becomes : (List ℕ → Data → Data) → List ℕ → Items → Type 0
Becomes fill name ds = (d : Data) → fill name d ≡ array ds

-- what is at the name of a list, or counts where nothing does, is the list of its items
pub stood : (name : List ℕ) (fill : List ℕ → Data → Data) (d : Data) (ds : Items) → Becomes fill name ds → IsHeld name (get name d) ds → either (get name (filled_in fill d)) (Some (array no_items)) ≡ Some (array ds)
stood name fill d ds becomes held = ap (λ o. either o (Some (array no_items))) (get-in fill name d) ∙ counts (get name d) held
  where
    counts : (o : Option Data) → IsHeld name o ds → either (option_map (fill name) o) (Some (array no_items)) ≡ Some (array ds)
    counts None none = ap (λ es. Some (array es)) (sym none)
    counts (Some e) h = ap Some (becomes e)

pub list-faults : {A : Type 0} (name : List ℕ) (path : List Step) (most : ℕ) (any kind : Kind) (says : Data → A) (found : List A) (fill : List ℕ → Data → Data) (d : Data) (ds : Items)
    → Becomes fill name ds → IsHeld name (get name d) ds → ListTold (then_named path name) any says most found ds → each kind (then_named path name) 0 ds ≡ []
    → field_faults path (filled_in fill d) (optional_list name most kind) ≡ []
list-faults name path most any kind says found fill d ds becomes held told none =
    let here = then_named path name in
    let few : items_len ds ≤ most = subst (λ n. n ≤ most) (ap length told.said ∙ each_of-len says ds) told.few in
    ap (faults_of (optional_list name most kind).kind here) (stood name fill d ds becomes held)
    ∙ none-both (fault_at here (within 0 most (items_len ds))) (each kind here 0 ds) (ap (fault_at here) (within-fits 0 most (items_len ds) (omega arith) few)) none
