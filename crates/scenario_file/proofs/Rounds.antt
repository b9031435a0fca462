-- Items of rounds and cabinets that there are have no faults.
use Rattle.std.proofs.Common.{◌≡◌, ℕ, ◌+◌, ◌≤◌, Bool, true, false, ◌&&◌, if◌then◌else◌, nat_le, List, [], ◌∷◌, ◌++◌, Option, Some, None, unwrap_or, refl, ap, ◌∙◌}
use Rattle.std.proofs.lemmas.Bool.{le-leb}
use Rattle.serde_json.specs.Data.{unsigned, negative, float, Data, null, boolean, number, string, array, object, Items, no_items, item}
use Rattle.serde_json.specs.Find.{get}
use Rattle.scenario_read.specs.Paths.{Step, then_item, then_named}
use Rattle.scenario_read.specs.Kinds.{Kind, Fits, Beyond, whole, fault_at, each, each_behind}
use Rattle.scenario_read.specs.Fields.{Field, Shape, either, faults_of, field_faults, fields_faults, alternative_faults, names, known_fields, unknown_faults, object_of}
use Rattle.scenario_read.specs.Table.{round, cabinet_number, input_fields, load_cells, load_shape, load_cabinet, load, full_faults, priority_fields, priority_shape, priority_item, departure_faults, act_of, input_shape, stream, frame_hex, frame_shape, way, index, fault_kind, by, octet, fault_shape}
use Rattle.scenario_read.specs.Content.{whole_of, number_at, each_of}
use Rattle.scenario_read.proofs.NoFaults.{none-left, none-both}
use Rattle.scenario_file.specs.Listing.{any_input, any_load, any_priority, any_frame, any_fault, AllOf, InRounds}

-- a number that fits one range and lies below the end of another fits that
pub whole-within : (most end : ℕ) (path : List Step) (o : Option Data) → faults_of (whole 1 most) path (either o None) ≡ []
    → nat_le (whole_of (unwrap_or (either o None) null)) end ≡ true → faults_of (whole 1 end) path (either o None) ≡ []
whole-within most end path None e le = absurd (cc)
whole-within most end path (Some null) e le = absurd (cc)
whole-within most end path (Some (boolean b)) e le = absurd (cc)
whole-within most end path (Some (number (unsigned n))) e le = at (nat_le 1 n) (nat_le n most) refl e
  where
    at : (a b : Bool) → nat_le 1 n ≡ a → fault_at path (if a && b then Fits else Beyond) ≡ [] → fault_at path (if nat_le 1 n && nat_le n end then Fits else Beyond) ≡ []
    at true b is k = rw (is, le) refl
    at false b is k = absurd (cc)
whole-within most end path (Some (number (negative z))) e le = absurd (cc)
whole-within most end path (Some (number (float x))) e le = absurd (cc)
whole-within most end path (Some (string s)) e le = absurd (cc)
whole-within most end path (Some (array ds)) e le = absurd (cc)
whole-within most end path (Some (object ms)) e le = absurd (cc)

-- an item of this number of rounds and cabinets, with these fields more
abbrev pub item_shape : List Field → List (List Field) → ℕ → ℕ → Shape
item_shape fields alternatives rounds cabinets = record { fields = round rounds ∷ cabinet_number cabinets ∷ fields; alternatives = alternatives }

pub one-within : (fields : List Field) (alternatives : List (List Field)) (rounds cabinets : ℕ) (path : List Step) (d : Data) → object_of (item_shape fields alternatives 86400 64) path d ≡ []
    → number_at (round 86400) d ≤ rounds → number_at (cabinet_number 64) d ≤ cabinets → object_of (item_shape fields alternatives rounds cabinets) path d ≡ []
one-within fields alternatives rounds cabinets path null e r c = absurd (cc)
one-within fields alternatives rounds cabinets path (boolean b) e r c = absurd (cc)
one-within fields alternatives rounds cabinets path (number n) e r c = absurd (cc)
one-within fields alternatives rounds cabinets path (string s) e r c = absurd (cc)
one-within fields alternatives rounds cabinets path (array ds) e r c = absurd (cc)
one-within fields alternatives rounds cabinets path (object ms) e r c =
    let d = object ms in
    let others = alternative_faults path d alternatives in
    let behind = fields_faults path d fields in
    let known = names (known_fields (item_shape fields alternatives 86400 64) d) in
    let a = none-left (unknown_faults known path ms) (fields_faults path d (round 86400 ∷ cabinet_number 64 ∷ fields) ++ others) e in
    let b = none-left (fields_faults path d (round 86400 ∷ cabinet_number 64 ∷ fields)) others a.1 in
    let f = none-left (field_faults path d (round 86400)) (field_faults path d (cabinet_number 64) ++ behind) b.0 in
    let g = none-left (field_faults path d (cabinet_number 64)) behind f.1 in
    let first = whole-within 86400 rounds (then_named path (round 86400).name) (get (round 86400).name d) f.0 (le-leb _ _ r) in
    let second = whole-within 64 cabinets (then_named path (cabinet_number 64).name) (get (cabinet_number 64).name d) g.0 (le-leb _ _ c) in
    none-both (unknown_faults known path ms) (fields_faults path d (round rounds ∷ cabinet_number cabinets ∷ fields) ++ others) a.0
    (none-both (fields_faults path d (round rounds ∷ cabinet_number cabinets ∷ fields)) others
    (none-both (field_faults path d (round rounds)) (field_faults path d (cabinet_number cabinets) ++ behind) first (none-both (field_faults path d (cabinet_number cabinets)) behind second g.1)) b.1)

-- where an item of a round and a cabinet that there are is without fault under one kind, it is under the other
abbrev KindFollows : Kind → Kind → ℕ → ℕ → Type 0
KindFollows kind now rounds cabinets = (path : List Step) (d : Data) → kind path d ≡ [] → number_at (round 86400) d ≤ rounds → number_at (cabinet_number 64) d ≤ cabinets → now path d ≡ []

pub input-within : (rounds cabinets : ℕ) → KindFollows any_input (object_of (input_shape rounds cabinets)) rounds cabinets
input-within rounds cabinets path d = one-within [] input_fields rounds cabinets path d

pub frame-within : (rounds cabinets : ℕ) → KindFollows any_frame (object_of (frame_shape rounds cabinets)) rounds cabinets
frame-within rounds cabinets path d = one-within (stream ∷ frame_hex ∷ []) [] rounds cabinets path d

pub fault-within : (rounds cabinets : ℕ) → KindFollows any_fault (object_of (fault_shape rounds cabinets)) rounds cabinets
fault-within rounds cabinets path d = one-within (stream ∷ way ∷ index ∷ fault_kind ∷ by ∷ octet ∷ []) [] rounds cabinets path d

pub priority-within : (rounds cabinets : ℕ) → KindFollows any_priority (priority_item rounds cabinets) rounds cabinets
priority-within rounds cabinets path d e r c =
    let parts = none-left (object_of (priority_shape 86400 64) path d) (departure_faults path (act_of d)) e in
    none-both (object_of (priority_shape rounds cabinets) path d) (departure_faults path (act_of d)) (one-within [] priority_fields rounds cabinets path d parts.0 r c) parts.1

pub load-within : (rounds cabinets : ℕ) (earlier : List ℕ) → KindFollows (any_load earlier) (load rounds cabinets earlier) rounds cabinets
load-within rounds cabinets earlier path d e r c =
    let full = full_faults earlier path (load_cabinet 64 d) in
    let parts = none-left (object_of (load_shape 86400 64) path d) full e in
    none-both (object_of (load_shape rounds cabinets) path d) full (one-within (load_cells ∷ []) [] rounds cabinets path d parts.0 r c) parts.1

pub each-within : (kind now : Kind) (rounds cabinets : ℕ) → KindFollows kind now rounds cabinets → (path : List Step) (ds : Items) (place : ℕ) → each kind path place ds ≡ [] → AllOf (InRounds rounds cabinets) ds → each now path place ds ≡ []
each-within kind now rounds cabinets follows path no_items place e within = refl
each-within kind now rounds cabinets follows path (item d ds) place e within =
    let parts = none-left (kind (then_item path place) d) (each kind path (place + 1) ds) e in
    none-both (now (then_item path place) d) (each now path (place + 1) ds) (follows (then_item path place) d parts.0 within.0.0 within.0.1)
    (each-within kind now rounds cabinets follows path ds (place + 1) parts.1 within.1)

pub loads-within : (rounds cabinets : ℕ) (path : List Step) (ds : Items) (place : ℕ) (earlier : List ℕ) → each_behind any_load (load_cabinet 64) path place earlier ds ≡ [] → AllOf (InRounds rounds cabinets) ds
    → each_behind (load rounds cabinets) (load_cabinet cabinets) path place earlier ds ≡ []
loads-within rounds cabinets path no_items place earlier e within = refl
loads-within rounds cabinets path (item d ds) place earlier e within =
    let next = earlier ++ load_cabinet 64 d ∷ [] in
    let parts = none-left (any_load earlier (then_item path place) d) (each_behind any_load (load_cabinet 64) path (place + 1) next ds) e in
    none-both (load rounds cabinets earlier (then_item path place) d) (each_behind (load rounds cabinets) (load_cabinet cabinets) path (place + 1) next ds)
    (load-within rounds cabinets earlier (then_item path place) d parts.0 within.0.0 within.0.1) (loads-within rounds cabinets path ds (place + 1) next parts.1 within.1)

-- what an item says is the same, however many rounds and cabinets there are
pub said-same : {A : Type 0} (says now : Data → A) → ((d : Data) → says d ≡ now d) → (ds : Items) → each_of says ds ≡ each_of now ds
said-same says now same no_items = refl
said-same says now same (item d ds) = ap (λ rest. says d ∷ rest) (said-same says now same ds) ∙ ap (λ a. a ∷ each_of now ds) (same d)
