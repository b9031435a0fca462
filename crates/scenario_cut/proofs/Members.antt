-- An object of which less is kept has the same names, and at each name what is kept there.
use Rattle.std.proofs.Common.{◌≡◌, ℕ, Bool, true, false, if◌then◌else◌, List, [], ◌∷◌, ◌++◌, Option, Some, None, option_map, is_some, unwrap_or, filter, Ordering, Less, Equal, Greater, nat_cmp, refl, sym, ap, ap₂, ◌∙◌, subst}
use Rattle.std.proofs.lemmas.Bool.{and_parts}
use Rattle.std.specs.Cmp.Lexicographic.{slice_cmp}
use Rattle.std.specs.Ordering.{match_ordering}
use Rattle.serde_json.specs.Data.{Data, null, boolean, number, string, array, object, Items, Members, no_members, member}
use Rattle.serde_json.specs.Find.{get, get_member}
use Rattle.scenario_data.specs.Causes.{Field as FieldCause}
use Rattle.scenario_read.specs.Faults.{first_cause}
use Rattle.scenario_read.specs.Paths.{Step, path_text, then_named}
use Rattle.scenario_read.specs.Kinds.{is_among}
use Rattle.scenario_read.specs.Fields.{Field, Shape, either, held, faults_of, field_faults, fields_faults, stands, only_one, all_of, known_fields, names, unknown_faults, chosen_faults, alternative_faults, object_of}
use Rattle.scenario_cut.specs.Cutting.{Form, opens_array, opens_object, item_form, member_form, names_at, few, room, cut, cut_items, cut_members}
use Rattle.scenario_cut.proofs.Same.{Same, same-both}
use Rattle.scenario_cut.proofs.Few.{all_among, each_among, covers, left-among, one-among, known-among, get-few, unknown-few}
pub use Rattle.scenario_cut.proofs.Few.{equal-names}

pub get-kept : (f : Form) (name : List ℕ) (ms : Members) → get_member name (cut_members f ms) ≡ option_map (cut (member_form f name)) (get_member name ms)
get-kept f name no_members = refl
get-kept f name (member k d ms) = at (slice_cmp nat_cmp name k) refl (get-kept f name ms)
  where
    at : (o : Ordering) → slice_cmp nat_cmp name k ≡ o → get_member name (cut_members f ms) ≡ option_map (cut (member_form f name)) (get_member name ms)
        → match_ordering o (get_member name (cut_members f ms)) (Some (cut (member_form f k) d)) (get_member name (cut_members f ms)) ≡ option_map (cut (member_form f name)) (match_ordering o (get_member name ms) (Some d) (get_member name ms))
    at Less is later = later
    at Equal is later = ap (λ n. Some (cut (member_form f n) d)) (sym (equal-names name k is))
    at Greater is later = later

some-kept : (g : Data → Data) (o : Option Data) → is_some (option_map g o) ≡ is_some o
some-kept g None = refl
some-kept g (Some d) = refl

-- at a place where an object may be and no array
pub record IsObject (f : Form) : Type 0 where
  pub opens : opens_object f ≡ true
  pub closed : opens_array f ≡ false

-- what is kept of an object
abbrev pub kept_members : Form → Members → Members
kept_members f ms = few (names_at f) (cut_members f ms)

pub kept-object : (f : Form) → IsObject f → (ms : Members) → cut f (object ms) ≡ object (kept_members f ms)
kept-object f is ms = ap (λ b. if b then object (kept_members f ms) else null) is.opens

pub kept-array : (f : Form) → opens_array f ≡ false → (ds : Items) → cut f (array ds) ≡ null
kept-array f closed ds = ap (λ b. if b then array (cut_items (item_form f) (room (item_form f)) ds) else null) closed

-- what is at a name that an object there may have
pub get-cut : (f : Form) → IsObject f → (name : List ℕ) → is_among (names_at f) name ≡ true → (d : Data) → get name (cut f d) ≡ option_map (cut (member_form f name)) (get name d)
get-cut f is name has null = refl
get-cut f is name has (boolean b) = refl
get-cut f is name has (number n) = refl
get-cut f is name has (string s) = refl
get-cut f is name has (array ds) = ap (get name) (kept-array f is.closed ds)
get-cut f is name has (object ms) = ap (get name) (kept-object f is ms) ∙ get-few (names_at f) name has (cut_members f ms) ∙ get-kept f name ms

pub some-cut : (f : Form) → IsObject f → (name : List ℕ) → is_among (names_at f) name ≡ true → (d : Data) → is_some (get name (cut f d)) ≡ is_some (get name d)
some-cut f is name has d = ap is_some (get-cut f is name has d) ∙ some-kept (cut (member_form f name)) (get name d)

-- what is read of a value that counts, where reading asks no more than is kept
pub held-cut : {A : Type 0} (f : Form) → IsObject f → (field : Field) → is_among (names_at f) field.name ≡ true → (says : Data → A) → ((d : Data) → says (cut (member_form f field.name) d) ≡ says d)
    → (d : Data) → says (held field (cut f d)) ≡ says (held field d)
held-cut f is field has says same d = ap (λ o. says (unwrap_or (either o field.default) null)) (get-cut f is field.name has d) ∙ at (get field.name d)
  where
    at : (o : Option Data) → says (unwrap_or (either (option_map (cut (member_form f field.name)) o) field.default) null) ≡ says (unwrap_or (either o field.default) null)
    at None = refl
    at (Some v) = same v

-- ---- the faults of an object

-- what is kept at the field's name has the same first fault
abbrev pub CutKeeps : Form → Field → Type 0
CutKeeps f field = (path : List Step) (d : Data) → Same (field.kind path (cut (member_form f field.name) d)) (field.kind path d)

abbrev pub AllKeep : Form → List Field → Type 0
AllKeep f [] = Unit {0}
AllKeep f (field ∷ fields) = CutKeeps f field × AllKeep f fields

abbrev pub EachKeeps : Form → List (List Field) → Type 0
EachKeeps f [] = Unit {0}
EachKeeps f (fields ∷ more) = AllKeep f fields × EachKeeps f more

module _ (f : Form) (is : IsObject f) where
  abbrev known : List (List ℕ)
  known = names_at f

  pub field-same : (path : List Step) (d : Data) (field : Field) → is_among (names_at f) field.name ≡ true → CutKeeps f field → Same (field_faults path (cut f d) field) (field_faults path d field)
  field-same path d field has keeps =
      ap (λ o. first_cause (faults_of field.kind (then_named path field.name) (either o field.default))) (get-cut f is field.name has d) ∙ at (get field.name d)
    where
      at : (o : Option Data) → Same (faults_of field.kind (then_named path field.name) (either (option_map (cut (member_form f field.name)) o) field.default)) (faults_of field.kind (then_named path field.name) (either o field.default))
      at None = refl
      at (Some v) = keeps (then_named path field.name) v

  pub fields-same : (path : List Step) (d : Data) (fields : List Field) → all_among (names_at f) fields ≡ true → AllKeep f fields → Same (fields_faults path (cut f d) fields) (fields_faults path d fields)
  fields-same path d [] all keep = refl
  fields-same path d (field ∷ fields) all keep =
      let parts = and_parts (is_among known field.name) (all_among known fields) all in
      same-both (field_faults path (cut f d) field) (field_faults path d field) (fields_faults path (cut f d) fields) (fields_faults path d fields)
      (field-same path d field parts.0 keep.0) (fields-same path d fields parts.1 keep.1)

  stands-same : (d : Data) (fields : List Field) → all_among known fields ≡ true → stands (cut f d) fields ≡ stands d fields
  stands-same d [] all = refl
  stands-same d (field ∷ fields) all = some-cut f is field.name (and_parts (is_among known field.name) (all_among known fields) all).0 d

  standing-same : (d : Data) (all : List (List Field)) → each_among known all ≡ true → filter (stands (cut f d)) all ≡ filter (stands d) all
  standing-same d [] each = refl
  standing-same d (fields ∷ more) each =
      let parts = and_parts (all_among known fields) (each_among known more) each in
      ap₂ (λ b (rest : List (List Field)). if b then fields ∷ rest else rest) (stands-same d fields parts.0) (standing-same d more parts.1)

  chosen-same : (path : List Step) (d : Data) (o : Option (List Field)) → ((fields : List Field) → o ≡ Some fields → (all_among known fields ≡ true) × AllKeep f fields)
      → Same (chosen_faults path (cut f d) o) (chosen_faults path d o)
  chosen-same path d None keep = refl
  chosen-same path d (Some fields) keep = let kept = keep fields refl in fields-same path d fields kept.0 kept.1

  one-keeps : (d : Data) (all : List (List Field)) → EachKeeps f all → (fields : List Field) → only_one (filter (stands d) all) ≡ Some fields → AllKeep f fields
  one-keeps d all each fields one = alone (filter (stands d) all) (left all each) one
    where
      left : (some : List (List Field)) → EachKeeps f some → EachKeeps f (filter (stands d) some)
      left [] keep = tt
      left (first ∷ more) keep = pick (stands d first) (keep.0, left more keep.1)
        where
          pick : (b : Bool) → AllKeep f first × EachKeeps f (filter (stands d) more) → EachKeeps f (if b then first ∷ filter (stands d) more else filter (stands d) more)
          pick true both = both
          pick false both = both.1

      alone : (some : List (List Field)) → EachKeeps f some → only_one some ≡ Some fields → AllKeep f fields
      alone [] keep one = absurd (cc)
      alone (a ∷ []) keep one = subst (AllKeep f) (cc) keep.0
      alone (a ∷ b ∷ more) keep one = absurd (cc)

  one-known : (d : Data) (all : List (List Field)) → each_among known all ≡ true → (fields : List Field) → only_one (filter (stands d) all) ≡ Some fields → all_among known fields ≡ true
  one-known d all each fields one =
      subst (λ o. all_among known (unwrap_or o []) ≡ true) one (one-among known (filter (stands d) all) [] (left-among known (stands d) all each) refl)

  alternatives-same : (path : List Step) (d : Data) (all : List (List Field)) → each_among known all ≡ true → EachKeeps f all → Same (alternative_faults path (cut f d) all) (alternative_faults path d all)
  alternatives-same path d [] among each = refl
  alternatives-same path d (fields ∷ more) among each =
      let all = fields ∷ more in
      ap (λ some. first_cause (chosen_faults path (cut f d) (only_one some))) (standing-same d all among)
      ∙ chosen-same path d (only_one (filter (stands d) all)) (λ some one. (one-known d all among some one, one-keeps d all each some one))

  unknown-kept : (asked : List (List ℕ)) (path : List Step) (ms : Members) → unknown_faults asked path (cut_members f ms) ≡ unknown_faults asked path ms
  unknown-kept asked path no_members = refl
  unknown-kept asked path (member name d ms) = ap (λ rest. if is_among asked name then rest else FieldCause (path_text (then_named path name)) ∷ rest) (unknown-kept asked path ms)

  -- the first name that is none of these fields'
  pub unknown-same : (fields : List Field) → all_among (names_at f) fields ≡ true → (path : List Step) (ms : Members) → Same (unknown_faults (names fields) path (kept_members f ms)) (unknown_faults (names fields) path ms)
  unknown-same fields all path ms = unknown-few known fields all path (cut_members f ms) ∙ ap first_cause (unknown-kept (names fields) path ms)

  known-same : (shape : Shape) (d : Data) → each_among known shape.alternatives ≡ true → known_fields shape (cut f d) ≡ known_fields shape d
  known-same shape d each = ap (λ some. shape.fields ++ unwrap_or (only_one some) (all_of shape.alternatives)) (standing-same d shape.alternatives each)

  members-same : (shape : Shape) (path : List Step) (ms : Members) → all_among known shape.fields ≡ true → each_among known shape.alternatives ≡ true → AllKeep f shape.fields → EachKeeps f shape.alternatives
      → Same (object_of shape path (cut f (object ms))) (object_of shape path (object ms))
  members-same shape path ms all among keep each =
      ap (λ d. first_cause (object_of shape path d)) whole
      ∙ same-both (unknown_faults (names (known_fields shape there)) path (kept_members f ms)) (unknown_faults (names (known_fields shape here)) path ms) _ _
      (ap (λ fields. first_cause (unknown_faults (names fields) path (kept_members f ms))) (subst (λ d. known_fields shape d ≡ known_fields shape here) whole (known-same shape here among))
      ∙ unknown-same (known_fields shape here) (known-among known shape here all among) path ms)
      (same-both (fields_faults path there shape.fields) (fields_faults path here shape.fields) (alternative_faults path there shape.alternatives) (alternative_faults path here shape.alternatives)
      (subst (λ d. Same (fields_faults path d shape.fields) (fields_faults path here shape.fields)) whole (fields-same path here shape.fields all keep))
      (subst (λ d. Same (alternative_faults path d shape.alternatives) (alternative_faults path here shape.alternatives)) whole (alternatives-same path here shape.alternatives among each)))
    where
      here : Data
      here = object ms

      there : Data
      there = object (kept_members f ms)

      whole : cut f here ≡ there
      whole = kept-object f is ms

  pub object-same : (shape : Shape) → covers f shape ≡ true → (path : List Step) (d : Data) → AllKeep f shape.fields → EachKeeps f shape.alternatives → Same (object_of shape path (cut f d)) (object_of shape path d)
  object-same shape has path null keep each = refl
  object-same shape has path (boolean b) keep each = refl
  object-same shape has path (number n) keep each = refl
  object-same shape has path (string s) keep each = refl
  object-same shape has path (array ds) keep each = ap (λ d. first_cause (object_of shape path d)) (kept-array f is.closed ds)
  object-same shape has path (object ms) keep each =
      let parts = and_parts (all_among known shape.fields) (each_among known shape.alternatives) has in
      members-same shape path ms parts.0 parts.1 keep each
