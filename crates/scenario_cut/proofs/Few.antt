-- Of the names that an object may not have only the first is kept: what is at the others stays, and so does the first
-- name at fault.
use Rattle.std.proofs.Common.{◌≡◌, ℕ, Bool, true, false, ◌&&◌, ◌||◌, if◌then◌else◌, List, [], ◌∷◌, ◌++◌, filter, Some, unwrap_or, Ordering, Less, Equal, Greater, nat_cmp, bytes_eq, is_eq, refl, sym, ap, ◌∙◌, subst}
use Rattle.std.proofs.lemmas.Bool.{and_parts, and_from}
use Rattle.std.proofs.lemmas.Map.Text.{is_eq-slice_cmp}
use Rattle.std.proofs.lemmas.Slice.Eq.{bytes_eq-Decides}
use Rattle.std.specs.Cmp.Lexicographic.{slice_cmp}
use Rattle.std.specs.Ordering.{match_ordering}
use Rattle.serde_json.specs.Data.{Data, null, Members, no_members, member}
use Rattle.serde_json.specs.Find.{get_member}
use Rattle.scenario_data.specs.Causes.{Cause, Field as FieldCause}
use Rattle.scenario_read.specs.Paths.{Step, path_text, then_named}
use Rattle.scenario_read.specs.Kinds.{is_among}
use Rattle.scenario_read.specs.Fields.{Field, Shape, stands, only_one, all_of, known_fields, names, unknown_faults}
use Rattle.scenario_cut.specs.Cutting.{Form, names_at, only, few}
use Rattle.scenario_cut.proofs.Same.{Same}

pub equal-names : (a b : List ℕ) → slice_cmp nat_cmp a b ≡ Equal → a ≡ b
equal-names a b is = (bytes_eq-Decides a b).0 (sym (is_eq-slice_cmp a b) ∙ ap is_eq is)

-- each of these fields has one of the names
abbrev pub all_among : List (List ℕ) → List Field → Bool
all_among known [] = true
all_among known (field ∷ fields) = is_among known field.name && all_among known fields

abbrev pub each_among : List (List ℕ) → List (List Field) → Bool
each_among known [] = true
each_among known (fields ∷ more) = all_among known fields && each_among known more

-- an object of the shape has no other names than an object there may have
abbrev pub covers : Form → Shape → Bool
covers f shape = all_among (names_at f) shape.fields && each_among (names_at f) shape.alternatives

module _ (known : List (List ℕ)) where
  -- ---- the fields of a shape

  both-among : (xs ys : List Field) → all_among known xs ≡ true → all_among known ys ≡ true → all_among known (xs ++ ys) ≡ true
  both-among [] ys a b = b
  both-among (field ∷ xs) ys a b =
      let parts = and_parts (is_among known field.name) (all_among known xs) a in
      and_from (is_among known field.name) (all_among known (xs ++ ys)) parts.0 (both-among xs ys parts.1 b)

  all-of-among : (all : List (List Field)) → each_among known all ≡ true → all_among known (all_of all) ≡ true
  all-of-among [] e = refl
  all-of-among (fields ∷ more) e =
      let parts = and_parts (all_among known fields) (each_among known more) e in
      both-among fields (all_of more) parts.0 (all-of-among more parts.1)

  pub left-among : (goes : List Field → Bool) (all : List (List Field)) → each_among known all ≡ true → each_among known (filter goes all) ≡ true
  left-among goes [] e = refl
  left-among goes (fields ∷ more) e =
      let parts = and_parts (all_among known fields) (each_among known more) e in
      pick (goes fields) parts.0 (left-among goes more parts.1)
    where
      pick : (b : Bool) → all_among known fields ≡ true → each_among known (filter goes more) ≡ true → each_among known (if b then fields ∷ filter goes more else filter goes more) ≡ true
      pick true here later = and_from (all_among known fields) (each_among known (filter goes more)) here later
      pick false here later = later

  pub one-among : (some : List (List Field)) (rest : List Field) → each_among known some ≡ true → all_among known rest ≡ true → all_among known (unwrap_or (only_one some) rest) ≡ true
  one-among [] rest e r = r
  one-among (a ∷ []) rest e r = (and_parts (all_among known a) true e).0
  one-among (a ∷ b ∷ more) rest e r = r

  pub known-among : (shape : Shape) (d : Data) → all_among known shape.fields ≡ true → each_among known shape.alternatives ≡ true → all_among known (known_fields shape d) ≡ true
  known-among shape d fields each =
      both-among shape.fields (unwrap_or (only_one (filter (stands d) shape.alternatives)) (all_of shape.alternatives)) fields
      (one-among (filter (stands d) shape.alternatives) (all_of shape.alternatives) (left-among (stands d) shape.alternatives each) (all-of-among shape.alternatives each))

  in-names : (fields : List Field) → all_among known fields ≡ true → (name : List ℕ) → is_among (names fields) name ≡ true → is_among known name ≡ true
  in-names [] all name e = absurd (cc)
  in-names (field ∷ fields) all name e =
      let parts = and_parts (is_among known field.name) (all_among known fields) all in
      at parts.0 (in-names fields parts.1 name) (bytes_eq field.name name) refl e
    where
      at : is_among known field.name ≡ true → (is_among (names fields) name ≡ true → is_among known name ≡ true) → (b : Bool) → bytes_eq field.name name ≡ b → (b || is_among (names fields) name) ≡ true → is_among known name ≡ true
      at here later true is k = subst (λ n. is_among known n ≡ true) ((bytes_eq-Decides field.name name).0 is) here
      at here later false is k = later k

  not-in-names : (fields : List Field) → all_among known fields ≡ true → (name : List ℕ) → is_among known name ≡ false → is_among (names fields) name ≡ false
  not-in-names fields all name none = at (is_among (names fields) name) refl
    where
      at : (b : Bool) → is_among (names fields) name ≡ b → b ≡ false
      at true is = sym (in-names fields all name is) ∙ none
      at false is = refl

  -- ---- what is at a known name

  other-at : (name k : List ℕ) (d : Data) (ms : Members) → is_among known name ≡ true → is_among known k ≡ false → get_member name (member k d ms) ≡ get_member name ms
  other-at name k d ms has none = at (slice_cmp nat_cmp name k) refl
    where
      at : (o : Ordering) → slice_cmp nat_cmp name k ≡ o → match_ordering o (get_member name ms) (Some d) (get_member name ms) ≡ get_member name ms
      at Less is = refl
      at Equal is = let clash : true ≡ false = sym has ∙ ap (is_among known) (equal-names name k is) ∙ none in absurd (cc)
      at Greater is = refl

  get-only : (name : List ℕ) → is_among known name ≡ true → (ms : Members) → get_member name (only known ms) ≡ get_member name ms
  get-only name has no_members = refl
  get-only name has (member k d ms) = at (is_among known k) refl (get-only name has ms)
    where
      at : (b : Bool) → is_among known k ≡ b → get_member name (only known ms) ≡ get_member name ms
          → get_member name (if b then member k d (only known ms) else only known ms) ≡ get_member name (member k d ms)
      at true is later = ap (λ o. match_ordering (slice_cmp nat_cmp name k) o (Some d) o) later
      at false is later = later ∙ sym (other-at name k d ms has is)

  pub get-few : (name : List ℕ) → is_among known name ≡ true → (ms : Members) → get_member name (few known ms) ≡ get_member name ms
  get-few name has no_members = refl
  get-few name has (member k d ms) = at (is_among known k) refl (get-few name has ms)
    where
      at : (b : Bool) → is_among known k ≡ b → get_member name (few known ms) ≡ get_member name ms
          → get_member name (if b then member k d (few known ms) else member k null (only known ms)) ≡ get_member name (member k d ms)
      at true is later = ap (λ o. match_ordering (slice_cmp nat_cmp name k) o (Some d) o) later
      at false is later = other-at name k null (only known ms) has is ∙ get-only name has ms ∙ sym (other-at name k d ms has is)

  -- ---- the names at fault

  module _ (fields : List Field) (all : all_among known fields ≡ true) (path : List Step) where
    abbrev unknown : Members → List Cause
    unknown ms = unknown_faults (names fields) path ms

    abbrev unless : Bool → List ℕ → List Cause → List Cause
    unless b name causes = if b then causes else FieldCause (path_text (then_named path name)) ∷ causes

    pub unknown-few : (ms : Members) → Same (unknown (few known ms)) (unknown ms)
    unknown-few no_members = refl
    unknown-few (member name d ms) = at (is_among known name) refl (unknown-few ms)
      where
        pick : (b : Bool) → Same (unknown (few known ms)) (unknown ms) → Same (unless b name (unknown (few known ms))) (unless b name (unknown ms))
        pick true later = later
        pick false later = refl

        at : (b : Bool) → is_among known name ≡ b → Same (unknown (few known ms)) (unknown ms)
            → Same (unknown (if b then member name d (few known ms) else member name null (only known ms))) (unless (is_among (names fields) name) name (unknown ms))
        at true is later = pick (is_among (names fields) name) later
        at false is later = rw (not-in-names fields all name is) refl

    -- where all names are known, all are kept
    pub whole-few : (ms : Members) → unknown ms ≡ [] → few known ms ≡ ms
    whole-few no_members e = refl
    whole-few (member name d ms) e = at (is_among (names fields) name) refl e (whole-few ms)
      where
        at : (b : Bool) → is_among (names fields) name ≡ b → unless b name (unknown ms) ≡ [] → (unknown ms ≡ [] → few known ms ≡ ms)
            → (if is_among known name then member name d (few known ms) else member name null (only known ms)) ≡ member name d ms
        at true is h later = ap (λ b. if b then member name d (few known ms) else member name null (only known ms)) (in-names fields all name is) ∙ ap (member name d) (later h)
        at false is h later = absurd (cc)
