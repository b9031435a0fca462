-- A value without faults has no float: what is at each name is a whole number, a word, a flag, a list of these or an
-- object of these.
use Rattle.std.proofs.Common.{◌≡◌, ℕ, ◌+◌, Bool, true, false, ◌||◌, if◌then◌else◌, List, [], ◌∷◌, ◌++◌, filter, Option, Some, None, unwrap_or, bytes_eq, refl, sym, ap, ◌∙◌, subst}
use Rattle.std.proofs.lemmas.Slice.Eq.{bytes_eq-Decides}
use Rattle.serde_json.specs.Data.{unsigned, negative, float, Data, null, boolean, number, string, array, object, Items, no_items, item, Members, no_members, member}
use Rattle.serde_json.specs.Find.{get_member, get}
use Rattle.serde_json.specs.Written.{has_float, items_have_float, members_have_float}
use Rattle.scenario_data.specs.Causes.{Cause, Field as FieldCause}
use Rattle.scenario_read.specs.Paths.{Step, path_text, then_named, then_item}
use Rattle.scenario_read.specs.Kinds.{Kind, is_among, whole, rare, text, word, flag, each, list_of, each_behind, list_behind}
use Rattle.scenario_read.specs.Fields.{Field, Shape, either, faults_of, field_faults, fields_faults, stands, only_one, all_of, known_fields, names, unknown_faults, chosen_faults, alternative_faults, object_of}
use Rattle.scenario_read.specs.CellLists.{hex_text}
use Rattle.scenario_read.specs.Sorted.{Sorted, ItemsSorted, MembersSorted}
use Rattle.scenario_read.proofs.NameOrder.{AllFound, all-found}
use Rattle.scenario_read.proofs.NoFaults.{none-left, both-faultless}

-- a value of the kind that has no faults has no float
abbrev pub Floatless : Kind → Type 0
Floatless kind = (path : List Step) (d : Data) → Sorted d → kind path d ≡ [] → has_float d ≡ false

pub whole-floatless : (least most : ℕ) → Floatless (whole least most)
whole-floatless least most path null sorted e = refl
whole-floatless least most path (boolean b) sorted e = refl
whole-floatless least most path (number (unsigned n)) sorted e = refl
whole-floatless least most path (number (negative z)) sorted e = refl
whole-floatless least most path (number (float x)) sorted e = absurd (cc)
whole-floatless least most path (string s) sorted e = refl
whole-floatless least most path (array ds) sorted e = absurd (cc)
whole-floatless least most path (object ms) sorted e = absurd (cc)

pub rare-floatless : (least most : ℕ) → Floatless (rare least most)
rare-floatless least most path null sorted e = refl
rare-floatless least most path (boolean b) sorted e = refl
rare-floatless least most path (number (unsigned n)) sorted e = refl
rare-floatless least most path (number (negative z)) sorted e = refl
rare-floatless least most path (number (float x)) sorted e = absurd (cc)
rare-floatless least most path (string s) sorted e = refl
rare-floatless least most path (array ds) sorted e = absurd (cc)
rare-floatless least most path (object ms) sorted e = absurd (cc)

pub text-floatless : (least most : ℕ) → Floatless (text least most)
text-floatless least most path null sorted e = refl
text-floatless least most path (boolean b) sorted e = refl
text-floatless least most path (number n) sorted e = absurd (cc)
text-floatless least most path (string s) sorted e = refl
text-floatless least most path (array ds) sorted e = absurd (cc)
text-floatless least most path (object ms) sorted e = absurd (cc)

pub hex-floatless : (most : ℕ) → Floatless (hex_text most)
hex-floatless most path null sorted e = refl
hex-floatless most path (boolean b) sorted e = refl
hex-floatless most path (number n) sorted e = absurd (cc)
hex-floatless most path (string s) sorted e = refl
hex-floatless most path (array ds) sorted e = absurd (cc)
hex-floatless most path (object ms) sorted e = absurd (cc)

-- what else may be at fault after a kind's own faults
pub more-floatless : (kind : Kind) (more : List Step → Data → List Cause) → Floatless kind → Floatless (λ path d. kind path d ++ more path d)
more-floatless kind more good path d sorted e = good path d sorted (none-left (kind path d) (more path d) e).0

pub word-floatless : (words : List (List ℕ)) → Floatless (word words)
word-floatless words path null sorted e = refl
word-floatless words path (boolean b) sorted e = refl
word-floatless words path (number n) sorted e = absurd (cc)
word-floatless words path (string s) sorted e = refl
word-floatless words path (array ds) sorted e = absurd (cc)
word-floatless words path (object ms) sorted e = absurd (cc)

pub flag-floatless : Floatless flag
flag-floatless path null sorted e = refl
flag-floatless path (boolean b) sorted e = refl
flag-floatless path (number n) sorted e = absurd (cc)
flag-floatless path (string s) sorted e = refl
flag-floatless path (array ds) sorted e = absurd (cc)
flag-floatless path (object ms) sorted e = absurd (cc)

each-floatless : (kind : Kind) → Floatless kind → (path : List Step) (place : ℕ) (ds : Items) → ItemsSorted ds → each kind path place ds ≡ [] → items_have_float ds ≡ false
each-floatless kind good path place no_items sorted e = refl
each-floatless kind good path place (item d ds) sorted e =
    let parts = none-left (kind (then_item path place) d) (each kind path (place + 1) ds) e in
    rw (good (then_item path place) d sorted.0 parts.0) (each-floatless kind good path (place + 1) ds sorted.1 parts.1)

pub list-floatless : (least most : ℕ) (kind : Kind) → Floatless kind → Floatless (list_of least most kind)
list-floatless least most kind good path null sorted e = refl
list-floatless least most kind good path (boolean b) sorted e = refl
list-floatless least most kind good path (number n) sorted e = absurd (cc)
list-floatless least most kind good path (string s) sorted e = refl
list-floatless least most kind good path (array ds) sorted e = each-floatless kind good path 0 ds sorted (none-left _ _ e).1
list-floatless least most kind good path (object ms) sorted e = absurd (cc)

behind-floatless : {A : Type 0} (kind : List A → Kind) (says : Data → A) → ((earlier : List A) → Floatless (kind earlier)) → (path : List Step) (place : ℕ) (earlier : List A) (ds : Items)
    → ItemsSorted ds → each_behind kind says path place earlier ds ≡ [] → items_have_float ds ≡ false
behind-floatless kind says good path place earlier no_items sorted e = refl
behind-floatless kind says good path place earlier (item d ds) sorted e =
    let next = earlier ++ says d ∷ [] in
    let parts = none-left (kind earlier (then_item path place) d) (each_behind kind says path (place + 1) next ds) e in
    rw (good earlier (then_item path place) d sorted.0 parts.0) (behind-floatless kind says good path (place + 1) next ds sorted.1 parts.1)

pub list-behind-floatless : {A : Type 0} (kind : List A → Kind) (says : Data → A) → ((earlier : List A) → Floatless (kind earlier)) → Floatless (list_behind kind says)
list-behind-floatless kind says good path null sorted e = refl
list-behind-floatless kind says good path (boolean b) sorted e = refl
list-behind-floatless kind says good path (number n) sorted e = absurd (cc)
list-behind-floatless kind says good path (string s) sorted e = refl
list-behind-floatless kind says good path (array ds) sorted e = behind-floatless kind says good path 0 [] ds sorted e
list-behind-floatless kind says good path (object ms) sorted e = absurd (cc)

-- ---- the members of an object

-- all fields are of kinds without floats
abbrev pub AllFloatless : List Field → Type 0
AllFloatless [] = Unit {0}
AllFloatless (f ∷ fields) = Floatless f.kind × AllFloatless fields

abbrev pub EachFloatless : List (List Field) → Type 0
EachFloatless [] = Unit {0}
EachFloatless (fields ∷ more) = AllFloatless fields × EachFloatless more

both-floatless : (xs ys : List Field) → AllFloatless xs → AllFloatless ys → AllFloatless (xs ++ ys)
both-floatless [] ys a b = b
both-floatless (f ∷ xs) ys a b = (a.0, both-floatless xs ys a.1 b)

-- what is at a known name has no float
at-known : (path : List Step) (d : Data) (fields : List Field) → AllFloatless fields → fields_faults path d fields ≡ []
    → (name : List ℕ) (v : Data) → is_among (names fields) name ≡ true → get name d ≡ Some v → Sorted v → has_float v ≡ false
at-known path d [] good e name v known found sorted = absurd (cc)
at-known path d (f ∷ fields) good e name v known found sorted =
    let parts = none-left (field_faults path d f) (fields_faults path d fields) e in
    choose parts.0 (λ k. at-known path d fields good.1 parts.1 name v k found sorted) (bytes_eq f.name name) refl known
  where
    choose : field_faults path d f ≡ [] → (is_among (names fields) name ≡ true → has_float v ≡ false) → (b : Bool)
        → bytes_eq f.name name ≡ b → (b || is_among (names fields) name) ≡ true → has_float v ≡ false
    choose here later true is k =
        let same : f.name ≡ name = (bytes_eq-Decides f.name name).0 is in
        let stood : get f.name d ≡ Some v = ap (λ n. get n d) same ∙ found in
        good.0 (then_named path f.name) v sorted (sym (ap (λ o. faults_of f.kind (then_named path f.name) (either o f.default)) stood) ∙ here)
    choose here later false is k = later k

unknown-none : (known : List (List ℕ)) (path : List Step) (all ms : Members) → unknown_faults known path ms ≡ [] → MembersSorted ms → AllFound all ms
    → ((name : List ℕ) (v : Data) → is_among known name ≡ true → get_member name all ≡ Some v → Sorted v → has_float v ≡ false) → members_have_float ms ≡ false
unknown-none known path all no_members e sorted found good = refl
unknown-none known path all (member name d ms) e sorted found good = choose (λ k. unknown-none known path all ms k sorted.2 found.1 good) (is_among known name) refl e
  where
    choose : (unknown_faults known path ms ≡ [] → members_have_float ms ≡ false) → (b : Bool) → is_among known name ≡ b
        → (if b then unknown_faults known path ms else (FieldCause (path_text (then_named path name)) ∷ unknown_faults known path ms)) ≡ [] → (has_float d || members_have_float ms) ≡ false
    choose rest true is k = rw (good name d is found.0 sorted.0) (rest k)
    choose rest false is k = absurd (cc)

picked : (b : Bool) (fields : List Field) (more : List (List Field)) → AllFloatless fields → EachFloatless more → EachFloatless (if b then fields ∷ more else more)
picked true fields more here rest = (here, rest)
picked false fields more here rest = rest

kept-floatless : (d : Data) (alternatives : List (List Field)) → EachFloatless alternatives → EachFloatless (filter (stands d) alternatives)
kept-floatless d [] good = tt
kept-floatless d (fields ∷ more) good = picked (stands d fields) fields (filter (stands d) more) good.0 (kept-floatless d more good.1)

inside : (a b : List Field) → Some a ≡ Some b → a ≡ b
inside a b e = cc

one-floatless : (alternatives : List (List Field)) (fields : List Field) → EachFloatless alternatives → only_one alternatives ≡ Some fields → AllFloatless fields
one-floatless [] fields good e = absurd (cc)
one-floatless (a ∷ []) fields good e = subst AllFloatless (inside a fields e) good.0
one-floatless (a ∷ b ∷ more) fields good e = absurd (cc)

only-floatless : (d : Data) (alternatives : List (List Field)) (fields : List Field) → EachFloatless alternatives → only_one (filter (stands d) alternatives) ≡ Some fields → AllFloatless fields
only-floatless d alternatives fields good is = one-floatless (filter (stands d) alternatives) fields (kept-floatless d alternatives good) is

-- the known fields of a faultless object have no faults, and are of kinds without floats
known-faultless : (shape : Shape) (path : List Step) (d : Data) → AllFloatless shape.fields → EachFloatless shape.alternatives
    → fields_faults path d shape.fields ≡ [] → alternative_faults path d shape.alternatives ≡ []
    → AllFloatless (known_fields shape d) × (fields_faults path d (known_fields shape d) ≡ [])
known-faultless shape path d good goods e f = at shape.alternatives goods f
  where
    at : (alternatives : List (List Field)) → EachFloatless alternatives → alternative_faults path d alternatives ≡ []
        → AllFloatless (shape.fields ++ unwrap_or (only_one (filter (stands d) alternatives)) (all_of alternatives))
        × (fields_faults path d (shape.fields ++ unwrap_or (only_one (filter (stands d) alternatives)) (all_of alternatives)) ≡ [])
    at [] g h = (both-floatless shape.fields [] good tt, both-faultless path d shape.fields [] e refl)
    at (a ∷ more) g h = choose (only_one (filter (stands d) (a ∷ more))) refl h
      where
        choose : (o : Option (List Field)) → only_one (filter (stands d) (a ∷ more)) ≡ o → chosen_faults path d o ≡ []
            → AllFloatless (shape.fields ++ unwrap_or o (all_of (a ∷ more))) × (fields_faults path d (shape.fields ++ unwrap_or o (all_of (a ∷ more))) ≡ [])
        choose None is k = absurd (cc)
        choose (Some fields) is k = (both-floatless shape.fields fields good (only-floatless d (a ∷ more) fields g is), both-faultless path d shape.fields fields e k)

pub object-floatless : (shape : Shape) → AllFloatless shape.fields → EachFloatless shape.alternatives → Floatless (object_of shape)
object-floatless shape good goods path null sorted e = refl
object-floatless shape good goods path (boolean b) sorted e = refl
object-floatless shape good goods path (number n) sorted e = absurd (cc)
object-floatless shape good goods path (string s) sorted e = refl
object-floatless shape good goods path (array ds) sorted e = absurd (cc)
object-floatless shape good goods path (object ms) sorted e =
    let d = object ms in
    let front = none-left (unknown_faults (names (known_fields shape d)) path ms) (fields_faults path d shape.fields ++ alternative_faults path d shape.alternatives) e in
    let back = none-left (fields_faults path d shape.fields) (alternative_faults path d shape.alternatives) front.1 in
    let known = known-faultless shape path d good goods back.0 back.1 in
    unknown-none (names (known_fields shape d)) path ms ms front.0 sorted (all-found ms sorted) (at-known path d (known_fields shape d) known.0 known.1)
