-- Cabinets that were read before the version was known: in a version that has their names they are without fault, and say the same.
use Rattle.std.proofs.Common.{◌≡◌, ◌<◌, ◌≤◌, ℕ, ◌+◌, ◌==◌, ◌&&◌, ◌||◌, ◌⊎◌, inl, inr, nat_lt, Bool, true, false, if◌then◌else◌, List, [], ◌∷◌, ◌++◌, Option, Some, None, is_some, unwrap_or, Ordering, Less, Equal, Greater, nat_cmp, bytes_eq, refl, sym, ap, ap₂, ◌∙◌, subst, arith}
use Rattle.std.proofs.lemmas.Cmp.{nat_list_cmp_total, tied_itself}
use Rattle.std.proofs.lemmas.Slice.Eq.{bytes_eq-Decides}
use Rattle.std.specs.Cmp.Lexicographic.{slice_cmp}
use Rattle.std.specs.Ordering.{match_ordering}
use Rattle.serde_json.specs.Data.{Data, null, boolean, number, unsigned, string, array, object, Items, no_items, item, Members, no_members, member}
use Rattle.serde_json.specs.Find.{get, get_member}
use Rattle.scenario_data.specs.Causes.{Cause, Field as FieldCause}
use Rattle.scenario_data.specs.Content.{CabinetContent}
use Rattle.scenario_read.specs.Paths.{Step, path_text, then_named, then_item}
use Rattle.scenario_read.specs.Kinds.{Kind, Fits, Wrong, fault_at, is_among, each}
use Rattle.scenario_read.specs.Fields.{Field, either, held, names, unknown_faults, fields_faults, object_of}
use Rattle.scenario_read.specs.CellLists.{cell_of}
use Rattle.scenario_read.specs.Table.{base, cells, pattern, clock, section, gain, lose, number_at, cabinet}
use Rattle.scenario_read.specs.Content.{whole_of, base_of, list_in, each_of, cabinet_of}
use Rattle.scenario_read.proofs.NameOrder.{not-less, not-greater}
use Rattle.scenario_read.proofs.NoFaults.{none-left, none-both}
use Rattle.scenario_read.proofs.Objects.{both-fields}
use Rattle.scenario_file.specs.declared.found.Reach.{Reach}
use Rattle.scenario_file.specs.Listing.{AsksWithin, AllOf}

-- ---- names that aren't

unequal : (a b : List ℕ) → (slice_cmp nat_cmp a b ≡ Equal → ⊥) → bytes_eq a b ≡ false
unequal a b other = differ (bytes_eq a b) refl
  where
    differ : (same : Bool) → bytes_eq a b ≡ same → same ≡ false
    differ true e = absurd (other (ap (slice_cmp nat_cmp a) (sym ((bytes_eq-Decides a b).0 e)) ∙ tied_itself nat_list_cmp_total a))
    differ false e = refl

-- a name that isn't in an object is not that of the first member, and does not follow it
not-first : (name l : List ℕ) (e : Data) (ms : Members) → get_member name (member l e ms) ≡ None → (bytes_eq name l ≡ false) × (get_member name ms ≡ None)
not-first name l e ms none = at (slice_cmp nat_cmp name l) refl none
  where
    at : (o : Ordering) → slice_cmp nat_cmp name l ≡ o → match_ordering o (get_member name ms) (Some e) (get_member name ms) ≡ None → (bytes_eq name l ≡ false) × (get_member name ms ≡ None)
    at Less is n = (unequal name l (not-less (slice_cmp nat_cmp name l) is), n)
    at Equal is n = absurd (cc)
    at Greater is n = (unequal name l (not-greater (slice_cmp nat_cmp name l) is), n)

-- the names of every version, and those by which a clock drifts
abbrev plain_fields : List Field
plain_fields = base ∷ cells ∷ pattern ∷ clock ∷ section ∷ []

abbrev drifting_fields : List Field
drifting_fields = gain ∷ lose ∷ []

abbrev all_fields : List Field
all_fields = base ∷ cells ∷ pattern ∷ clock ∷ section ∷ gain ∷ lose ∷ []

still-known : (k : List ℕ) → bytes_eq gain.name k ≡ false → bytes_eq lose.name k ≡ false → is_among (names all_fields) k ≡ is_among (names plain_fields) k
still-known k g l =
    ap₂ (λ (a b : Bool). bytes_eq base.name k || (bytes_eq cells.name k || (bytes_eq pattern.name k || (bytes_eq clock.name k || (bytes_eq section.name k || (a || (b || false))))))) g l

pass : (b : Bool) (c : Cause) (xs ys : List Cause) → (if b then xs else (c ∷ xs)) ≡ [] → (xs ≡ [] → ys ≡ []) → (if b then ys else (c ∷ ys)) ≡ []
pass true c xs ys e rest = rest e
pass false c xs ys e rest = absurd (cc)

-- if neither name of a drift is there, the other names are known without these
fewer-names : (path : List Step) (ms : Members) → get_member gain.name ms ≡ None → get_member lose.name ms ≡ None
    → unknown_faults (names all_fields) path ms ≡ [] → unknown_faults (names plain_fields) path ms ≡ []
fewer-names path no_members no-gain no-lose e = refl
fewer-names path (member k d ms) no-gain no-lose e =
    let g = not-first gain.name k d ms no-gain in
    let l = not-first lose.name k d ms no-lose in
    let here = FieldCause (path_text (then_named path k)) in
    let old = unknown_faults (names all_fields) path ms in
    pass (is_among (names plain_fields) k) here old (unknown_faults (names plain_fields) path ms)
    (ap (λ b. if b then old else (here ∷ old)) (sym (still-known k g.0 l.0)) ∙ e) (fewer-names path ms g.1 l.1)

-- ---- a cabinet of a version with these names, or without

abbrev cabinet_by : Bool → Kind
cabinet_by two path d =
    object_of (record { fields = base ∷ cells ∷ pattern ∷ clock ∷ section ∷ (if two then gain ∷ lose ∷ [] else []); alternatives = [] }) path d
    ++ fault_at path (if two && (nat_lt 0 (number_at gain d) && nat_lt 0 (number_at lose d)) then Wrong else Fits)

plain-cabinet : (path : List Step) (d : Data) → get gain.name d ≡ None → get lose.name d ≡ None → cabinet_by true path d ≡ [] → cabinet_by false path d ≡ []
plain-cabinet path null no-gain no-lose e = absurd (cc)
plain-cabinet path (boolean b) no-gain no-lose e = absurd (cc)
plain-cabinet path (number n) no-gain no-lose e = absurd (cc)
plain-cabinet path (string s) no-gain no-lose e = absurd (cc)
plain-cabinet path (array ds) no-gain no-lose e = absurd (cc)
plain-cabinet path (object ms) no-gain no-lose e =
    let d = object ms in
    let drift = fault_at path (if nat_lt 0 (number_at gain d) && nat_lt 0 (number_at lose d) then Wrong else Fits) in
    let a = none-left (unknown_faults (names all_fields) path ms ++ (fields_faults path d all_fields ++ [])) drift e in
    let b = none-left (unknown_faults (names all_fields) path ms) (fields_faults path d all_fields ++ []) a.0 in
    let f = none-left (fields_faults path d all_fields) [] b.1 in
    let g = none-left (fields_faults path d plain_fields) (fields_faults path d drifting_fields) (sym (both-fields path d plain_fields drifting_fields) ∙ f.0) in
    none-both (unknown_faults (names plain_fields) path ms ++ (fields_faults path d plain_fields ++ [])) []
    (none-both (unknown_faults (names plain_fields) path ms) (fields_faults path d plain_fields ++ []) (fewer-names path ms no-gain no-lose b.0)
    (none-both (fields_faults path d plain_fields) [] g.0 refl)) refl

abbrev drifting_content : ℕ → ℕ → Data → CabinetContent
drifting_content g l d = record {
  base = base_of (held base d);
  cells = list_in cell_of (held cells d);
  pattern = number_at pattern d;
  clock = number_at clock d;
  section = number_at section d;
  gain = g;
  lose = l;
}

abbrev content_by : Bool → Data → CabinetContent
content_by two d = drifting_content (if two then number_at gain d else 0) (if two then number_at lose d else 0) d

-- a drift that is not named is 0
abbrev drift_said : Option Data → ℕ
drift_said o = whole_of (unwrap_or (either o (Some (number (unsigned 0)))) null)

plain-content : (d : Data) → get gain.name d ≡ None → get lose.name d ≡ None → content_by false d ≡ content_by true d
plain-content d no-gain no-lose = ap₂ (λ (g l : ℕ). drifting_content g l d) (sym (ap drift_said no-gain)) (sym (ap drift_said no-lose))

-- ---- any version that has the names

not-asked : (o p : Option Data) → (if is_some o || is_some p then 2 else 1) < 2 → (o ≡ None) × (p ≡ None)
not-asked None None h = (refl, refl)
not-asked None (Some e) h = absurd (omega (arith, h))
not-asked (Some d) None h = absurd (omega (arith, h))
not-asked (Some d) (Some e) h = absurd (omega (arith, h))

below : (a b c : ℕ) → a ≤ b → b < c → a < c
below a b c p q = omega (arith, p, q)

-- a scenario of this version has the names of drifts where they are asked for
abbrev pub HasNames : ℕ → Reach → Type 0
HasNames v last = (last.version < 2) ⊎ (v ≡ 2)

in-version : (v : ℕ) (last : Reach) (d : Data) → HasNames v last → AsksWithin true last d
    → ((path : List Step) → cabinet 2 path d ≡ [] → cabinet v path d ≡ []) × (cabinet_of v d ≡ cabinet_of 2 d)
in-version v last d (inr is) asks = (λ path e. subst (λ n. cabinet n path d ≡ []) (sym is) e, ap (λ n. cabinet_of n d) is)
in-version v last d (inl less) asks = by (v == 2)
  where
    none : (get gain.name d ≡ None) × (get lose.name d ≡ None)
    none = not-asked (get gain.name d) (get lose.name d) (below _ last.version 2 asks less)

    by : (two : Bool) → ((path : List Step) → cabinet_by true path d ≡ [] → cabinet_by two path d ≡ []) × (content_by two d ≡ content_by true d)
    by true = (λ path e. e, refl)
    by false = (λ path e. plain-cabinet path d none.0 none.1 e, plain-content d none.0 none.1)

pub each-version : (v : ℕ) (last : Reach) → HasNames v last → (path : List Step) (ds : Items) (place : ℕ) → each (cabinet 2) path place ds ≡ [] → AllOf (AsksWithin true last) ds
    → each (cabinet v) path place ds ≡ []
each-version v last has path no_items place e asks = refl
each-version v last has path (item d ds) place e asks =
    let parts = none-left (cabinet 2 (then_item path place) d) (each (cabinet 2) path (place + 1) ds) e in
    none-both (cabinet v (then_item path place) d) (each (cabinet v) path (place + 1) ds) ((in-version v last d has asks.0).0 (then_item path place) parts.0)
    (each-version v last has path ds (place + 1) parts.1 asks.1)

pub said-version : (v : ℕ) (last : Reach) → HasNames v last → (ds : Items) → AllOf (AsksWithin true last) ds → each_of (cabinet_of v) ds ≡ each_of (cabinet_of 2) ds
said-version v last has no_items asks = refl
said-version v last has (item d ds) asks =
    ap (λ rest. cabinet_of v d ∷ rest) (said-version v last has ds asks.1) ∙ ap (λ c. c ∷ each_of (cabinet_of 2) ds) (in-version v last d has asks.0).1
