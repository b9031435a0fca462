-- The first instance after a name, among the instances of rows under a root.
use Rattle.std.proofs.Common.{◌≡◌, ◌≢◌, ℕ, ◌+◌, ◌<◌, ◌≤◌, true, false, List, [], ◌∷◌, ◌++◌, map, get_or, length, take, drop, Option, Some, None, refl, sym, ap, subst, ◌∙◌, arith}
use Rattle.std.specs.List.{find, flat_map, AllByRecursion}
use Rattle.std.specs.Option.{option_or}
use Rattle.std.proofs.lemmas.List.{take_at, append_assoc, drop_more, drop_all, map-append}
use Rattle.std.proofs.lemmas.List.Folds.{find-append}
use Rattle.arrayvec.specs.ArrayVec.{ArrayVec}
use Rattle.ber_code.specs.Reading.{Gives}
use Rattle.oid_map.specs.declared.objects.Range.{Range}
use Rattle.oid_map.specs.declared.objects.Object.{Object}
use Rattle.oid_map.specs.declared.objects.Object.TheVariants.{Scalar, Scalars, Column as ColumnObject, OneIndex, TwoIndices}
use Rattle.oid_map.specs.declared.objects.TheConstants.{ASC_OBJECTS, OWN_OBJECTS}
use Rattle.oid_map.specs.Order.{is_before}
use Rattle.oid_map.specs.Objects.{Row, ◌to◌, asc, own, numbers, tuples, instances, objects, readable, readable_rows, next_of}
use Rattle.oid_map.specs.Steps.{AreRows, Continues, rest_after, row_of}
use Rattle.oid_map.proofs.Search.{Longer, behind, find_rest}
use Rattle.oid_map.proofs.Ranges.{turned}

pub all_append : {A : Type 0} (P : A → Type 0) (xs ys : List A) → AllByRecursion P xs → AllByRecursion P ys → AllByRecursion P (xs ++ ys)
all_append P [] ys hx hy = hy
all_append P (x ∷ xs) ys hx hy = (hx.0, all_append P xs ys hx.1 hy)

longer_same : (p : List ℕ) (xs : List (List ℕ)) → Longer xs → Longer (map (λ t. p ++ t) xs)
longer_same p [] h = tt
longer_same [] (x ∷ xs) h = (h.0, longer_same [] xs h.1)
longer_same (a ∷ p) (x ∷ xs) h = ((λ e. cc), longer_same (a ∷ p) xs h.1)

longer_cons : (a : ℕ) (xs : List (List ℕ)) → Longer (map (λ t. a ∷ t) xs)
longer_cons a [] = tt
longer_cons a (x ∷ xs) = ((λ e. cc), longer_cons a xs)

longer_turned : (inner : List (List ℕ)) (ns : List ℕ) → Longer (turned inner ns)
longer_turned inner [] = tt
longer_turned inner (n ∷ ns) = all_append (λ t. t ≢ []) (map (λ t. n ∷ t) inner) (turned inner ns) (longer_cons n inner) (longer_turned inner ns)

pub longer_tuples : (ranges : List Range) → 1 ≤ length ranges → Longer (tuples ranges)
longer_tuples [] h = absurd (omega arith)
longer_tuples (r ∷ rs) h = longer_turned (tuples rs) (numbers r)

longer_instances : (object : Object) → Longer (instances (row_of object))
longer_instances (Scalar group n) = longer_same (group ∷ []) _ (longer_turned (tuples (0 to 0 ∷ [])) (numbers (n to n)))
longer_instances (Scalars group ns) = longer_same (group ∷ []) _ (longer_turned (tuples (0 to 0 ∷ [])) (numbers ns))
longer_instances (ColumnObject entry rows) = longer_same entry _ (longer_turned (tuples []) (numbers rows))
longer_instances (OneIndex entry columns rows) = longer_same entry _ (longer_turned (tuples (rows ∷ [])) (numbers columns))
longer_instances (TwoIndices entry columns rows subs) = longer_same entry _ (longer_turned (tuples (rows ∷ subs ∷ [])) (numbers columns))

-- the instances of objects, without their root
abbrev pub all_of : List Object → List (List ℕ)
all_of os = flat_map instances (map row_of os)

longer_all : (os : List Object) → Longer (all_of os)
longer_all [] = tt
longer_all (o ∷ os) = all_append (λ t. t ≢ []) (instances (row_of o)) (all_of os) (longer_instances o) (longer_all os)

-- one row: there is no rest of the name
pub row_past : (old : List ℕ) (arcs name : List ℕ) (ranges : List Range) → 1 ≤ length ranges → rest_after arcs name ≡ None
    → Continues old old false (find (is_before name) (map (λ t. arcs ++ t) (tuples ranges)))
row_past old arcs name ranges some e = rw (find_rest arcs name (tuples ranges) (longer_tuples ranges some), e) refl

-- one row: some indices come after the rest of the name
pub row_found : (old mid new arcs name rest : List ℕ) (ranges : List Range) → 1 ≤ length ranges → rest_after arcs name ≡ Some rest → mid ≡ old ++ arcs
    → Continues mid new true (find (is_before rest) (tuples ranges)) → Continues old new true (find (is_before name) (map (λ t. arcs ++ t) (tuples ranges)))
row_found old mid new arcs name rest ranges some e em k =
    rw (find_rest arcs name (tuples ranges) (longer_tuples ranges some), e) (split (find (is_before rest) (tuples ranges)) k)
  where
    split : (o : Option (List ℕ)) → Continues mid new true o → Continues old new true (behind arcs o)
    split None j = absurd j
    split (Some t) j = j ∙ rw em (append_assoc old arcs t)

-- one row: none come after it
pub row_ended : (old mid new cut arcs name rest : List ℕ) (ranges : List Range) → 1 ≤ length ranges → rest_after arcs name ≡ Some rest → mid ≡ old ++ arcs
    → Continues mid new false (find (is_before rest) (tuples ranges)) → cut ≡ take (length old) new
    → Continues old cut false (find (is_before name) (map (λ t. arcs ++ t) (tuples ranges)))
row_ended old mid new cut arcs name rest ranges some e em k ec =
    rw (find_rest arcs name (tuples ranges) (longer_tuples ranges some), e) (split (find (is_before rest) (tuples ranges)) k)
  where
    split : (o : Option (List ℕ)) → Continues mid new false o → Continues old cut false (behind arcs o)
    split None j = ec ∙ rw (j, em) (take_at old arcs (length old) refl)
    split (Some t) j = absurd j

-- objects under a root: the name comes after all of them
pub root_past : (root name : List ℕ) (os : List Object) → rest_after root name ≡ None → find (is_before name) (map (λ t. root ++ t) (all_of os)) ≡ None
root_past root name os e = rw (find_rest root name (all_of os) (longer_all os), e) refl

-- the objects from the i-th on find what all of them find
pub Goes : List ℕ → List Object → ℕ → Type 0
Goes rest os i = find (is_before rest) (all_of (drop i os)) ≡ find (is_before rest) (all_of os)

pub goes_first : (rest : List ℕ) (os : List Object) → Goes rest os 0
unfolding Goes
goes_first rest os = refl

-- the first of them
at_object : (rest : List ℕ) (os : List Object) (i : ℕ) (d : Object) → i < length os
    → find (is_before rest) (all_of (drop i os)) ≡ option_or (find (is_before rest) (instances (row_of (get_or os i d)))) (find (is_before rest) (all_of (drop (i + 1) os)))
at_object rest os i d h =
    rw (drop_more os i d h) (find-append (is_before rest) (instances (row_of (get_or os i d))) (all_of (drop (i + 1) os)))

pub goes_on : (old new rest : List ℕ) (os : List Object) (i : ℕ) (d : Object) → i < length os
    → Continues old new false (find (is_before rest) (instances (row_of (get_or os i d)))) → Goes rest os i → Goes rest os (i + 1)
unfolding Goes
goes_on old new rest os i d h k g = split (find (is_before rest) (instances (row_of (get_or os i d)))) k (at_object rest os i d h) ∙ g
  where
    split : (o : Option (List ℕ)) → Continues old new false o → find (is_before rest) (all_of (drop i os)) ≡ option_or o (find (is_before rest) (all_of (drop (i + 1) os)))
        → find (is_before rest) (all_of (drop (i + 1) os)) ≡ find (is_before rest) (all_of (drop i os))
    split None j e = sym e
    split (Some t) j e = absurd j

pub unchanged : (old new : List ℕ) (o : Option (List ℕ)) → Continues old new false o → new ≡ old
unchanged old new None h = h
unchanged old new (Some t) h = absurd h

pub rows_on : (os : List Object) (i : ℕ) (d : Object) → i < length os → AreRows (drop i os) → AreRows (drop (i + 1) os)
rows_on os i d h rows = (subst AreRows (drop_more os i d h) rows).1

pub root_found : (root name rest old new : List ℕ) (os : List Object) (i : ℕ) (d : Object) → rest_after root name ≡ Some rest → old ≡ root → i < length os
    → Continues old new true (find (is_before rest) (instances (row_of (get_or os i d)))) → Goes rest os i
    → find (is_before name) (map (λ t. root ++ t) (all_of os)) ≡ Some new
unfolding Goes
root_found root name rest old new os i d e eo h k g =
    rw (find_rest root name (all_of os) (longer_all os), e, ← g, at_object rest os i d h) (split (find (is_before rest) (instances (row_of (get_or os i d)))) k)
  where
    split : (o : Option (List ℕ)) → Continues old new true o → behind root (option_or o (find (is_before rest) (all_of (drop (i + 1) os)))) ≡ Some new
    split None j = absurd j
    split (Some t) j = ap Some (rw (← eo) (sym j))

pub root_ended : (root name rest : List ℕ) (os : List Object) (i : ℕ) → rest_after root name ≡ Some rest → length os ≤ i → Goes rest os i
    → find (is_before name) (map (λ t. root ++ t) (all_of os)) ≡ None
unfolding Goes
root_ended root name rest os i e h g =
    let none : drop i os ≡ [] = drop_all i os h in
    rw (find_rest root name (all_of os) (longer_all os), e, ← g, none) refl

-- a row under a root
abbrev rooted : List ℕ → Row → Row
rooted root row = record { arcs = root ++ row.arcs; indices = row.indices; readable = row.readable }

instances_rooted : (root : List ℕ) (row : Row) → instances (rooted root row) ≡ map (λ t. root ++ t) (instances row)
instances_rooted root row = go (tuples row.indices)
  where
    go : (ts : List (List ℕ)) → map (λ t. (root ++ row.arcs) ++ t) ts ≡ map (λ t. root ++ t) (map (λ t. row.arcs ++ t) ts)
    go [] = refl
    go (t ∷ ts) = rw (append_assoc root row.arcs t, go ts) refl

all_rooted : (root : List ℕ) (os : List Object) → flat_map instances (map (λ o. rooted root (row_of o)) os) ≡ map (λ t. root ++ t) (all_of os)
all_rooted root [] = refl
all_rooted root (o ∷ os) = rw (instances_rooted root (row_of o), all_rooted root os) (sym (map-append (λ t. root ++ t) (instances (row_of o)) (all_of os)))

-- the code's tables are the readable rows
same_rows : readable_rows ≡ map (λ o. rooted asc (row_of o)) ASC_OBJECTS ++ map (λ o. rooted own (row_of o)) OWN_OBJECTS
unfolding objects
same_rows = refl

both : (xs ys : List Row) → flat_map instances (xs ++ ys) ≡ flat_map instances xs ++ flat_map instances ys
both [] ys = refl
both (x ∷ xs) ys = rw (both xs ys) (sym (append_assoc (instances x) (flat_map instances xs) (flat_map instances ys)))

joined : (p q : List ℕ) (xs ys : List Object) → flat_map instances (map (λ o. rooted p (row_of o)) xs ++ map (λ o. rooted q (row_of o)) ys)
    ≡ map (λ t. p ++ t) (all_of xs) ++ map (λ t. q ++ t) (all_of ys)
joined p q xs ys =
    both (map (λ o. rooted p (row_of o)) xs) (map (λ o. rooted q (row_of o)) ys)
    ∙ rw (all_rooted p xs, all_rooted q ys) refl

pub readable_is : readable ≡ map (λ t. asc ++ t) (all_of ASC_OBJECTS) ++ map (λ t. own ++ t) (all_of OWN_OBJECTS)
unfolding readable
readable_is = ap (flat_map instances) same_rows ∙ joined asc own ASC_OBJECTS OWN_OBJECTS

-- what is found under the first root, or else under the second
pub next_is : (name : List ℕ) → find (is_before name) readable
    ≡ option_or (find (is_before name) (map (λ t. asc ++ t) (all_of ASC_OBJECTS))) (find (is_before name) (map (λ t. own ++ t) (all_of OWN_OBJECTS)))
next_is name = ap (find (is_before name)) readable_is ∙ find-append (is_before name) (map (λ t. asc ++ t) (all_of ASC_OBJECTS)) (map (λ t. own ++ t) (all_of OWN_OBJECTS))

-- what was found under the first root, or else what is found under the second
first_or : Option (List ℕ) → List ℕ → Option (List ℕ)
first_or o name = option_or o (find (is_before name) (map (λ t. own ++ t) (all_of OWN_OBJECTS)))

pub next_first : (name found : List ℕ) → find (is_before name) (map (λ t. asc ++ t) (all_of ASC_OBJECTS)) ≡ Some found → next_of name ≡ Some found
unfolding first_or
next_first name found h = next_is name ∙ ap (λ (o : Option (List ℕ)). first_or o name) h

pub next_second : (name : List ℕ) (result : Option (ArrayVec ℕ)) → find (is_before name) (map (λ t. asc ++ t) (all_of ASC_OBJECTS)) ≡ None
    → Gives (λ o. o.items) result (find (is_before name) (map (λ t. own ++ t) (all_of OWN_OBJECTS))) → Gives (λ o. o.items) result (next_of name)
unfolding first_or
next_second name result h g =
    let second : next_of name ≡ find (is_before name) (map (λ t. own ++ t) (all_of OWN_OBJECTS)) = next_is name ∙ ap (λ (o : Option (List ℕ)). first_or o name) h in
    subst (λ (o : Option (List ℕ)). Gives (λ (a : ArrayVec ℕ). a.items) result o) (sym second) g

pub longer_readable : Longer readable
longer_readable = subst Longer (sym readable_is)
    (all_append (λ t. t ≢ []) (map (λ t. asc ++ t) (all_of ASC_OBJECTS)) (map (λ t. own ++ t) (all_of OWN_OBJECTS))
    (longer_same asc (all_of ASC_OBJECTS) (longer_all ASC_OBJECTS)) (longer_same own (all_of OWN_OBJECTS) (longer_all OWN_OBJECTS)))
