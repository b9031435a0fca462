-- What is found first in a list that rises, and a walk from each found name to the next.
use Rattle.std.proofs.Common.{◌≡◌, inl, inr, ℕ, Bool, true, false, cond, List, [], ◌∷◌, ◌++◌, Option, Some, None, refl, sym, subst, ◌∙◌}
use Rattle.std.specs.List.{find, AllByRecursion}
use Rattle.std.specs.Prelude.{IfSome, IfNone}
use Rattle.std.proofs.lemmas.Bool.{both_ways}
use Rattle.oid_map.specs.Order.{is_before, IsRising, IsAmong}
use Rattle.std.proofs.lemmas.List.{append_assoc}
use Rattle.oid_map.specs.Objects.{readable, IsWalk}
use Rattle.oid_map.proofs.Search.{Longer}
use Rattle.oid_map.proofs.Rows.{longer_readable}
use Rattle.oid_map.proofs.Rising.{BeforeAll, readable_rises, not_before_itself, not_both_ways}

pub found_among : (test : List ℕ → Bool) (xs : List (List ℕ)) → IfSome (find test xs) (λ n. IsAmong n xs)
found_among test [] = tt
found_among test (x ∷ xs) = split (test x) (find test xs) (found_among test xs)
  where
    split : (b : Bool) (o : Option (List ℕ)) → IfSome o (λ n. IsAmong n xs) → IfSome (cond b (Some x) o) (λ n. IsAmong n (x ∷ xs))
    split true o h = inl refl
    split false None h = tt
    split false (Some n) h = inr h

pub found_passes : (test : List ℕ → Bool) (xs : List (List ℕ)) → IfSome (find test xs) (λ n. test n ≡ true)
found_passes test [] = tt
found_passes test (x ∷ xs) = split (test x) refl (found_passes test xs)
  where
    split : (b : Bool) → test x ≡ b → IfSome (find test xs) (λ n. test n ≡ true) → IfSome (cond b (Some x) (find test xs)) (λ n. test n ≡ true)
    split true e h = e
    split false e h = h

pub none_passes : (test : List ℕ → Bool) (xs : List (List ℕ)) → IfNone (find test xs) ((other : List ℕ) → IsAmong other xs → test other ≡ false)
none_passes test [] = λ other h. absurd h
none_passes test (x ∷ xs) = split (test x) refl (find test xs) (none_passes test xs)
  where
    split : (b : Bool) → test x ≡ b → (o : Option (List ℕ)) → IfNone o ((other : List ℕ) → IsAmong other xs → test other ≡ false)
        → IfNone (cond b (Some x) o) ((other : List ℕ) → IsAmong other (x ∷ xs) → test other ≡ false)
    split true e o h = tt
    split false e (Some n) h = tt
    split false e None h = λ other among. elim among [ inl same ↦ rw same e | inr later ↦ h other later ]

all_at : (P : List ℕ → Type 0) (xs : List (List ℕ)) (x : List ℕ) → AllByRecursion P xs → IsAmong x xs → P x
all_at P [] x all h = absurd h
all_at P (y ∷ ys) x all h = elim h [ inl same ↦ subst P (sym same) all.0 | inr later ↦ all_at P ys x all.1 later ]

-- no other that passes comes before the first that does
pub found_least : (test : List ℕ → Bool) (xs : List (List ℕ)) → IsRising xs
    → IfSome (find test xs) (λ n. (other : List ℕ) → IsAmong other xs → test other ≡ true → is_before other n ≡ false)
found_least test [] rising = tt
found_least test (x ∷ xs) rising = split (test x) refl (find test xs) (found_least test xs rising.1)
  where
    split : (b : Bool) → test x ≡ b → (o : Option (List ℕ))
        → IfSome o (λ n. (other : List ℕ) → IsAmong other xs → test other ≡ true → is_before other n ≡ false)
        → IfSome (cond b (Some x) o) (λ n. (other : List ℕ) → IsAmong other (x ∷ xs) → test other ≡ true → is_before other n ≡ false)
    split true e o h = λ other among passes. elim among [
      | inl same ↦ rw same (not_before_itself x)
      | inr later ↦ not_both_ways x other (all_at (λ l. is_before x l ≡ true) xs other rising.0 later)
    ]
    split false e None h = tt
    split false e (Some n) h = λ other among passes. elim among [
      | inl same ↦ absurd (both_ways (test x) e (subst (λ (o : List ℕ). test o ≡ true) same passes))
      | inr later ↦ h other later passes
    ]

-- each is what is found after the one before it
abbrev WalkIn : List (List ℕ) → List ℕ → List (List ℕ) → Type 0
WalkIn all name [] = find (is_before name) all ≡ None
WalkIn all name (next ∷ names) = (find (is_before name) all ≡ Some next) × WalkIn all next names

find_skip : (test : List ℕ → Bool) (front rest : List (List ℕ)) → AllByRecursion (λ x. test x ≡ false) front → find test (front ++ rest) ≡ find test rest
find_skip test [] rest h = refl
find_skip test (x ∷ front) rest h = rw (h.0) (find_skip test front rest h.1)

-- in a list that rises, what is before a name isn't after it
front_not_after : (front rest : List (List ℕ)) (y : List ℕ) → IsRising (front ++ y ∷ rest) → AllByRecursion (λ x. is_before y x ≡ false) (front ++ y ∷ [])
front_not_after [] rest y h = (not_before_itself y, tt)
front_not_after (x ∷ front) rest y h =
    (not_both_ways x y (all_at (λ later. is_before x later ≡ true) (front ++ y ∷ rest) y h.0 (stands front)), front_not_after front rest y h.1)
  where
    stands : (more : List (List ℕ)) → IsAmong y (more ++ y ∷ rest)
    stands [] = inl refl
    stands (z ∷ more) = inr (stands more)

rest_after_front : (front rest : List (List ℕ)) → IsRising (front ++ rest) → IsRising rest
rest_after_front [] rest h = h
rest_after_front (x ∷ front) rest h = rest_after_front front rest h.1

walk_on : (front rest : List (List ℕ)) (name : List ℕ) → IsRising (front ++ rest) → AllByRecursion (λ x. is_before name x ≡ false) front → BeforeAll name rest
    → WalkIn (front ++ rest) name rest
walk_on front [] name rising past before = find_skip (is_before name) front [] past
walk_on front (y ∷ rest) name rising past before =
    let same : (front ++ y ∷ []) ++ rest ≡ front ++ y ∷ rest = append_assoc front (y ∷ []) rest in
    let later : BeforeAll y rest = (rest_after_front front (y ∷ rest) rising).0 in (
      find_skip (is_before name) front (y ∷ rest) past ∙ rw (before.0) refl,
      subst (λ (all : List (List ℕ)). WalkIn all y rest) same
          (walk_on (front ++ y ∷ []) rest y (subst IsRising (sym same) rising) (front_not_after front rest y rising) later),
    )

before_longer : (xs : List (List ℕ)) → Longer xs → BeforeAll [] xs
before_longer [] h = tt
before_longer ([] ∷ xs) h = absurd (h.0 refl)
before_longer ((a ∷ t) ∷ xs) h = (refl, before_longer xs h.1)

walk_in_table : (name : List ℕ) (names : List (List ℕ)) → WalkIn readable name names → IsWalk name names
walk_in_table name [] h = h
walk_in_table name (next ∷ names) h = (h.0, walk_in_table next names h.1)

-- a walk from the empty name
pub walk_is : IsWalk [] readable
walk_is = walk_in_table [] readable (walk_on [] readable [] readable_rises tt (before_longer readable longer_readable))
