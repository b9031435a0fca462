-- Names that are repeated: the members without those of which more is to come, as members are put.
use Rattle.std.proofs.Common.{◌≡◌, ◌≤◌, ℕ, suc, Bool, true, false, if◌then◌else◌, List, [], ◌∷◌, get_or, Option, Some, None, Ordering, Less, Equal, Greater, nat_cmp, bytes_eq, refl, sym, ap, ◌∙◌, subst, arith}
use Rattle.std.proofs.lemmas.Slice.Eq.{bytes_eq-Decides}
use Rattle.std.specs.Cmp.Lexicographic.{slice_cmp}
use Rattle.std.specs.Ordering.{match_ordering}
use Rattle.serde_json.specs.Data.{Data, Members, no_members, member, put}
use Rattle.scenario_read.specs.Sorted.{Below, MembersSorted}
use Rattle.scenario_read.proofs.NameOrder.{apart-names, not-less, not-greater, below-chain, put-below}
use Rattle.scenario_cut.proofs.Members.{equal-names}
use Rattle.scenario_file.specs.Left.{place_from, count_at, without}

-- ---- the place of a name

-- a name's place is none of those before
place-low : (i : ℕ) (names : List (List ℕ)) (name : List ℕ) (p : ℕ) → place_from i names name ≡ Some p → i ≤ p
place-low i [] name p e = absurd (cc)
place-low i (n ∷ ns) name p e = at (bytes_eq name n) (place-low (suc i) ns name p) e
  where
    at : (b : Bool) → (place_from (suc i) ns name ≡ Some p → suc i ≤ p) → (if b then Some i else place_from (suc i) ns name) ≡ Some p → i ≤ p
    at true rest is = subst (λ q. i ≤ q) (same-place i p is) (omega arith)
      where
        same-place : (x y : ℕ) → Some x ≡ Some y → x ≡ y
        same-place x y s = cc
    at false rest is = omega (arith, rest is)

-- names at one place are one
pub place-apart : (i : ℕ) (names : List (List ℕ)) (a b : List ℕ) (p : ℕ) → place_from i names a ≡ Some p → place_from i names b ≡ Some p → bytes_eq b a ≡ true
place-apart i [] a b p d e = absurd (cc)
place-apart i (n ∷ ns) a b p d e = at (place-apart (suc i) ns a b p) (bytes_eq a n) (bytes_eq b n) refl refl d e
  where
    same-place : (x y : ℕ) → Some x ≡ Some y → x ≡ y
    same-place x y s = cc

    at : (place_from (suc i) ns a ≡ Some p → place_from (suc i) ns b ≡ Some p → bytes_eq b a ≡ true) → (x y : Bool) → bytes_eq a n ≡ x → bytes_eq b n ≡ y
        → (if x then Some i else place_from (suc i) ns a) ≡ Some p → (if y then Some i else place_from (suc i) ns b) ≡ Some p → bytes_eq b a ≡ true
    at rest true true u v s t = (bytes_eq-Decides b a).1 ((bytes_eq-Decides b n).0 v ∙ sym ((bytes_eq-Decides a n).0 u))
    at rest true false u v s t = absurd (omega (arith, same-place i p s, place-low (suc i) ns b p t))
    at rest false true u v s t = absurd (omega (arith, same-place i p t, place-low (suc i) ns a p s))
    at rest false false u v s t = rest s t

-- the number at another name's place stays
pub count-other : (names : List (List ℕ)) (old now : List ℕ) (name other : List ℕ) (p : ℕ) → place_from 0 names name ≡ Some p → ((q : ℕ) → (q ≡ p → ⊥) → get_or old q 0 ≡ get_or now q 0)
    → bytes_eq other name ≡ false → count_at old (place_from 0 names other) ≡ count_at now (place_from 0 names other)
count-other names old now name other p here others apart = at (place_from 0 names other) refl
  where
    at : (o : Option ℕ) → place_from 0 names other ≡ o → count_at old o ≡ count_at now o
    at None e = refl
    at (Some q) e = others q (λ same. clash (place-apart 0 names name other p here (e ∙ ap Some same)))
      where
        clash : bytes_eq other name ≡ true → ⊥
        clash both = let off : true ≡ false = sym both ∙ apart in absurd (cc)

-- where nothing is counted, no name has a number
pub count-none : (counts : List ℕ) (o : Option ℕ) → ((place : ℕ) → get_or counts place 0 ≡ 0) → count_at counts o ≡ 0
count-none counts None none = refl
count-none counts (Some p) none = none p

-- ---- members

same-without : (old now : List ℕ → Bool) → ((name : List ℕ) → old name ≡ now name) → (ms : Members) → without old ms ≡ without now ms
same-without old now same no_members = refl
same-without old now same (member name d ms) =
    ap (λ rest. if old name then rest else member name d rest) (same-without old now same ms)
    ∙ ap (λ b. if b then without now ms else member name d (without now ms)) (same name)

-- if no more follows, all are there
pub all-there : (gone : List ℕ → Bool) → ((name : List ℕ) → gone name ≡ false) → (ms : Members) → without gone ms ≡ ms
all-there gone none no_members = refl
all-there gone none (member name d ms) =
    ap (λ b. if b then without gone ms else member name d (without gone ms)) (none name) ∙ ap (member name d) (all-there gone none ms)

-- a member of which more is to come
put-gone : (gone : List ℕ → Bool) (k : List ℕ) (d : Data) → gone k ≡ true → (ms : Members) → without gone (put k d ms) ≡ without gone ms
put-gone gone k d is no_members = ap (λ b. if b then no_members else member k d no_members) is
put-gone gone k d is (member name e ms) = at (slice_cmp nat_cmp k name) refl (put-gone gone k d is ms)
  where
    at : (o : Ordering) → slice_cmp nat_cmp k name ≡ o → without gone (put k d ms) ≡ without gone ms
        → without gone (match_ordering o (member k d (member name e ms)) (member name d ms) (member name e (put k d ms))) ≡ without gone (member name e ms)
    at Less less rest = ap (λ b. if b then without gone (member name e ms) else member k d (without gone (member name e ms))) is
    at Equal same rest =
        let here : gone name ≡ true = ap gone (sym (equal-names k name same)) ∙ is in
        ap (λ b. if b then without gone ms else member name d (without gone ms)) here
        ∙ sym (ap (λ b. if b then without gone ms else member name e (without gone ms)) here)
    at Greater more rest = ap (λ r. if gone name then r else member name e r) rest

pub passed-over : (old now : List ℕ → Bool) (k : List ℕ) (d : Data) (ms : Members) → ((other : List ℕ) → bytes_eq other k ≡ false → old other ≡ now other) → old k ≡ true → now k ≡ true
    → without now (put k d ms) ≡ without old ms
passed-over old now k d ms others was is = put-gone now k d is ms ∙ sym (same-without old now (λ name. at name (bytes_eq name k) refl) ms)
  where
    at : (name : List ℕ) (b : Bool) → bytes_eq name k ≡ b → old name ≡ now name
    at name true same = let here : name ≡ k = (bytes_eq-Decides name k).0 same in ap old here ∙ was ∙ sym is ∙ ap now (sym here)
    at name false apart = others name apart

below-without : (gone : List ℕ → Bool) (low : List ℕ) (ms : Members) → Below low ms → Below low (without gone ms)
below-without gone low no_members below = tt
below-without gone low (member name d ms) below = at (gone name) (below-without gone low ms below.1)
  where
    at : (b : Bool) → Below low (without gone ms) → Below low (if b then without gone ms else member name d (without gone ms))
    at true rest = rest
    at false rest = (below.0, rest)

module _ (old now : List ℕ → Bool) (k : List ℕ) (d : Data) (others : (other : List ℕ) → bytes_eq other k ≡ false → old other ≡ now other) (is : now k ≡ false) where
  behind : (ms : Members) → Below k ms → without old ms ≡ without now ms
  behind no_members below = refl
  behind (member name e ms) below =
      ap (λ rest. if old name then rest else member name e rest) (behind ms below.1)
      ∙ ap (λ b. if b then without now ms else member name e (without now ms)) (others name (apart-names k name (not-less (slice_cmp nat_cmp k name) below.0)))

  first : (ms : Members) → Below k ms → member k d (without now ms) ≡ put k d (without old ms)
  first ms below = ap (member k d) (sym (behind ms below)) ∙ sym (put-below k d (without old ms) (below-without old k ms below))

  -- a member that was read for the last time
  pub read-last : (ms : Members) → MembersSorted ms → without now (put k d ms) ≡ put k d (without old ms)
  read-last no_members sorted = ap (λ b. if b then no_members else member k d no_members) is
  read-last (member name e ms) sorted = at (slice_cmp nat_cmp k name) refl (read-last ms sorted.2)
    where
      same : (b : Bool) → k ≡ name → slice_cmp nat_cmp k name ≡ Equal → Below k ms
          → member name d (without now ms) ≡ put k d (if b then without old ms else member name e (without old ms))
      same true here tied below = ap (λ n. member n d (without now ms)) (sym here) ∙ first ms below
      same false here tied below =
          ap (member name d) (sym (behind ms below))
          ∙ sym (ap (λ o. match_ordering o (member k d (member name e (without old ms))) (member name d (without old ms)) (member name e (put k d (without old ms)))) tied)

      later : (b : Bool) → slice_cmp nat_cmp k name ≡ Greater → without now (put k d ms) ≡ put k d (without old ms)
          → (if b then without now (put k d ms) else member name e (without now (put k d ms))) ≡ put k d (if b then without old ms else member name e (without old ms))
      later true more rest = rest
      later false more rest =
          ap (member name e) rest
          ∙ sym (ap (λ o. match_ordering o (member k d (member name e (without old ms))) (member name d (without old ms)) (member name e (put k d (without old ms)))) more)

      at : (o : Ordering) → slice_cmp nat_cmp k name ≡ o → without now (put k d ms) ≡ put k d (without old ms)
          → without now (match_ordering o (member k d (member name e ms)) (member name d ms) (member name e (put k d ms))) ≡ put k d (without old (member name e ms))
      at Less less rest =
          let below : Below k (member name e ms) = (less, below-chain k name ms less sorted.1) in
          ap (λ b. if b then without now (member name e ms) else member k d (without now (member name e ms))) is ∙ first (member name e ms) below
      at Equal tied rest =
          let here : k ≡ name = equal-names k name tied in
          let below : Below k ms = subst (λ n. Below n ms) (sym here) sorted.1 in
          ap (λ b. if b then without now ms else member name d (without now ms)) (ap now (sym here) ∙ is) ∙ same (old name) here tied below
      at Greater more rest =
          let here : old name ≡ now name = others name (apart-names k name (not-greater (slice_cmp nat_cmp k name) more)) in
          ap (λ b. if b then without now (put k d ms) else member name e (without now (put k d ms))) (sym here) ∙ later (old name) more rest
