-- Members that are repeated: what represents those that are skipped is replaced by the last.
use Rattle.std.proofs.Common.{◌≡◌, ◌<◌, ℕ, zero, suc, nat_lt, Bool, true, false, if◌then◌else◌, List, [], ◌∷◌, length, get_or, Ordering, Less, Equal, Greater, nat_cmp, bytes_eq, refl, sym, ap, ap₂, ◌∙◌, subst, arith}
use Rattle.std.proofs.lemmas.Slice.Eq.{bytes_eq-Decides}
use Rattle.std.specs.Cmp.Lexicographic.{slice_cmp}
use Rattle.std.specs.Ordering.{match_ordering}
use Rattle.serde_json.specs.Data.{Data, null, Members, no_members, member, put}
use Rattle.scenario_read.specs.Sorted.{Below, MembersSorted}
use Rattle.scenario_read.proofs.NameOrder.{apart-names, not-less, not-greater, below-chain}
use Rattle.scenario_cut.specs.Cutting.{Whole, cut_members}
use Rattle.scenario_cut.specs.Last.{large_names, place_in, hidden, filled, Enters}
use Rattle.scenario_cut.proofs.Members.{equal-names}
use Rattle.scenario_cut.proofs.Shapes.{members-kept}

-- names at one place are one
pub place-apart : (names : List (List ℕ)) (a b : List ℕ) → place_in names a ≡ place_in names b → place_in names a < length names → bytes_eq b a ≡ true
place-apart [] a b same low = absurd (omega (arith, low))
place-apart (n ∷ ns) a b same low = at (place-apart ns a b) (bytes_eq a n) (bytes_eq b n) refl refl same low
  where
    at : (place_in ns a ≡ place_in ns b → place_in ns a < length ns → bytes_eq b a ≡ true) → (x y : Bool) → bytes_eq a n ≡ x → bytes_eq b n ≡ y
        → (if x then zero else suc (place_in ns a)) ≡ (if y then zero else suc (place_in ns b)) → (if x then zero else suc (place_in ns a)) < suc (length ns) → bytes_eq b a ≡ true
    at rest true true p q e l = (bytes_eq-Decides b a).1 ((bytes_eq-Decides b n).0 q ∙ sym ((bytes_eq-Decides a n).0 p))
    at rest true false p q e l = absurd (omega (arith, e))
    at rest false true p q e l = absurd (omega (arith, e))
    at rest false false p q e l = rest (omega (arith, e)) (omega (arith, l))

-- another name is at another place
pub other-place : (a b : List ℕ) → place_in large_names a < 7 → bytes_eq b a ≡ false → place_in large_names b ≡ place_in large_names a → ⊥
other-place a b low other same =
    let both : bytes_eq b a ≡ true = place-apart large_names a b (sym same) low in
    let clash : true ≡ false = sym both ∙ other in
    absurd (cc)

-- what the numbers say about a name
pub shown : (left : List ℕ) (name : List ℕ) (d : Data) → get_or left (place_in large_names name) 0 ≡ 0 → hidden left name d ≡ d
shown left name d none = ap (λ n. if nat_lt 0 n then null else d) none

pub covered : (left : List ℕ) (name : List ℕ) (d : Data) → nat_lt 0 (get_or left (place_in large_names name) 0) ≡ true → hidden left name d ≡ null
covered left name d some = ap (λ b. if b then null else d) some

pub same-left : (old now : List ℕ) (name : List ℕ) (d : Data) → get_or old (place_in large_names name) 0 ≡ get_or now (place_in large_names name) 0 → hidden old name d ≡ hidden now name d
same-left old now name d same = ap (λ n. if nat_lt 0 n then null else d) same

-- where nothing is to come, nothing is hidden
pub all-shown : (left : List ℕ) → ((place : ℕ) → get_or left place 0 ≡ 0) → (ms : Members) → filled (hidden left) ms ≡ ms
all-shown left none no_members = refl
all-shown left none (member name d ms) = ap₂ (member name) (shown left name d (none (place_in large_names name))) (all-shown left none ms)

-- ---- a member that is put

module _ (l : List ℕ) (old now : List ℕ → Data → Data) (d standing : Data) (enters : Enters old now l d standing) where
  without : (ms : Members) → Below l ms → filled old ms ≡ filled now ms
  without no_members below = refl
  without (member name e ms) below =
      let first = enters.others name (apart-names l name (not-less (slice_cmp nat_cmp l name) below.0)) e in
      ap (λ v. member name v (filled old ms)) first ∙ ap (member name (now name e)) (without ms below.1)

  -- a value that enters at the name is put among the others as what represents it
  pub put-through : (ms : Members) → MembersSorted ms → put l d (filled old ms) ≡ filled now (put l standing ms)
  put-through no_members sorted = ap (λ e. member l e no_members) (sym enters.here)
  put-through (member name e ms) sorted = at (slice_cmp nat_cmp l name) refl (put-through ms sorted.2)
    where
      at : (o : Ordering) → slice_cmp nat_cmp l name ≡ o → put l d (filled old ms) ≡ filled now (put l standing ms)
          → match_ordering o (member l d (filled old (member name e ms))) (member name d (filled old ms)) (member name (old name e) (put l d (filled old ms)))
          ≡ filled now (match_ordering o (member l standing (member name e ms)) (member name standing ms) (member name e (put l standing ms)))
      at Less less rest =
          let below : Below l (member name e ms) = (less, below-chain l name ms less sorted.1) in
          ap (λ v. member l v (filled old (member name e ms))) (sym enters.here) ∙ ap (member l (now l standing)) (without (member name e ms) below)
      at Equal same rest =
          let here : l ≡ name = equal-names l name same in
          let below : Below l ms = subst (λ n. Below n ms) (sym here) sorted.1 in
          ap (λ v. member name v (filled old ms)) (sym enters.here ∙ ap (λ n. now n standing) here) ∙ ap (member name (now name standing)) (without ms below)
      at Greater more rest =
          let first = enters.others name (apart-names l name (not-greater (slice_cmp nat_cmp l name) more)) e in
          ap (λ v. member name v (put l d (filled old ms))) first ∙ ap (member name (now name e)) rest

pub kept-sorted : (ms : Members) → MembersSorted ms → MembersSorted (cut_members Whole ms)
kept-sorted ms sorted = members-kept Whole ms sorted
