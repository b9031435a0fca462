-- The members of an object as they are read: one of a known name is put among those that are kept, and of the other names the least is held.
use Rattle.std.proofs.Common.{◌≡◌, ℕ, Bool, true, false, if◌then◌else◌, List, Option, Some, None, Ordering, Less, Equal, Greater, nat_cmp, refl, sym, ap, ap₂, ◌∙◌, subst}
use Rattle.std.proofs.lemmas.Cmp.{nat_list_cmp_total}
use Rattle.std.specs.Cmp.Lexicographic.{slice_cmp}
use Rattle.std.specs.Ordering.{match_ordering, ordering_reverse}
use Rattle.serde_json.specs.Data.{Data, null, Members, no_members, member, put}
use Rattle.scenario_read.specs.Kinds.{is_among}
use Rattle.scenario_read.specs.Sorted.{Below, MembersSorted}
use Rattle.scenario_read.proofs.NameOrder.{below-chain, put-below}
use Rattle.scenario_cut.specs.Cutting.{Form, names_at, only, few, member_form, cut, cut_members}
use Rattle.scenario_cut.specs.Others.{first_other, lesser, with_other}
use Rattle.scenario_cut.proofs.Few.{equal-names}
use Rattle.scenario_cut.proofs.Growth.{put-kept}
use Rattle.scenario_cut.proofs.Shapes.{below-only, members-kept}

-- ---- the least of the other names

module _ (own : List (List ℕ)) where
  abbrev knows : List ℕ → Bool
  knows name = is_among own name

  pub first-known : (k : List ℕ) (d : Data) → knows k ≡ true → (ms : Members) → first_other own (put k d ms) ≡ first_other own ms
  first-known k d known no_members = ap (λ b. if b then None else Some k) known
  first-known k d known (member name e ms) = at (slice_cmp nat_cmp k name) (first-known k d known ms)
    where
      at : (o : Ordering) → first_other own (put k d ms) ≡ first_other own ms
          → first_other own (match_ordering o (member k d (member name e ms)) (member name d ms) (member name e (put k d ms))) ≡ first_other own (member name e ms)
      at Less later = ap (λ b. if b then first_other own (member name e ms) else Some k) known
      at Equal later = refl
      at Greater later = ap (λ f. if knows name then f else Some name) later

  below-first : (k : List ℕ) (ms : Members) → Below k ms → lesser k (first_other own ms) ≡ Some k
  below-first k no_members below = refl
  below-first k (member name d ms) below = at (knows name) (below-first k ms below.1)
    where
      at : (b : Bool) → lesser k (first_other own ms) ≡ Some k → lesser k (if b then first_other own ms else Some name) ≡ Some k
      at true later = later
      at false later = ap (λ o. match_ordering o (Some k) (Some name) (Some name)) below.0

  pub first-lesser : (k : List ℕ) (d : Data) → knows k ≡ false → (ms : Members) → MembersSorted ms → first_other own (put k d ms) ≡ lesser k (first_other own ms)
  first-lesser k d none no_members sorted = ap (λ b. if b then None else Some k) none
  first-lesser k d none (member name e ms) sorted = at (slice_cmp nat_cmp k name) refl (knows name) refl (first-lesser k d none ms sorted.2)
    where
      at : (o : Ordering) → slice_cmp nat_cmp k name ≡ o → (b : Bool) → knows name ≡ b → first_other own (put k d ms) ≡ lesser k (first_other own ms)
          → first_other own (match_ordering o (member k d (member name e ms)) (member name d ms) (member name e (put k d ms))) ≡ lesser k (if b then first_other own ms else Some name)
      at Less is b was later =
          ap (λ a. if a then first_other own (member name e ms) else Some k) none
          ∙ sym (below-first k (member name e ms) (is, below-chain k name ms is sorted.1)) ∙ ap (λ a. lesser k (if a then first_other own ms else Some name)) was
      at Equal is true was later = let clash : true ≡ false = sym was ∙ sym (ap knows (equal-names k name is)) ∙ none in absurd (cc)
      at Equal is false was later = ap (λ a. if a then first_other own ms else Some name) was ∙ sym (ap (λ o. match_ordering o (Some k) (Some name) (Some name)) is)
      at Greater is true was later = ap (λ a. if a then first_other own (put k d ms) else Some name) was ∙ later
      at Greater is false was later = ap (λ a. if a then first_other own (put k d ms) else Some name) was ∙ sym (ap (λ o. match_ordering o (Some k) (Some name) (Some name)) is)

  inside : (a b : List ℕ) → Some a ≡ Some b → a ≡ b
  inside a b e = cc

-- ---- the members that are kept

module _ (known : List (List ℕ)) where
  -- a member of a known name is put among them
  pub only-put : (k : List ℕ) (d : Data) → is_among known k ≡ true → (ms : Members) → MembersSorted ms → only known (put k d ms) ≡ put k d (only known ms)
  only-put k d has no_members sorted = ap (λ b. if b then member k d no_members else no_members) has
  only-put k d has (member name e ms) sorted = at (slice_cmp nat_cmp k name) refl (only-put k d has ms sorted.2)
    where
      put-in : (o : Ordering) → Members
      put-in o = match_ordering o (member k d (member name e (only known ms))) (member name d (only known ms)) (member name e (put k d (only known ms)))

      at : (o : Ordering) → slice_cmp nat_cmp k name ≡ o → only known (put k d ms) ≡ put k d (only known ms)
          → only known (match_ordering o (member k d (member name e ms)) (member name d ms) (member name e (put k d ms))) ≡ put k d (only known (member name e ms))
      at Less is later =
          ap (λ b. if b then member k d (only known (member name e ms)) else only known (member name e ms)) has
          ∙ sym (put-below k d (only known (member name e ms)) (below-only known k (member name e ms) (is, below-chain k name ms is sorted.1)))
      at Equal is later =
          let here : is_among known name ≡ true = subst (λ n. is_among known n ≡ true) (equal-names k name is) has in
          ap (λ b. if b then member name d (only known ms) else only known ms) here
          ∙ sym (ap (λ b. put k d (if b then member name e (only known ms) else only known ms)) here ∙ ap put-in is)
      at Greater is later = pick (is_among known name)
        where
          pick : (b : Bool) → (if b then member name e (only known (put k d ms)) else only known (put k d ms)) ≡ put k d (if b then member name e (only known ms) else only known ms)
          pick true = ap (member name e) later ∙ sym (ap put-in is)
          pick false = later

  -- a member of another name is skipped
  pub only-pass : (k : List ℕ) (d : Data) → is_among known k ≡ false → (ms : Members) → only known (put k d ms) ≡ only known ms
  only-pass k d none no_members = ap (λ b. if b then member k d no_members else no_members) none
  only-pass k d none (member name e ms) = at (slice_cmp nat_cmp k name) refl (only-pass k d none ms)
    where
      at : (o : Ordering) → slice_cmp nat_cmp k name ≡ o → only known (put k d ms) ≡ only known ms
          → only known (match_ordering o (member k d (member name e ms)) (member name d ms) (member name e (put k d ms))) ≡ only known (member name e ms)
      at Less is later = ap (λ b. if b then member k d (only known (member name e ms)) else only known (member name e ms)) none
      at Equal is later =
          let here : is_among known name ≡ false = subst (λ n. is_among known n ≡ false) (equal-names k name is) none in
          ap (λ b. if b then member name d (only known ms) else only known ms) here ∙ sym (ap (λ b. if b then member name e (only known ms) else only known ms) here)
      at Greater is later = ap (λ rest. if is_among known name then member name e rest else rest) later

  first-above : (name : List ℕ) (ms : Members) → Below name ms → (k : List ℕ) → first_other known ms ≡ Some k → slice_cmp nat_cmp name k ≡ Less
  first-above name no_members below k e = absurd (cc)
  first-above name (member other d ms) below k e = at (is_among known other) e (first-above name ms below.1 k)
    where
      at : (b : Bool) → (if b then first_other known ms else Some other) ≡ Some k → (first_other known ms ≡ Some k → slice_cmp nat_cmp name k ≡ Less) → slice_cmp nat_cmp name k ≡ Less
      at true h later = later h
      at false h later = subst (λ n. slice_cmp nat_cmp name n ≡ Less) (inside known other k h) below.0

  greater : (name k : List ℕ) → slice_cmp nat_cmp name k ≡ Less → slice_cmp nat_cmp k name ≡ Greater
  greater name k less = nat_list_cmp_total.antisymm k name ∙ ap ordering_reverse less

  -- the first of the others is put among them in the end
  few-put : (ms : Members) → MembersSorted ms → with_other (first_other known ms) (only known ms) ≡ few known ms
  few-put no_members sorted = refl
  few-put (member name d ms) sorted = at (is_among known name) (few-put ms sorted.2)
    where
      behind : (o : Option (List ℕ)) → ((k : List ℕ) → o ≡ Some k → slice_cmp nat_cmp name k ≡ Less) → with_other o (only known ms) ≡ few known ms
          → with_other o (member name d (only known ms)) ≡ member name d (few known ms)
      behind None above later = ap (member name d) later
      behind (Some k) above later =
          ap (λ o. match_ordering o (member k null (member name d (only known ms))) (member name null (only known ms)) (member name d (put k null (only known ms)))) (greater name k (above k refl))
          ∙ ap (member name d) later

      at : (b : Bool) → with_other (first_other known ms) (only known ms) ≡ few known ms
          → with_other (if b then first_other known ms else Some name) (if b then member name d (only known ms) else only known ms) ≡ (if b then member name d (few known ms) else member name null (only known ms))
      at true later = behind (first_other known ms) (first-above name ms sorted.1) later
      at false later = put-below name null (only known ms) (below-only known name ms sorted.1)

  only-kept : (f : Form) (ms : Members) → cut_members f (only known ms) ≡ only known (cut_members f ms)
  only-kept f no_members = refl
  only-kept f (member name d ms) = at (is_among known name) (only-kept f ms)
    where
      at : (b : Bool) → cut_members f (only known ms) ≡ only known (cut_members f ms)
          → cut_members f (if b then member name d (only known ms) else only known ms) ≡ (if b then member name (cut (member_form f name) d) (only known (cut_members f ms)) else only known (cut_members f ms))
      at true later = ap (member name (cut (member_form f name) d)) later
      at false later = later

  first-kept : (f : Form) (ms : Members) → first_other known (cut_members f ms) ≡ first_other known ms
  first-kept f no_members = refl
  first-kept f (member name d ms) = ap (λ o. if is_among known name then o else Some name) (first-kept f ms)

  pub kept-few : (f : Form) (ms : Members) → MembersSorted ms → with_other (first_other known ms) (cut_members f (only known ms)) ≡ few known (cut_members f ms)
  kept-few f ms sorted = ap₂ with_other (sym (first-kept f ms)) (only-kept f ms) ∙ few-put (cut_members f ms) (members-kept f ms sorted)

-- what is kept of the members so far, and the least of the other names
module _ (f : Form) (k : List ℕ) (d : Data) (ms : Members) (sorted : MembersSorted ms) where
  abbrev known-here : List (List ℕ)
  known-here = names_at f

  pub member-put : is_among (names_at f) k ≡ true → put k (cut (member_form f k) d) (cut_members f (only (names_at f) ms)) ≡ cut_members f (only (names_at f) (put k d ms))
  member-put has = sym (put-kept f k d (only known-here ms)) ∙ ap (cut_members f) (sym (only-put known-here k d has ms sorted))

  pub member-passed : is_among (names_at f) k ≡ false → cut_members f (only (names_at f) ms) ≡ cut_members f (only (names_at f) (put k d ms))
  member-passed none = ap (cut_members f) (sym (only-pass known-here k d none ms))
