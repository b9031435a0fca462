-- All passes come back.
use Rattle.std.proofs.Common.{◌≡◌, ℕ, zero, suc, ◌+◌, ◌-◌, ◌<◌, ◌≤◌, List, [], ◌∷◌, ◌++◌, length, drop, sym, refl, ap, ◌∙◌, subst, arith, Some, Bool, false, get_or, set, All}
use Rattle.std.proofs.lemmas.List.{append_assoc}
use Rattle.std.proofs.lemmas.List.Elements.{All-pop, All-head, All-tail}
use Rattle.atomic_table.proofs.Lists.{drop_at}
use mathlib.Core.Option.{some, some-injective, some-ne-none}
use base.Stored.{Gv}
use lib.ListN.{get_elem?}
use Rattle.cab_row.specs.declared.view.View.{View}
use Rattle.cab_row.specs.declared.row.Row.{Row}
use Rattle.cab_row.specs.declared.pass.Pass.{Pass}
use Rattle.cab_row.specs.Views.{total, is_one, is_pair, times, owns, count, joined}
use Rattle.cab_row.specs.Passes.{IsPassOf, view_of, Sums, IsMerged}
use Rattle.cab_row.proofs.Sums.{total-append, total-none, total-only, terms_le}
use Rattle.cab_row.proofs.Calls.{own_one}

pub at_inside : {A : Type 0} (l : List A) (c : ℕ) (a : A) → get_elem? l c ≡ some a → c < length l
at_inside [] c a e = absurd (some-ne-none a (sym e))
at_inside (x ∷ xs) zero a e = omega arith
at_inside (x ∷ xs) (suc c) a e = let h = at_inside xs c a e in omega arith

pub now_false : (l : List Bool) (i : ℕ) → get_or (set l i false) i false ≡ false
now_false [] i = refl
now_false (x ∷ xs) zero = refl
now_false (x ∷ xs) (suc i) = now_false xs i

-- one book more is in the list
pub one_taken : {B : Type 0} (room more : List B) (b : B) (items : List B) (c : ℕ) → more ≡ room ++ b ∷ [] → get_elem? items c ≡ some b → room ++ drop c items ≡ items → more ++ drop (c + 1) items ≡ items
one_taken room more b items c e at h = let n : c + 1 ≡ suc c = omega arith in
    ap (λ l. l ++ drop (c + 1) items) e ∙ (append_assoc room (b ∷ []) (drop (c + 1) items) ∙ (ap (λ l. room ++ l) (ap (λ k. b ∷ drop k items) n ∙ sym (drop_at items c b at)) ∙ h))

pub no_items : {A : Type 0} (l : List A) → length l ≡ 0 → l ≡ []
no_items [] e = refl
no_items (x ∷ xs) e = absurd (omega arith)

module _ {A : Type 0} (P : A → Type 0) where
  pub all_front : (xs : List A) (x : A) → All P (xs ++ x ∷ []) → All P xs × P x
  all_front xs x h = All-pop P (xs ++ x ∷ []) xs (Some x) refl h

  pub one_of_all : (xs : List A) (k : ℕ) (x : A) → All P xs → get_elem? xs k ≡ some x → P x
  one_of_all [] k x h e = absurd (some-ne-none x (sym e))
  one_of_all (y ∷ ys) zero x h e = subst P (some-injective y x e) (All-head P y ys h)
  one_of_all (y ∷ ys) (suc k) x h e = one_of_all ys k x (All-tail P y ys h) e

pub total_last : (f : View → ℕ) (xs whole : List Pass) (x : Pass) → whole ≡ xs ++ x ∷ [] → total (λ y. f (view_of y)) whole ≡ total (λ y. f (view_of y)) xs + f (view_of x)
total_last f xs whole x e = ap (total (λ y. f (view_of y))) e ∙ (let more = total-append (λ y. f (view_of y)) xs (x ∷ []) in omega (arith, more))

pub joined_owns : (p : ℕ) (v w : View) → owns p (joined v w) ≡ owns p v + owns p w
joined_owns p v w = total-append (is_one p) v.numbers w.numbers

pub joined_count : (p c : ℕ) (v w : View) → count p c (joined v w) ≡ count p c v + count p c w
joined_count p c v w = total-append (is_pair p c) v.done w.done

module _ {B : Type 0} (code : B → Gv) (journal : B → List ℕ) (left_of : B → ℕ → ℕ) (Replays : B → B → Type 0) where
  pub merged : (row : Row B) (passes : List Pass) (v : View) (c : ℕ) (first b : B) → All (IsPassOf code left_of row) passes → Sums passes v → ((p : ℕ) → owns p v ≤ 1)
      → Replays first b → ((p : ℕ) → left_of b p + times p (journal b) ≡ left_of first p) → ((p : ℕ) → times p (journal b) ≡ count p c v)
      → IsMerged journal left_of Replays first passes (c + 1) b
  merged row passes v c first b mine sums once replays left counted =
      let own : (k : ℕ) (x : Pass) → get_elem? passes k ≡ some x → owns x.number (view_of x) ≡ 1 = λ k x e. let t = one_of_all (IsPassOf code left_of row) passes k x mine e in
      ap (λ n. owns n (view_of x)) (sym t.view.number_is) ∙ own_one _ _ _ (view_of x) t.view in
      record {
        replays = replays;
        left = left;
        each = λ k x e. let n : ℕ = x.number in
            let only : total (λ y. count n c (view_of y)) passes ≡ count n c (view_of x) = total-only (λ y. count n c (view_of y)) passes k x e (λ j y ne there.
            (one_of_all (IsPassOf code left_of row) passes j y mine there).view.only n c (λ same.
            let theirs : owns n (view_of y) ≡ 1 = ap (λ m. owns m (view_of y)) same ∙ own j y there in
            absurd (omega (arith, terms_le (λ z. owns n (view_of z)) passes k j x y ne e there, own k x e, theirs, sums.0 n, once n)))) in
            let at : c + 1 - 1 ≡ c = omega arith in
            counted n ∙ (sums.1 n c ∙ (only ∙ ap (λ d. count n d (view_of x)) (sym at)));
        none = λ p absent. counted p ∙ (sums.1 p c ∙ total-none (λ y. count p c (view_of y)) passes (λ j y there. (one_of_all (IsPassOf code left_of row) passes j y mine there).view.only p c (λ same. absent j y there (sym same))));
      }
