-- New passes.
use Rattle.std.proofs.Common.{◌≡◌, ℕ, zero, suc, ◌+◌, ◌<◌, ◌≤◌, List, [], ◌∷◌, ◌++◌, length, get_or, replicate, map, take, slice_index, slice_index_or, sym, refl, ap, ◌∙◌, subst, arith, All}
use Rattle.std.proofs.lemmas.List.Elements.{All-nil, All-cons}
use mathlib.Core.Option.{some, some-injective, some-ne-none}
use Rattle.cab_row.specs.Moves.{items_row}
use base.Stored.{Gv}
use lib.ListN.{get_elem?}
use Rattle.atomic_table.specs.declared.badge.Badge.{Badge}
use Rattle.cab_row.specs.declared.view.View.{View}
use Rattle.cab_row.specs.declared.row.Row.{Row}
use Rattle.cab_row.specs.declared.pass.Pass.{Pass}
use Rattle.cab_row.specs.Views.{count}
use Rattle.cab_row.specs.Passes.{seat_view, view_of, books_of, IsOwn, IsPassOf, IsNew, AreNew, HasItems}

abbrev zeros_of : ℕ → List ℕ
zeros_of n = replicate n 0

pub all_zero : (n c : ℕ) → ◌≡◌ {A = ℕ} (get_or (zeros_of n) c 0) 0
all_zero zero c = refl
all_zero (suc n) zero = refl
all_zero (suc n) (suc c) = all_zero n c

pub some_zeros : (n m : ℕ) → n ≤ m → length (take n (zeros_of m)) ≡ n
some_zeros zero m h = refl
some_zeros (suc n) zero h = absurd (omega arith)
some_zeros (suc n) (suc m) h = ap suc (some_zeros n m (omega arith))

pub all_zeros : (n m c : ℕ) → ◌≡◌ {A = ℕ} (get_or (take n (zeros_of m)) c 0) 0
all_zeros zero m c = refl
all_zeros (suc n) zero c = refl
all_zeros (suc n) (suc m) zero = refl
all_zeros (suc n) (suc m) (suc c) = all_zeros n m c

module _ {B : Type 0} (code : B → Gv) (left_of : B → ℕ → ℕ) where
  pub new_pass : (row : Row B) (badge : Badge View) (n : ℕ) (done : List ℕ) (v : View) → badge.table_id ≡ row.table.shared.table_id → badge.views ≡ v ∷ [] → IsOwn (map code (books_of row)) row.passes n v → v.done ≡ [] → n < 8 → done ≡ replicate 64 0 → HasItems code left_of row
      → IsNew code left_of row n (record { badge = badge; number = n; done = done })
  new_pass row badge n done v table me own none small zeros items =
      let still : (c : ℕ) → get_or done c 0 ≡ 0 = λ c. ap (λ l. get_or l c 0) zeros ∙ all_zero 64 c in
      record {
        mine = record {
          table = table;
          views = me ∙ ap (λ l. seat_view l ∷ []) (sym me);
          view = subst (λ l. IsOwn (map code (books_of row)) row.passes n (seat_view l)) (sym me) own;
          small = small;
          wide = ap length zeros;
          left = λ c first there. let h = items c first there n small in (omega (arith, still c), h.0, h.1);
          done = λ c h. still c ∙ (sym (ap (λ l. Rattle.cab_row.specs.Views.total (Rattle.cab_row.specs.Views.is_pair n c) l) none) ∙ sym (ap (λ l. count n c (seat_view l)) me));
        };
        number_is = refl;
        none_done = ap (λ l. (seat_view l).done) me ∙ none;
      }

  pub all_new : (row : Row B) (p : ℕ) (xs : List Pass) → AreNew code left_of row p xs → All (IsPassOf code left_of row) xs
  all_new row p [] h = All-nil (IsPassOf code left_of row)
  all_new row p (y ∷ ys) h = All-cons (IsPassOf code left_of row) y ys h.0.mine (all_new row (p + 1) ys h.1)

  pub new_at : (row : Row B) (p : ℕ) (xs : List Pass) → AreNew code left_of row p xs → (k : ℕ) (x : Pass) → get_elem? xs k ≡ some x → (x.number ≡ p + k) × ((view_of x).done ≡ [])
  new_at row p [] h k x e = absurd (some-ne-none x (sym e))
  new_at row p (y ∷ ys) h zero x e = subst (λ z. (z.number ≡ p + 0) × ((view_of z).done ≡ [])) (some-injective y x e) (omega (arith, h.0.number_is), h.0.none_done)
  new_at row p (y ∷ ys) h (suc k) x e = let t = new_at row (p + 1) ys h.1 k x e in (omega (arith, t.0), t.1)

  pub are_new_snoc : (row : Row B) (p : ℕ) (xs : List Pass) (x : Pass) → AreNew code left_of row p xs → IsNew code left_of row (p + length xs) x → AreNew code left_of row p (xs ++ x ∷ [])
  are_new_snoc row p [] x h k = (subst (λ n. IsNew code left_of row n x) (omega arith) k, tt)
  are_new_snoc row p (y ∷ ys) x h k = (h.0, are_new_snoc row (p + 1) ys x h.1 (subst (λ n. IsNew code left_of row n x) (omega arith) k))

module _ {B : Type 0} (left_of : B → ℕ → ℕ) where
  items_in_row : (b : B) (p : ℕ) → p < 8 → slice_index (items_row left_of b) p ≡ left_of b p
  items_in_row b zero h = refl
  items_in_row b (suc zero) h = refl
  items_in_row b (suc (suc zero)) h = refl
  items_in_row b (suc (suc (suc zero))) h = refl
  items_in_row b (suc (suc (suc (suc zero)))) h = refl
  items_in_row b (suc (suc (suc (suc (suc zero))))) h = refl
  items_in_row b (suc (suc (suc (suc (suc (suc zero)))))) h = refl
  items_in_row b (suc (suc (suc (suc (suc (suc (suc zero))))))) h = refl
  items_in_row b (suc (suc (suc (suc (suc (suc (suc (suc p)))))))) h = absurd (omega arith)

  pub items_there : (books : List B) (c : ℕ) (first : B) (d : List ℕ) (p : ℕ) → get_elem? books c ≡ some first → p < 8 → slice_index (slice_index_or (map (items_row left_of) books) c d) p ≡ left_of first p
  items_there [] c first d p e h = absurd (some-ne-none first (sym e))
  items_there (b ∷ bs) zero first d p e h = items_in_row b p h ∙ ap (λ x. left_of x p) (some-injective b first e)
  items_there (b ∷ bs) (suc c) first d p e h = items_there bs c first d p e h
