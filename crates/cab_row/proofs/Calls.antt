-- What a pass knows between the steps of one call.
use Rattle.std.proofs.Common.{◌≡◌, ℕ, ◌+◌, ◌%◌, ◌<◌, ◌≤◌, ◌≢◌, zero, suc, List, [], ◌∷◌, ◌++◌, length, map, replicate, get_or, set, sym, refl, ap, ◌∙◌, arith, ⊎_elim, inl, inr, subst, get_or-set_other, get_or-set_same}
use mathlib.Core.Logic.{dite}
use native.Mathlib.Decide.{ℕ_discrete}
use mathlib.Core.Option.{some}
use base.Stored.{Gv}
use Rattle.atomic_table.proofs.Lists.{at_map}
use lib.ListN.{get_elem?}
use Rattle.atomic_table.specs.Table.{rest}
use Rattle.cab_row.specs.declared.act.Act.{Act}
use Rattle.cab_row.specs.declared.act.Act.TheVariants.{Done, Busy}
use Rattle.cab_row.specs.declared.view.View.{View}
use Rattle.cab_row.specs.Views.{total, is_one, times, is_pair, count, owns, looked, holding, finished_with}
use Rattle.cab_row.specs.Passes.{IsOwn, HasActed, HasBrought, WasMet, SameCounts, HasSeen}
use Rattle.cab_row.specs.Rule.{Since}
use Rattle.cab_row.specs.Plays.{Sat}
use Rattle.cab_row.proofs.Sums.{one_same, one_other, total-append, total-zeros, total-ones}
use Rattle.cab_row.proofs.Steps.{is_pair_own, is_pair_cab, is_pair_none, count_done, there_is}

pub not_odd : (n : ℕ) → (n % 2 ≡ 1 → ⊥) → n % 2 ≡ 0
not_odd n h = dite (ℕ_discrete (n % 2) 1) (λ e. absurd (h e)) (λ ne. omega arith)

pub first_is : {S : Type 0} (l more : List (ℕ × S)) (x : ℕ × S) → l ≡ x ∷ more → l ≡ x ∷ rest l
first_is l more x e = e ∙ ap (λ k. x ∷ rest k) (sym e)

abbrev value : {B : Type 0} → B → List (ℕ × B) → B
value d [] = d
value d (x ∷ xs) = x.1

-- the book that is found in the slot is the one that was taken
pub same_book : {B : Type 0} (i : ℕ) (l : List (ℕ × B)) (b x : B) (more more' : List (ℕ × B)) → l ≡ (i, b) ∷ more → l ≡ (i, x) ∷ more' → b ≡ x
same_book i l b x more more' e f = ap (value b) (sym e ∙ f)

pub any_default : {A : Type 0} (l : List A) (i : ℕ) (d d' : A) → i < length l → get_or l i d ≡ get_or l i d'
any_default [] i d d' h = absurd (omega arith)
any_default (x ∷ xs) zero d d' h = refl
any_default (x ∷ xs) (suc i) d d' h = any_default xs i d d' (omega arith)

pub own_one : (opening : List Gv) (passes n : ℕ) (v : View) → IsOwn opening passes n v → owns v.number v ≡ 1
own_one opening passes n v k = ap (times v.number) k.numbers ∙ (let e : n ≡ v.number = sym k.number_is in omega (arith, one_same v.number n e))

pub own_looked : (opening : List Gv) (passes n i r : ℕ) (v : View) → IsOwn opening passes n v → IsOwn opening passes n (looked v i r)
own_looked opening passes n i r v k = record { opening_is = k.opening_is; passes_are = k.passes_are; number_is = k.number_is; numbers = k.numbers; free = k.free; only = k.only }

pub own_finished : (opening : List Gv) (passes n i many : ℕ) (j : List ℕ) (v : View) → IsOwn opening passes n v → IsOwn opening passes n (finished_with (holding v i j) i many)
own_finished opening passes n i many j v k = record {
  opening_is = k.opening_is;
  passes_are = k.passes_are;
  number_is = k.number_is;
  numbers = k.numbers;
  free = refl;
  only = λ p c ne. omega (arith, k.only p c ne, count_done p c i many (holding v i j), total-zeros (is_pair p c) many (v.number, i) (ap (λ m. is_pair p c (m, i)) k.number_is ∙ is_pair_none p n c i ne));
}

-- that many more are done at the cabinet i
pub done_after : (done : List ℕ) (n i many x : ℕ) (v w : View) → w.done ≡ v.done ++ replicate many (n, i) → length done ≡ 64 → x ≡ get_or done i 0 + many → i < 64
    → ((c : ℕ) → c < 64 → get_or done c 0 ≡ count n c v)
    → (c : ℕ) → c < 64 → get_or (set done i x) c 0 ≡ count n c w
done_after done n i many x v w e wide more inside before c in_range =
    let counts : count n c w ≡ count n c v + total (is_pair n c) (replicate many (n, i)) = ap (total (is_pair n c)) e ∙ total-append (is_pair n c) v.done (replicate many (n, i)) in
    dite (ℕ_discrete c i)
    (λ z. let own : is_pair n c (n, i) ≡ 1 = ap (λ y. is_pair n y (n, i)) z ∙ is_pair_own n i in
    omega (arith, before c in_range, counts, total-ones (is_pair n c) many (n, i) own, more, ap (λ y. get_or (set done i x) y 0) z, get_or-set_same done i x 0 (omega arith), ap (λ y. get_or done y 0) z))
    (λ ne. omega (arith, before c in_range, counts, total-zeros (is_pair n c) many (n, i) (is_pair_cab n n i c ne), get_or-set_other done i c x 0 ne))

-- what a call's views say of counts and looks
pub brought_done : (v w : View) (c many : ℕ) → HasBrought v w c many → w.done ≡ v.done ++ replicate many (v.number, c)
brought_done v w c many h = ap (λ (x : View). x.done) h.2

pub brought_one : (v w : View) (c many : ℕ) → 1 ≤ many → many ≤ 1 → HasBrought v w c many → HasActed v w c
brought_one v w c many least most h = let one : many ≡ 1 = omega (arith, least, most) in subst (λ n. HasBrought v w c n) one h

-- the word that an answer says
abbrev pub word_told : Act → ℕ
word_told Done = 0
word_told (Busy word) = word

module _ (v w : View) (c word : ℕ) where
  abbrev FoundOdd : Type 0
  FoundOdd = (word % 2 ≡ 1) × (w ≡ looked v c word)

  abbrev FoundOther : Type 0
  FoundOther = (seen : ℕ) × (seen % 2 ≡ 0) × (word ≢ seen) × (w ≡ looked (looked v c seen) c word)

  pub met_done : WasMet v w c word → w.done ≡ v.done
  met_done h = ⊎_elim (λ (x : FoundOdd). ap (λ (y : View). y.done) x.1) (λ (x : FoundOther). ap (λ (y : View). y.done) x.3) h

  pub met_same : WasMet v w c word → SameCounts v w
  met_same h = ⊎_elim
      (λ (x : FoundOdd). subst (λ u. SameCounts v u) (sym x.1) ((λ p d. refl), (λ d. refl)))
      (λ (x : FoundOther). subst (λ u. SameCounts v u) (sym x.3) ((λ p d. refl), (λ d. refl)))
      h

  pub met_seen : WasMet v w c word → HasSeen v w c word
  met_seen h = ⊎_elim
      (λ (x : FoundOdd). subst (λ u. HasSeen v u c word) (sym x.1) (omega arith, refl, inl x.0))
      (λ (x : FoundOther). subst (λ u. HasSeen v u c word) (sym x.3) (omega arith, refl, inr (omega arith, refl, λ z. x.2 (sym z))))
      h

module _ {B : Type 0} where
  -- the seat after the book was changed in its slot
  pub changed : (i : ℕ) (w : View) (b x : B) (m m1 : Sat B) → m ≡ (w, (i, b) ∷ []) → m1.0 ≡ m.0 → m1.1 ≡ (i, x) ∷ [] → m1 ≡ (w, (i, x) ∷ [])
  changed i w b x m m1 e e1 e2 = ap (λ v. (v, m1.1)) (e1 ∙ ap (λ (k : Sat B). k.0) e) ∙ ap (λ (l : List (ℕ × B)). (w, l)) e2

  pub done_within : (left_of : B → ℕ → ℕ) (books : List B) (done : List ℕ) (items : ℕ → ℕ) (n i many x : ℕ) → length done ≡ 64 → i < 64 → x ≡ get_or done i 0 + many → get_or done i 0 + many ≤ items i
      → ((c : ℕ) (first : B) → get_elem? books c ≡ some first → (get_or done c 0 ≤ left_of first n) × (items c ≡ left_of first n) × (left_of first n ≤ 2147483648))
      → (c : ℕ) (first : B) → get_elem? books c ≡ some first → (get_or (set done i x) c 0 ≤ left_of first n) × (items c ≡ left_of first n) × (left_of first n ≤ 2147483648)
  done_within left_of books done items n i many x wide inside more room before c first there = let b = before c first there in (
    dite (ℕ_discrete c i)
        (λ z. omega (arith, b.1, more, room, ap items z, ap (λ y. get_or (set done i x) y 0) z, get_or-set_same done i x 0 (omega arith)))
        (λ ne. omega (arith, b.0, get_or-set_other done i c x 0 ne)),
    b.1,
    b.2,
  )

module _ {B : Type 0} (code : B → Gv) (journal : B → List ℕ) (left_of : B → ℕ → ℕ) (Replays : B → B → Type 0) where
  -- the book that was taken has this number of items left of this pass
  pub has_items : (books : List B) (passes n i r most : ℕ) (v : View) (m : Sat B) (b : B) → IsOwn (map code books) passes n v → m ≡ (looked v i r, []) → i < length books
      → Since code journal left_of Replays m.0.opening i b → times m.0.number (journal b) ≡ count m.0.number i m.0
      → ((first : B) → get_elem? books i ≡ some first → count n i v + most ≤ left_of first n) → most ≤ left_of b n
  has_items books passes n i r most v m b own e inside since counted more =
      let f = there_is books i inside in
      let opening : m.0.opening ≡ map code books = ap (λ (k : Sat B). k.0.opening) e ∙ own.opening_is in
      let mine = (since f.0 (ap (λ l. get_elem? l i) opening ∙ at_map code books i f.0 f.1)).1 n in
      let number : m.0.number ≡ n = ap (λ (k : Sat B). k.0.number) e ∙ own.number_is in
      let had : times n (journal b) ≡ count n i v = ap (λ k. times k (journal b)) (sym number) ∙ (counted ∙ (ap (λ (k : Sat B). count k.0.number i k.0) e ∙ ap (λ k. count k i v) own.number_is)) in
      omega (arith, mine, had, more f.0 f.1)

  -- the changed book replays its journal from the same first one
  pub since_changed : (opening : List Gv) (i n many : ℕ) (b b' : B) → Since code journal left_of Replays opening i b → journal b' ≡ journal b ++ replicate many n → left_of b' n + many ≡ left_of b n → ((p : ℕ) → p ≢ n → left_of b' p ≡ left_of b p)
      → ((first : B) → Replays first b → Replays first b') → Since code journal left_of Replays opening i b'
  since_changed opening i n many b b' since grown own others replays first there = let s = since first there in (
    replays first s.0,
    λ p. let more = total-append (is_one p) (journal b) (replicate many n) in let same = ap (times p) grown in
        dite (ℕ_discrete n p)
        (λ e. omega (arith, s.1 p, more, same, total-ones (is_one p) many n (one_same p n e), own, ap (left_of b) e, ap (left_of b') e))
        (λ ne. omega (arith, s.1 p, more, same, total-zeros (is_one p) many n (one_other p n ne), others p (λ z. ne (sym z)))),
  )
