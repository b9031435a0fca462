-- A list is read item by item: the faults and the content of those before a place are known.
use Rattle.std.proofs.Common.{◌≡◌, Bool, true, false, ◌&&◌, nat_le, if◌then◌else◌, ℕ, suc, ◌+◌, ◌<◌, ◌≤◌, List, [], ◌∷◌, ◌++◌, length, drop, get_or, map, refl, sym, ap, ◌∙◌, append-nil, append_assoc}
use Rattle.std.proofs.lemmas.Bool.{leb-true, le-leb}
use Rattle.std.proofs.lemmas.List.{drop_more, drop_all}
use Rattle.serde_json.specs.Data.{Data, Items, no_items, item}
use Rattle.serde_json.specs.Events.{items_len}
use Rattle.serde_json.specs.View.{view, items_view}
use Rattle.serde_json.specs.declared.value.Value.{Value}
use Rattle.scenario_data.specs.declared.refusal.ReadFail.{ReadFail}
use Rattle.scenario_read.specs.Paths.{Step, then_item}
use Rattle.scenario_read.specs.Kinds.{Fits, Beyond, Kind, within, each}
use Rattle.scenario_read.specs.Content.{each_of}
use Rattle.scenario_read.specs.Readers.{Refuses}
use Rattle.scenario_read.proofs.Refusing.{refuses_more}

-- the items before place i have no faults, and this is what they say
pub record Walked {A : Type 0} (kind : Kind) (path : List Step) (f : Data → A) (all : List Value) (found : List A) (i : ℕ) : Type 0 where
  pub causes : each kind path 0 (items_view all) ≡ each kind path i (items_view (drop i all))
  pub content : each_of f (items_view all) ≡ found ++ each_of f (items_view (drop i all))

pub Walked-start : {A : Type 0} (kind : Kind) (path : List Step) (f : Data → A) (all : List Value) → Walked kind path f all [] 0
Walked-start kind path f all = record { causes = refl; content = refl }

-- as many are said as there are items
pub each_of-len : {A : Type 0} (says : Data → A) (ds : Items) → length (each_of says ds) ≡ items_len ds
each_of-len says no_items = refl
each_of-len says (item d ds) = ap suc (each_of-len says ds)

pub map-more : {A B : Type 0} (f : A → B) (xs : List A) (x : A) → map f (xs ++ x ∷ []) ≡ map f xs ++ f x ∷ []
map-more f [] x = refl
map-more f (y ∷ xs) x = ap (λ zs. f y ∷ zs) (map-more f xs x)

pub Walked-next : {A : Type 0} (kind : Kind) (path : List Step) (f : Data → A) (all : List Value) (found : List A) (i : ℕ) (d : Value) (a : A) → i < length all
    → kind (then_item path i) (view (get_or all i d)) ≡ [] → a ≡ f (view (get_or all i d))
    → Walked kind path f all found i → Walked kind path f all (found ++ a ∷ []) (i + 1)
Walked-next kind path f all found i d a within none is w =
    let here = drop_more all i d within in
    record {
      causes = w.causes ∙ ap (λ xs. each kind path i (items_view xs)) here ∙ ap (λ causes. causes ++ each kind path (i + 1) (items_view (drop (i + 1) all))) none;
      content = w.content ∙ ap (λ xs. found ++ each_of f (items_view xs)) here ∙ ap (λ b. found ++ (b ∷ each_of f (items_view (drop (i + 1) all)))) (sym is) ∙ sym (append_assoc found (a ∷ []) _);
    }

-- the first fault of the item at place i is that of the list
pub Walked-refused : {A : Type 0} (kind : Kind) (path : List Step) (f : Data → A) (all : List Value) (found : List A) (i : ℕ) (d : Value) (fail : ReadFail) → i < length all
    → Refuses fail (kind (then_item path i) (view (get_or all i d))) → Walked kind path f all found i → Refuses fail (each kind path 0 (items_view all))
Walked-refused kind path f all found i d fail within refused w =
    rw (w.causes, drop_more all i d within) (refuses_more fail _ _ refused)

pub Walked-done : {A : Type 0} (kind : Kind) (path : List Step) (f : Data → A) (all : List Value) (found : List A) (i : ℕ) → length all ≤ i
    → Walked kind path f all found i → (each kind path 0 (items_view all) ≡ []) × (found ≡ each_of f (items_view all))
Walked-done kind path f all found i past w =
    let none = drop_all i all past in (
      w.causes ∙ ap (λ xs. each kind path i (items_view xs)) none,
      sym (w.content ∙ ap (λ xs. found ++ each_of f (items_view xs)) none ∙ append-nil found),
    )

pub within-fits : (least most n : ℕ) → least ≤ n → n ≤ most → within least most n ≡ Fits
within-fits least most n a b = rw (le-leb least n a, le-leb n most b) refl

pub within-beyond : (least most n : ℕ) → (least ≤ n → n ≤ most → ⊥) → within least most n ≡ Beyond
within-beyond least most n out = decide (nat_le least n) (nat_le n most) refl refl
  where
    decide : (a b : Bool) → nat_le least n ≡ a → nat_le n most ≡ b → (if a && b then Fits else Beyond) ≡ Beyond
    decide true true p q = absurd (out (leb-true least n p) (leb-true n most q))
    decide true false p q = refl
    decide false b p q = refl
