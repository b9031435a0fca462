-- A list is read item by item, where a fault of an item may hang on what the earlier ones say.
use Rattle.std.proofs.Common.{◌≡◌, ℕ, ◌+◌, ◌<◌, ◌≤◌, List, [], ◌∷◌, ◌++◌, length, drop, get_or, refl, sym, ap, ◌∙◌, append-nil, append_assoc}
use Rattle.std.proofs.lemmas.List.{drop_more, drop_all}
use Rattle.serde_json.specs.Data.{Data}
use Rattle.serde_json.specs.View.{view, items_view}
use Rattle.serde_json.specs.declared.value.Value.{Value}
use Rattle.scenario_data.specs.declared.refusal.ReadFail.{ReadFail}
use Rattle.scenario_read.specs.Paths.{Step, then_item}
use Rattle.scenario_read.specs.Kinds.{Kind, each_behind}
use Rattle.scenario_read.specs.Content.{each_of}
use Rattle.scenario_read.specs.Readers.{Refuses}
use Rattle.scenario_read.proofs.Refusing.{refuses_more}

-- the items before place i have no faults; this is what they say, and what they say to the later ones
pub record WalkedBehind {A B : Type 0} (kind : List B → Kind) (says : Data → B) (path : List Step) (f : Data → A) (all : List Value) (earlier : List B) (found : List A) (i : ℕ) : Type 0 where
  pub causes : each_behind kind says path 0 [] (items_view all) ≡ each_behind kind says path i earlier (items_view (drop i all))
  pub content : each_of f (items_view all) ≡ found ++ each_of f (items_view (drop i all))

pub Behind-start : {A B : Type 0} (kind : List B → Kind) (says : Data → B) (path : List Step) (f : Data → A) (all : List Value) → WalkedBehind kind says path f all [] [] 0
Behind-start kind says path f all = record { causes = refl; content = refl }

pub Behind-next : {A B : Type 0} (kind : List B → Kind) (says : Data → B) (path : List Step) (f : Data → A) (all : List Value) (earlier : List B) (found : List A) (i : ℕ) (d : Value) (b : B) (a : A)
    → i < length all → kind earlier (then_item path i) (view (get_or all i d)) ≡ [] → b ≡ says (view (get_or all i d)) → a ≡ f (view (get_or all i d))
    → WalkedBehind kind says path f all earlier found i → WalkedBehind kind says path f all (earlier ++ b ∷ []) (found ++ a ∷ []) (i + 1)
Behind-next kind says path f all earlier found i d b a within none told is w =
    let here = drop_more all i d within in
    let rest = items_view (drop (i + 1) all) in
    record {
      causes = w.causes ∙ ap (λ xs. each_behind kind says path i earlier (items_view xs)) here
          ∙ ap (λ causes. causes ++ each_behind kind says path (i + 1) (earlier ++ says (view (get_or all i d)) ∷ []) rest) none
          ∙ ap (λ c. each_behind kind says path (i + 1) (earlier ++ c ∷ []) rest) (sym told);
      content = w.content ∙ ap (λ xs. found ++ each_of f (items_view xs)) here ∙ ap (λ c. found ++ (c ∷ each_of f rest)) (sym is) ∙ sym (append_assoc found (a ∷ []) _);
    }

-- the first fault of the item at place i is that of the list
pub Behind-refused : {A B : Type 0} (kind : List B → Kind) (says : Data → B) (path : List Step) (f : Data → A) (all : List Value) (earlier : List B) (found : List A) (i : ℕ) (d : Value) (fail : ReadFail)
    → i < length all → Refuses fail (kind earlier (then_item path i) (view (get_or all i d))) → WalkedBehind kind says path f all earlier found i
    → Refuses fail (each_behind kind says path 0 [] (items_view all))
Behind-refused kind says path f all earlier found i d fail within refused w =
    rw (w.causes, drop_more all i d within) (refuses_more fail _ _ refused)

pub Behind-done : {A B : Type 0} (kind : List B → Kind) (says : Data → B) (path : List Step) (f : Data → A) (all : List Value) (earlier : List B) (found : List A) (i : ℕ) → length all ≤ i
    → WalkedBehind kind says path f all earlier found i → (each_behind kind says path 0 [] (items_view all) ≡ []) × (found ≡ each_of f (items_view all))
Behind-done kind says path f all earlier found i past w =
    let none = drop_all i all past in (
      w.causes ∙ ap (λ xs. each_behind kind says path i earlier (items_view xs)) none,
      sym (w.content ∙ ap (λ xs. found ++ each_of f (items_view xs)) none ∙ append-nil found),
    )
