-- What the passes of some acts bring again: where each stream is what its pass brings in the acts, its items in
-- order, these are the acts.
use Rattle.std.proofs.Common.{◌≡◌, ◌∙◌, ◌⊎◌, inl, inr, ◌+◌, ◌==◌, if◌then◌else◌, ℕ, Bool, true, false, List, [], ◌∷◌, ◌++◌, length, get_or, drop, refl, sym, ap, arith, eq-eqb, ne_eqb}
use Rattle.std.proofs.lemmas.Bool.{cases_eq}
use Rattle.std.proofs.lemmas.List.{nil_from_length}
use Rattle.sig_types.specs.Items.{Item, Ticked}
use Rattle.cabinet_history.specs.Journals.{Act, times, acts_from}
use Rattle.run_definition.specs.SessionAnswers.{passes_in}
use Rattle.run_definition.proofs.SessionLists.{if-true, if-false, at-drop, behind-drop}

-- the items that a pass brings in these acts, in order
abbrev pub of_pass : ℕ → List Act → List Item
of_pass p [] = []
of_pass p (act ∷ acts) = if p == act.pass then act.item ∷ of_pass p acts else of_pass p acts

one-more : (b : Bool) (x : Item) (more xs ys : List Item) → more ≡ xs ++ ys → (if b then x ∷ more else more) ≡ (if b then x ∷ xs else xs) ++ ys
one-more true x more xs ys e = ap (λ (r : List Item). x ∷ r) e
one-more false x more xs ys e = e

pub of-pass-append : (p : ℕ) (acts more : List Act) → of_pass p (acts ++ more) ≡ of_pass p acts ++ of_pass p more
of-pass-append p [] more = refl
of-pass-append p (act ∷ acts) more =
    one-more (p == act.pass) act.item (of_pass p (acts ++ more)) (of_pass p acts) (of_pass p more) (of-pass-append p acts more)

one-taken : (b : Bool) (xs ys : List Item) (n : ℕ) (x : Item) → drop n xs ≡ (if b then x ∷ ys else ys) → drop (if b then n + 1 else n) xs ≡ ys
one-taken true xs ys n x e = behind-drop xs ys n x e
one-taken false xs ys n x e = e

-- after some passes each stream has still what its pass brings in these acts
abbrev pub AreLeft : List (List Item) → List ℕ → List Act → Type 0
AreLeft streams before acts = (p : ℕ) → drop (times p before) (get_or streams p []) ≡ of_pass p acts

pub acts-again : (streams : List (List Item)) (before : List ℕ) (acts : List Act) → AreLeft streams before acts → acts_from streams before (passes_in acts) ≡ acts
acts-again streams before [] left = refl
acts-again streams before (act ∷ acts) left =
    let q : ℕ = act.pass in
    let own : (q == q) ≡ true = eq-eqb q q refl in
    let here : drop (times q before) (get_or streams q []) ≡ act.item ∷ of_pass q acts =
    left q ∙ if-true (q == q) (act.item ∷ of_pass q acts) (of_pass q acts) own in
    let made : Item → Act = λ item. record { pass = q; item = item } in
    let later : AreLeft streams (q ∷ before) acts =
    λ p. one-taken (p == q) (get_or streams p []) (of_pass p acts) (times p before) act.item (left p) in
    ap (λ (item : Item). made item ∷ acts_from streams (q ∷ before) (passes_in acts)) (at-drop (get_or streams q []) (of_pass q acts) (times q before) act.item Ticked here)
    ∙ ap (λ (r : List Act). act ∷ r) (acts-again streams (q ∷ before) acts later)

-- a pass is in a journal as often as it brings something in the acts
one-counted : (b : Bool) (n : ℕ) (x : Item) (xs : List Item) → n ≡ length xs → (if b then n + 1 else n) ≡ length (if b then x ∷ xs else xs)
one-counted true n x xs e = omega (arith, e)
one-counted false n x xs e = e

pub passes-counted : (p : ℕ) (acts : List Act) → times p (passes_in acts) ≡ length (of_pass p acts)
passes-counted p [] = refl
passes-counted p (act ∷ acts) = one-counted (p == act.pass) (times p (passes_in acts)) act.item (of_pass p acts) (passes-counted p acts)

-- where a pass is in a journal as often as some items are, which are the next ones of its stream, it brings these what
-- is left to bring
abbrev Given : List (List Item) → ℕ → List ℕ → Type 0
Given streams p journal = (before : List ℕ) (items more : List Item) → drop (times p before) (get_or streams p []) ≡ items ++ more
    → times p journal ≡ length items → of_pass p (acts_from streams before journal) ≡ items

given-other : (streams : List (List Item)) (p q : ℕ) (journal before : List ℕ) (items more : List Item) → (p ≡ q → ⊥) → Given streams p journal
    → drop (times p before) (get_or streams p []) ≡ items ++ more → times p (q ∷ journal) ≡ length items
    → of_pass p (acts_from streams before (q ∷ journal)) ≡ items
given-other streams p q journal before items more other given e many =
    let t : (p == q) ≡ false = ne_eqb p q other in
    let rest : List Item = of_pass p (acts_from streams (q ∷ before) journal) in
    let brought : Item = get_or (get_or streams q []) (times q before) Ticked in
    if-false (p == q) (brought ∷ rest) rest t
    ∙ given (q ∷ before) items more
    (ap (λ (n : ℕ). drop n (get_or streams p [])) (if-false (p == q) (times p before + 1) (times p before) t) ∙ e)
    (sym (if-false (p == q) (times p journal + 1) (times p journal) t) ∙ many)

given-own : (streams : List (List Item)) (p q : ℕ) (journal before : List ℕ) (items more : List Item) → p ≡ q → Given streams p journal
    → drop (times p before) (get_or streams p []) ≡ items ++ more → times p (q ∷ journal) ≡ length items
    → of_pass p (acts_from streams before (q ∷ journal)) ≡ items
given-own streams p q journal before [] more same given e many =
    let t : (p == q) ≡ true = eq-eqb p q same in
    let some : times p journal + 1 ≡ 0 = sym (if-true (p == q) (times p journal + 1) (times p journal) t) ∙ many in
    absurd (omega (arith, some))
given-own streams p q journal before (x ∷ items) more same given e many =
    let t : (p == q) ≡ true = eq-eqb p q same in
    let counted : times p journal + 1 ≡ length (x ∷ items) = sym (if-true (p == q) (times p journal + 1) (times p journal) t) ∙ many in
    let rest : List Item = of_pass p (acts_from streams (q ∷ before) journal) in
    let brought : Item = get_or (get_or streams q []) (times q before) Ticked in
    let first : brought ≡ x =
    ap (λ (r : ℕ). get_or (get_or streams r []) (times r before) Ticked) (sym same)
    ∙ at-drop (get_or streams p []) (items ++ more) (times p before) x Ticked e in
    let later : rest ≡ items =
    given (q ∷ before) items more
    (ap (λ (n : ℕ). drop n (get_or streams p [])) (if-true (p == q) (times p before + 1) (times p before) t)
    ∙ behind-drop (get_or streams p []) (items ++ more) (times p before) x e)
    (omega (arith, counted)) in
    if-true (p == q) (brought ∷ rest) rest t
    ∙ ap (λ (y : Item). y ∷ rest) first
    ∙ ap (λ (r : List Item). x ∷ r) later

given-one : (streams : List (List Item)) (p q : ℕ) (journal before : List ℕ) (items more : List Item) → (p ≡ q) ⊎ (p ≡ q → ⊥) → Given streams p journal
    → drop (times p before) (get_or streams p []) ≡ items ++ more → times p (q ∷ journal) ≡ length items
    → of_pass p (acts_from streams before (q ∷ journal)) ≡ items
given-one streams p q journal before items more (inl same) given e many = given-own streams p q journal before items more same given e many
given-one streams p q journal before items more (inr other) given e many = given-other streams p q journal before items more other given e many

pub acts-given : (streams : List (List Item)) (p : ℕ) (journal before : List ℕ) (items more : List Item)
    → drop (times p before) (get_or streams p []) ≡ items ++ more → times p journal ≡ length items
    → of_pass p (acts_from streams before journal) ≡ items
acts-given streams p [] before items more e many = sym (nil_from_length items (sym many))
acts-given streams p (q ∷ journal) before items more e many =
    given-one streams p q journal before items more (cases_eq p q) (acts-given streams p journal) e many
