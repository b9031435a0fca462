-- A journal that grows by one pass.
use Rattle.std.proofs.Common.{◌≡◌, ℕ, ◌+◌, ◌==◌, ◌∙◌, Bool, true, false, if◌then◌else◌, List, [], ◌∷◌, ◌++◌, get_or, refl, sym, ap, append_assoc, append-nil, arith}
use Rattle.sig_types.specs.Items.{Item, Ticked}
use Rattle.cabinet_history.specs.CabinetHistory.{CabinetHistory, with_item, after}
use Rattle.cabinet_history.specs.Journals.{times, Act, act_of, acts_from, acts_of, items_in}

one_seen : (b : Bool) (x y n : ℕ) → n ≡ x + (if b then y + 1 else y) → n ≡ (if b then x + 1 else x) + y
one_seen true x y n e = omega (arith, e)
one_seen false x y n e = e

-- the item of a pass that is at this place
abbrev pub act_at : List (List Item) → ℕ → ℕ → Act
act_at streams p place = record { pass = p; item = get_or (get_or streams p []) place Ticked }

pub acts-from-more : (streams : List (List Item)) (before journal : List ℕ) (p place : ℕ) → place ≡ times p before + times p journal
    → acts_from streams before (journal ++ p ∷ []) ≡ acts_from streams before journal ++ act_at streams p place ∷ []
acts-from-more streams before [] p place e =
    let same : times p before ≡ place = omega (arith, e) in
    ap (λ (n : ℕ). act_at streams p n ∷ []) same
acts-from-more streams before (q ∷ journal) p place e =
    ap (λ (acts : List Act). act_of streams before q ∷ acts)
    (acts-from-more streams (q ∷ before) journal p place (one_seen (p == q) (times p before) (times p journal) place e))

pub acts-more : (streams : List (List Item)) (journal : List ℕ) (p place : ℕ) → place ≡ times p journal
    → acts_of streams (journal ++ p ∷ []) ≡ acts_of streams journal ++ act_at streams p place ∷ []
acts-more streams journal p place e = acts-from-more streams [] journal p place (omega (arith, e))

pub items-more : (acts more : List Act) → items_in (acts ++ more) ≡ items_in acts ++ items_in more
items-more [] more = refl
items-more (act ∷ acts) more = ap (λ (items : List Item). act.item ∷ items) (items-more acts more)

pub after-more : (cabinet_history : CabinetHistory) (items more : List Item) → after cabinet_history (items ++ more) ≡ after (after cabinet_history items) more
after-more cabinet_history [] more = refl
after-more cabinet_history (item ∷ items) more = after-more (with_item cabinet_history item) items more

pub cabinet_history-more : (cabinet_history : CabinetHistory) (acts : List Act) (act : Act) → after cabinet_history (items_in (acts ++ act ∷ [])) ≡ with_item (after cabinet_history (items_in acts)) act.item
cabinet_history-more cabinet_history acts act = ap (after cabinet_history) (items-more acts (act ∷ [])) ∙ after-more cabinet_history (items_in acts) (act.item ∷ [])

-- what each act says, one after another
pub told-more : {A : Type 0} (tells : CabinetHistory → Act → List A) (all : CabinetHistory → List Act → List A)
    → ((cabinet_history : CabinetHistory) → all cabinet_history [] ≡ [])
    → ((cabinet_history : CabinetHistory) (act : Act) (acts : List Act) → all cabinet_history (act ∷ acts) ≡ tells cabinet_history act ++ all (with_item cabinet_history act.item) acts)
    → (cabinet_history : CabinetHistory) (acts : List Act) (act : Act) → all cabinet_history (acts ++ act ∷ []) ≡ all cabinet_history acts ++ tells (after cabinet_history (items_in acts)) act
told-more {A = A} tells all none one cabinet_history [] act = one cabinet_history act [] ∙ ap (λ (x : List A). tells cabinet_history act ++ x) (none (with_item cabinet_history act.item)) ∙ append-nil (tells cabinet_history act) ∙ sym (ap (λ (x : List A). x ++ tells cabinet_history act) (none cabinet_history))
told-more {A = A} tells all none one cabinet_history (b ∷ acts) act =
    one cabinet_history b (acts ++ act ∷ [])
    ∙ ap (λ (x : List A). tells cabinet_history b ++ x) (told-more tells all none one (with_item cabinet_history b.item) acts act)
    ∙ sym (append_assoc (tells cabinet_history b) (all (with_item cabinet_history b.item) acts) (tells (after (with_item cabinet_history b.item) (items_in acts)) act))
    ∙ sym (ap (λ (x : List A). x ++ tells (after (with_item cabinet_history b.item) (items_in acts)) act) (one cabinet_history b acts))
