-- A way to read that is exact for the texts of values: what it gives were there, and what is there it gives.
use Rattle.std.proofs.Common.{◌≡◌, ◌≢◌, ℕ, zero, suc, ◌≤◌, Bool, true, false, cond, List, [], ◌∷◌, ◌++◌, length, Option, Some, None, refl, sym, ap, subst, ◌∙◌, append_assoc, arith, inl, inr, ◌⊎◌}
use Rattle.std.specs.Prelude.{IfSome, IfNone}
use Rattle.std.proofs.lemmas.List.{append-nil, append_cancel_right}
use Rattle.std.proofs.lemmas.Option.{none-some, some_pair_parts}
use Rattle.ber_code.specs.Fields.{Begins, NothingBegins, AreTexts, StandsAlone}
use Rattle.ber_code.specs.Reading.{◌>>=◌, Gives, ReadsEach, all_at, with_front}

pub record Exact {A : Type 0} (IsText : List ℕ → A → Type 0) (read : List ℕ → Option (A × List ℕ)) : Type 0 where
  pub found : (bytes rest : List ℕ) (value : A) → read bytes ≡ Some (value, rest) → Begins IsText bytes value rest
  pub again : (text rest : List ℕ) (value : A) → IsText text value → read (text ++ rest) ≡ Some (value, rest)

-- ---- steps

-- the value of a step that gave one
pub bind_some : {A B : Type 0} (r : Option A) (f : A → Option B) (y : B) → (r >>= f) ≡ Some y → (x : A) × (r ≡ Some x) × (f x ≡ Some y)
bind_some (Some x) f y e = (x, refl, e)
bind_some None f y e = absurd cc

-- which way a test went
pub chosen : {A : Type 0} (b : Bool) (x y z : A) → cond b x y ≡ z → ((b ≡ true) × (x ≡ z)) ⊎ ((b ≡ false) × (y ≡ z))
chosen true x y z e = inl (refl, e)
chosen false x y z e = inr (refl, e)

-- a test that didn't refuse
pub not_refused : {A : Type 0} (b : Bool) (x : Option A) (y : A) → cond b None x ≡ Some y → (b ≡ false) × (x ≡ Some y)
not_refused true x y e = absurd cc
not_refused false x y e = (refl, e)

-- a test that let through
pub let_through : {A : Type 0} (b : Bool) (x : Option A) (y : A) → cond b x None ≡ Some y → (b ≡ true) × (x ≡ Some y)
let_through true x y e = (refl, e)
let_through false x y e = absurd cc

-- ---- what exactness gives

pub found_by : {X A : Type 0} {IsText : List ℕ → A → Type 0} {read : List ℕ → Option (A × List ℕ)} (value : X → A) (rest : X → List ℕ) → Exact IsText read
    → (bytes : List ℕ) (r : Option X) → Gives (λ x. (value x, rest x)) r (read bytes) → IfSome r (λ x. Begins IsText bytes (value x) (rest x))
found_by value rest exact bytes (Some x) given = exact.found bytes (rest x) (value x) given
found_by value rest exact bytes None given = tt

pub none_by : {X A : Type 0} {IsText : List ℕ → A → Type 0} {read : List ℕ → Option (A × List ℕ)} (value : X → A) (rest : X → List ℕ) → Exact IsText read
    → (bytes : List ℕ) (r : Option X) → Gives (λ x. (value x, rest x)) r (read bytes) → IfNone r (NothingBegins IsText bytes)
none_by value rest exact bytes (Some x) given = tt
none_by {read = read} value rest exact bytes None given = λ text after v is e. none-some (v, after) (sym given ∙ ap read e ∙ exact.again text after v is)

pub each_by : {X A : Type 0} {IsText : List ℕ → A → Type 0} {read : List ℕ → Option (A × List ℕ)} (view : X → A × List ℕ) → Exact IsText read
    → (bytes : List ℕ) (r : Option X) → Gives view r (read bytes) → ReadsEach IsText view bytes r
each_by {read = read} view exact bytes r given = λ text after v is e.
    let there = ap read e ∙ exact.again text after v is in
    subst (λ o. Gives view r o) there given

pub alone_by : {A : Type 0} {IsText : List ℕ → A → Type 0} {read : List ℕ → Option (A × List ℕ)} → Exact IsText read → StandsAlone IsText
alone_by {read = read} exact text other x y a b is is' e =
    let same = some_pair_parts a b x y (sym (exact.again text x a is) ∙ ap read e ∙ exact.again other y b is') in
    (append_cancel_right text other y (ap (λ (t : List ℕ). text ++ t) (sym same.1) ∙ e), same.0)

-- ---- values one after the other

module _ {A : Type 0} {IsText : List ℕ → A → Type 0} {read : List ℕ → Option (A × List ℕ)} (exact : Exact IsText read) where
  pub all_found : (n : ℕ) (bytes : List ℕ) (values : List A) → all_at read n bytes ≡ Some values → AreTexts IsText bytes values × (length values ≤ n)
  unfolding all_at
  all_found zero [] values e = subst (λ (vs : List A). AreTexts IsText [] vs × (length vs ≤ 0)) (let f : [] ≡ values = cc in f) (refl, omega arith)
  all_found zero (b ∷ rest) values e = absurd cc
  all_found (suc n) [] values e = subst (λ (vs : List A). AreTexts IsText [] vs × (length vs ≤ suc n)) (let f : [] ≡ values = cc in f) (refl, omega arith)
  all_found (suc n) (b ∷ rest) values e =
      let first = bind_some (read (b ∷ rest)) (λ x. all_at read n x.1 >>= λ others. Some (x.0 ∷ others)) values e in
      let others = bind_some (all_at read n first.0.1) (λ vs. Some (first.0.0 ∷ vs)) values first.2 in
      let text = exact.found (b ∷ rest) first.0.1 first.0.0 first.1 in
      let more = all_found n first.0.1 others.0 others.1 in
      let made : first.0.0 ∷ others.0 ≡ values = cc (others.2) in
      subst (λ (vs : List A). AreTexts IsText (b ∷ rest) vs × (length vs ≤ suc n)) made ((text.0, first.0.1, text.1, more.0, text.2), omega (arith, more.1))

  pub all_again : read [] ≡ None → (n : ℕ) (bytes : List ℕ) (values : List A) → AreTexts IsText bytes values → length values ≤ n → all_at read n bytes ≡ Some values
  unfolding all_at
  all_again empty zero bytes [] are few = rw are refl
  all_again empty (suc n) bytes [] are few = rw are refl
  all_again empty zero bytes (v ∷ vs) are few = absurd (omega arith)
  all_again empty (suc n) [] (v ∷ vs) are few =
      absurd (none-some (v, are.1) (sym empty ∙ ap read are.4 ∙ exact.again are.0 are.1 v are.2))
  all_again empty (suc n) (b ∷ rest) (v ∷ vs) are few =
      let first : read (b ∷ rest) ≡ Some (v, are.1) = ap read are.4 ∙ exact.again are.0 are.1 v are.2 in
      rw (first, all_again empty n are.1 vs are.3 (omega arith)) refl

-- ---- a loop over such values

regroup : {A : Type 0} (front : List A) (v : A) (read : Option (List A)) → with_front front (read >>= λ others. Some (v ∷ others)) ≡ with_front (front ++ v ∷ []) read
regroup front v (Some others) = ap Some (simp append_assoc)
regroup front v None = refl

module _ {A : Type 0} (read : List ℕ → Option (A × List ℕ)) where
  -- one value more
  pub goes_on : (front : List A) (n m : ℕ) (bytes : List ℕ) (v : A) (after : List ℕ) → n ≡ suc m → length bytes ≢ 0 → read bytes ≡ Some (v, after)
      → with_front front (all_at read n bytes) ≡ with_front (front ++ v ∷ []) (all_at read m after)
  unfolding all_at
  goes_on front n m [] v after e some is = absurd (some refl)
  goes_on front n m (b ∷ rest) v after e some is = rw (e, is) (regroup front v (all_at read m after))

  -- no value where octets are left
  pub gives_up : (front : List A) (n m : ℕ) (bytes : List ℕ) → n ≡ suc m → length bytes ≢ 0 → read bytes ≡ None → with_front front (all_at read n bytes) ≡ None
  unfolding all_at
  gives_up front n m [] e some is = absurd (some refl)
  gives_up front n m (b ∷ rest) e some is = rw (e, is) refl

  -- no octets are left
  pub is_done : (front : List A) (n : ℕ) (bytes : List ℕ) → length bytes ≡ 0 → with_front front (all_at read n bytes) ≡ Some front
  unfolding all_at
  is_done front zero [] none = ap Some (append-nil front)
  is_done front (suc n) [] none = ap Some (append-nil front)
  is_done front zero (b ∷ rest) none = absurd (omega arith)
  is_done front (suc n) (b ∷ rest) none = absurd (omega arith)

  -- octets are left past the last value
  pub is_full : (front : List A) (n : ℕ) (bytes : List ℕ) → n ≡ 0 → length bytes ≢ 0 → with_front front (all_at read n bytes) ≡ None
  unfolding all_at
  is_full front n [] e some = absurd (some refl)
  is_full front n (b ∷ rest) e some = rw e refl
