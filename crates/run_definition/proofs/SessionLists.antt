-- Lists: what filters keep, what is at a place, and items that are ordered by rounds.
use Rattle.std.proofs.Common.{◌≡◌, ◌∙◌, ◌+◌, ◌<◌, ◌≤◌, cond, ℕ, Bool, true, false, nat_le, nat_lt, if◌then◌else◌, List, [], ◌∷◌, ◌++◌, filter, find, get_or, drop, Some, None, is_some, true≢false, refl, sym, ap, arith, get_or-drop, drop-drop, ltb-false}
use Rattle.std.proofs.lemmas.Bool.{lt-leb}
use Rattle.std.specs.List.{AllByRecursion}
use Rattle.run_definition.specs.SessionRecord.{of_rounds}
use Rattle.run_definition.specs.SessionDialogue.{first_early}

-- ---- filters

one-more : {X : Type 0} (b : Bool) (x : X) (more xs ys : List X) → more ≡ xs ++ ys → cond b (x ∷ more) more ≡ cond b (x ∷ xs) xs ++ ys
one-more true x more xs ys e = ap (λ r. x ∷ r) e
one-more false x more xs ys e = e

pub filter-append : {X : Type 0} (keep : X → Bool) (xs ys : List X) → filter keep (xs ++ ys) ≡ filter keep xs ++ filter keep ys
filter-append keep [] ys = refl
filter-append keep (x ∷ xs) ys =
    one-more (keep x) x (filter keep (xs ++ ys)) (filter keep xs) (filter keep ys) (filter-append keep xs ys)

pub filter-all : {X : Type 0} (keep : X → Bool) (xs : List X) → AllByRecursion (λ x. keep x ≡ true) xs → filter keep xs ≡ xs
filter-all keep [] all = refl
filter-all keep (x ∷ xs) all = let e : keep x ≡ true = all.0 in rw e (ap (λ r. x ∷ r) (filter-all keep xs all.1))

pub filter-none : {X : Type 0} (keep : X → Bool) (xs : List X) → AllByRecursion (λ x. keep x ≡ false) xs → filter keep xs ≡ []
filter-none keep [] all = refl
filter-none keep (x ∷ xs) all = let e : keep x ≡ false = all.0 in rw e (filter-none keep xs all.1)

-- a test that passes only what another passes sees no difference where the other has filtered
within-filter : {X : Type 0} (b : Bool) (x : X) (p : X → Bool) (xs ys : List X) → (b ≡ false → p x ≡ false) → filter p xs ≡ filter p ys
    → filter p (cond b (x ∷ xs) xs) ≡ cond (p x) (x ∷ filter p ys) (filter p ys)
within-filter true x p xs ys out ih = ap (λ r. cond (p x) (x ∷ r) r) ih
within-filter false x p xs ys out ih = let e : p x ≡ false = out refl in rw e ih

pub filter-within : {X : Type 0} (p q : X → Bool) → ((x : X) → q x ≡ false → p x ≡ false) → (xs : List X) → filter p (filter q xs) ≡ filter p xs
filter-within p q out [] = refl
filter-within p q out (x ∷ xs) = within-filter (q x) x p (filter q xs) xs (out x) (filter-within p q out xs)

within-find : {X : Type 0} (b : Bool) (x : X) (p : X → Bool) (xs ys : List X) → (b ≡ false → p x ≡ false) → find p xs ≡ find p ys
    → find p (cond b (x ∷ xs) xs) ≡ cond (p x) (Some x) (find p ys)
within-find true x p xs ys out ih = ap (λ r. cond (p x) (Some x) r) ih
within-find false x p xs ys out ih = let e : p x ≡ false = out refl in rw e ih

pub find-within : {X : Type 0} (p q : X → Bool) → ((x : X) → q x ≡ false → p x ≡ false) → (xs : List X) → find p (filter q xs) ≡ find p xs
find-within p q out [] = refl
find-within p q out (x ∷ xs) = within-find (q x) x p (filter q xs) xs (out x) (find-within p q out xs)

-- ---- tests

pub if-true : {X : Type 0} (b : Bool) (x y : X) → b ≡ true → (if b then x else y) ≡ x
if-true b x y e = rw e refl

pub if-false : {X : Type 0} (b : Bool) (x y : X) → b ≡ false → (if b then x else y) ≡ y
if-false b x y e = rw e refl

-- ---- places

pub at-drop : {X : Type 0} (xs ys : List X) (n : ℕ) (x d : X) → drop n xs ≡ x ∷ ys → get_or xs n d ≡ x
at-drop xs ys n x d e =
    let same : n + 0 ≡ n = omega arith in
    ap (λ (m : ℕ). get_or xs m d) (sym same) ∙ sym (get_or-drop n xs 0 d) ∙ ap (λ l. get_or l 0 d) e

pub behind-drop : {X : Type 0} (xs ys : List X) (n : ℕ) (x : X) → drop n xs ≡ x ∷ ys → drop (n + 1) xs ≡ ys
behind-drop xs ys n x e = sym (drop-drop 1 n xs) ∙ ap (λ l. drop 1 l) e

-- ---- items that are ordered by rounds

-- the first of some items isn't before this round, and none is before the one that it follows
pub record IsEarly {X : Type 0} (round_of : X → ℕ) (place last : ℕ) (x : X) (xs : List X) : Type 0 where
  pub first : last ≤ round_of x
  pub others : first_early round_of (place + 1) (round_of x) xs ≡ None

early-one : {X : Type 0} (round_of : X → ℕ) (place last : ℕ) (x : X) (xs : List X) (b : Bool) → nat_lt (round_of x) last ≡ b
    → (if b then Some place else first_early round_of (place + 1) (round_of x) xs) ≡ None → IsEarly round_of place last x xs
early-one round_of place last x xs true is e = absurd (true≢false (ap is_some e))
early-one round_of place last x xs false is e = record { first = ltb-false (round_of x) last is; others = e }

pub early-parts : {X : Type 0} (round_of : X → ℕ) (place last : ℕ) (x : X) (xs : List X)
    → first_early round_of place last (x ∷ xs) ≡ None → IsEarly round_of place last x xs
early-parts round_of place last x xs e = early-one round_of place last x xs (nat_lt (round_of x) last) refl e

-- of such items that begin after some rounds none is of these
pub rounds-late : {X : Type 0} (round_of : X → ℕ) (rounds place last : ℕ) (xs : List X) → first_early round_of place last xs ≡ None → rounds < last
    → of_rounds round_of rounds xs ≡ []
rounds-late round_of rounds place last [] e late = refl
rounds-late round_of rounds place last (x ∷ xs) e late =
    let parts = early-parts round_of place last x xs e in
    let behind : rounds < round_of x = omega (arith, parts.first, late) in
    let out : nat_le (round_of x) rounds ≡ false = lt-leb (round_of x) rounds behind in
    rw out (rounds-late round_of rounds (place + 1) (round_of x) xs parts.others behind)
