-- A loop over the cabinets: each element so far was changed and gave something, and the others are as before.
use Rattle.std.proofs.Common.{◌≡◌, ◌≢◌, ℕ, ◌+◌, ◌-◌, ◌<◌, ◌≤◌, List, [], ◌∷◌, ◌++◌, length, get_or, slice_set, inl, inr, refl, sym, ap, subst, ◌∙◌, length-append, arith}
use Rattle.std.proofs.lemmas.Bool.{cases_lt}
use Rattle.std.proofs.lemmas.List.{get_or_default, get_or-set_same, get_or-set_other, get_or_append_left, get_or-append_right, length-set}

pub record Goes {A E : Type 0} (R : ℕ → A → A → E → Type 0) (Q : ℕ → A → A → Type 0) (old now : List A) (all : List E) (k : ℕ) : Type 0 where
  pub lines : length now ≡ length old
  pub count : length all ≡ k
  pub done : (j : ℕ) (d : A) (e : E) → j < k → R j (get_or old j d) (get_or now j d) (get_or all j e)
  pub stays : (j : ℕ) (d : A) → j < k → Q j (get_or old j d) (get_or now j d)
  pub rest : (j : ℕ) (d : A) → k ≤ j → get_or now j d ≡ get_or old j d

move2 : {A : Type 0} (Q : A → A → Type 0) (a a2 b b2 : A) → a ≡ a2 → b ≡ b2 → Q a b → Q a2 b2
move2 Q a a2 b b2 p q h = subst (λ x. Q a2 x) q (subst (λ x. Q x b) p h)

move3 : {A E : Type 0} (R : A → A → E → Type 0) (a a2 b b2 : A) (c c2 : E) → a ≡ a2 → b ≡ b2 → c ≡ c2 → R a b c → R a2 b2 c2
move3 R a a2 b b2 c c2 p q r h = subst (λ x. R a2 b2 x) r (subst (λ x. R a2 x c) q (subst (λ x. R x b c) p h))

-- the last of a list
pub get_or_last : {A : Type 0} (xs : List A) (x : A) (k : ℕ) (d : A) → length xs ≡ k → get_or (xs ++ x ∷ []) k d ≡ x
get_or_last xs x k d count = get_or-append_right xs (x ∷ []) k k d count (omega arith) ∙ ap (λ n. get_or (x ∷ []) n d) (none k)
  where
    none : (n : ℕ) → n - n ≡ 0
    none n = omega arith

pub goes_start : {A E : Type 0} (R : ℕ → A → A → E → Type 0) (Q : ℕ → A → A → Type 0) (old : List A) (all : List E) → all ≡ [] → Goes R Q old old all 0
goes_start R Q old all none = record {
  lines = refl;
  count = ap length none;
  done = λ j d e low. absurd (omega (arith, low));
  stays = λ j d low. absurd (omega (arith, low));
  rest = λ j d high. refl;
}

pub goes_next : {A E : Type 0} (R : ℕ → A → A → E → Type 0) (Q : ℕ → A → A → Type 0) (old now : List A) (all : List E) (k : ℕ) (new : A) (given : E)
    → k < length old → Goes R Q old now all k → (x : A) → x ≡ get_or now k x → R k x new given → Q k x new
    → Goes R Q old (slice_set now k new) (all ++ given ∷ []) (k + 1)
goes_next {A} {E} R Q old now all k new given below goes x is did stayed = record {
  lines = length-set now k new ∙ goes.lines;
  count = omega (arith, goes.count, length-append all (given ∷ []));
  done = λ j d e low. elim (cases_lt j k) [
    | inl less ↦
        let other : j ≢ k = omega (arith, less) in
        move3 (R j) _ _ _ _ _ _ refl (sym (get_or-set_other now k j new d other)) (sym (get_or_append_left all (given ∷ []) e j (omega (arith, less, goes.count)))) (goes.done j d e less)
    | inr most ↦
        let same : k ≡ j = omega (arith, low, most) in
        let here : k < length now = omega (arith, below, goes.lines) in
        subst (λ i. R i (get_or old i d) (get_or (slice_set now k new) i d) (get_or (all ++ given ∷ []) i e)) same
        (move3 (R k) _ _ _ _ _ _ (is ∙ get_or_default now k x d here ∙ goes.rest k d (omega arith)) (sym (get_or-set_same now k new d here)) (sym (last e)) did)
  ];
  stays = λ j d low. elim (cases_lt j k) [
    | inl less ↦
        let other : j ≢ k = omega (arith, less) in
        move2 (Q j) _ _ _ _ refl (sym (get_or-set_other now k j new d other)) (goes.stays j d less)
    | inr most ↦
        let same : k ≡ j = omega (arith, low, most) in
        let here : k < length now = omega (arith, below, goes.lines) in
        subst (λ i. Q i (get_or old i d) (get_or (slice_set now k new) i d)) same
        (move2 (Q k) _ _ _ _ (is ∙ get_or_default now k x d here ∙ goes.rest k d (omega arith)) (sym (get_or-set_same now k new d here)) stayed)
  ];
  rest = λ j d high.
      let other : j ≢ k = omega (arith, high) in
      get_or-set_other now k j new d other ∙ goes.rest j d (omega (arith, high));
}
  where
    last : (e : E) → get_or (all ++ given ∷ []) k e ≡ given
    last e = get_or_last all given k e goes.count

-- where the loop stops within, the element there was changed, and each one stayed
pub stays_all : {A E : Type 0} (R : ℕ → A → A → E → Type 0) (Q : ℕ → A → A → Type 0) (old now : List A) (all : List E) (k : ℕ) (new : A)
    → k < length old → Goes R Q old now all k → (x : A) → x ≡ get_or now k x → Q k x new → ((j : ℕ) (x : A) → Q j x x)
    → (j : ℕ) (d : A) → j < length old → Q j (get_or old j d) (get_or (slice_set now k new) j d)
stays_all R Q old now all k new below goes x is stayed itself j d within = elim (cases_lt j k) [
  | inl less ↦
      let other : j ≢ k = omega (arith, less) in
      move2 (Q j) _ _ _ _ refl (sym (get_or-set_other now k j new d other)) (goes.stays j d less)
  | inr most ↦ elim (cases_lt k j) [
    | inl more ↦
        let other : j ≢ k = omega (arith, more) in
        move2 (Q j) _ _ _ _ refl (sym (get_or-set_other now k j new d other ∙ goes.rest j d (omega (arith, more)))) (itself j (get_or old j d))
    | inr least ↦
        let same : k ≡ j = omega (arith, most, least) in
        let here : k < length now = omega (arith, below, goes.lines) in
        subst (λ i. Q i (get_or old i d) (get_or (slice_set now k new) i d)) same
        (move2 (Q k) _ _ _ _ (is ∙ get_or_default now k x d here ∙ goes.rest k d (omega arith)) (sym (get_or-set_same now k new d here)) stayed)
  ]
]

-- an element of a list that has one
pub some_of : {A : Type 0} (xs : List A) (k : ℕ) → k < length xs → A
some_of [] k below = absurd (omega (arith, below))
some_of (x ∷ xs) k below = x
