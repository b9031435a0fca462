-- What a cabinet shows at each tick, one line after another.
use Rattle.std.proofs.Common.{◌≡◌, ℕ, ◌+◌, ◌-◌, ◌<◌, ◌≤◌, nat_le, true, false, if◌then◌else◌, List, [], ◌∷◌, refl, sym, ◌∙◌, subst, arith, inl, inr}
use Rattle.std.proofs.lemmas.Bool.{le-leb, lt-leb, cases_lt}
use Rattle.safety_laws.specs.Safe.{Indications, dark}
use Rattle.judge_laws.specs.Breaches.{newest, Below}

-- what a cabinet shows at a tick, by its lines, the newest first
abbrev pub back_at : List (ℕ × Indications) → ℕ → Indications
back_at [] tick = dark
back_at (line ∷ older) tick = if nat_le line.0 tick then line.1 else back_at older tick

-- the newest is of this tick at the latest
abbrev pub Reached : ℕ → List (ℕ × Indications) → Type 0
Reached tick [] = Unit {0}
Reached tick (line ∷ older) = line.0 ≤ tick

pub below-reached : (older : List (ℕ × Indications)) (tick t : ℕ) → Below tick older → tick ≤ t + 1 → Reached t older
below-reached [] tick t b h = tt
below-reached (line ∷ older) tick t b h = omega (arith, b, h)

pub below-later : (older : List (ℕ × Indications)) (tick t : ℕ) → Below tick older → tick ≤ t → Below t older
below-later [] tick t b h = tt
below-later (line ∷ older) tick t b h = omega (arith, b, h)

pub at-newest : (older : List (ℕ × Indications)) (t : ℕ) → Reached t older → back_at older t ≡ newest older
at-newest [] t r = refl
at-newest (line ∷ older) t r = let e : nat_le line.0 t ≡ true = le-leb line.0 t r in rw e refl

pub at-line : (line : ℕ × Indications) (older : List (ℕ × Indications)) (t : ℕ) → line.0 ≤ t → back_at (line ∷ older) t ≡ line.1
at-line line older t r = let e : nat_le line.0 t ≡ true = le-leb line.0 t r in rw e refl

pub at-older : (line : ℕ × Indications) (older : List (ℕ × Indications)) (t : ℕ) → t < line.0 → back_at (line ∷ older) t ≡ back_at older t
at-older line older t r = let e : nat_le line.0 t ≡ false = lt-leb line.0 t r in rw e refl

-- a fact of what is shown at each tick
abbrev pub Always : (Indications → Type 0) → List (ℕ × Indications) → Type 0
Always S back = (t : ℕ) → S (back_at back t)

pub always-more : (S : Indications → Type 0) (line : ℕ × Indications) (older : List (ℕ × Indications))
    → Always S older → S line.1 → Always S (line ∷ older)
always-more S line older all now t = elim (cases_lt t line.0) [
  | inl low ↦ subst S (sym (at-older line older t low)) (all t)
  | inr high ↦ subst S (sym (at-line line older t high)) now
]

pub always-now : (S : Indications → Type 0) (line : ℕ × Indications) (older : List (ℕ × Indications)) → Always S (line ∷ older) → S line.1
always-now S line older all = subst S (at-line line older line.0 (omega arith)) (all line.0)

pub always-less : (S : Indications → Type 0) → S dark → (line : ℕ × Indications) (older : List (ℕ × Indications)) → Below line.0 older
    → Always S (line ∷ older) → Always S older
always-less S none line [] b all t = none
always-less S none line (last ∷ older) b all t = elim (cases_lt t line.0) [
  | inl low ↦ subst S (at-older line (last ∷ older) t low) (all t)
  | inr high ↦
      let low : last.0 < line.0 = b in
      let r : last.0 ≤ t = omega (arith, low, high) in
      let e : back_at (line ∷ last ∷ older) last.0 ≡ last.1 = at-older line (last ∷ older) last.0 low ∙ at-line last older last.0 (omega arith) in
      subst S (e ∙ sym (at-line last older t r)) (all last.0)
]

-- a fact of what is shown at a tick and at the next
abbrev pub Steps : (Indications → Indications → Type 0) → List (ℕ × Indications) → Type 0
Steps T back = (t : ℕ) → T (back_at back t) (back_at back (t + 1))

pub steps-more : (T : Indications → Indications → Type 0) → ((x : Indications) → T x x) → (line : ℕ × Indications) (older : List (ℕ × Indications))
    → Below line.0 older → Steps T older → (0 < line.0 → T (newest older) line.1) → Steps T (line ∷ older)
steps-more T same line older b all now t = elim (cases_lt t line.0) [
  | inl low ↦ elim (cases_lt (t + 1) line.0) [
    | inl lower ↦ subst (λ x. T x (back_at (line ∷ older) (t + 1))) (sym (at-older line older t low))
        (subst (λ x. T (back_at older t) x) (sym (at-older line older (t + 1) lower)) (all t))
    | inr high ↦
        let n : T (newest older) line.1 = now (omega (arith, low)) in
        subst (λ x. T x (back_at (line ∷ older) (t + 1)))
        (sym (at-older line older t low ∙ at-newest older t (below-reached older line.0 t b high)))
        (subst (λ x. T (newest older) x) (sym (at-line line older (t + 1) high)) n)
  ]
  | inr high ↦
      subst (λ x. T x (back_at (line ∷ older) (t + 1))) (sym (at-line line older t high))
      (subst (λ x. T line.1 x) (sym (at-line line older (t + 1) (omega (arith, high)))) (same line.1))
]

pub steps-now : (T : Indications → Indications → Type 0) (line : ℕ × Indications) (older : List (ℕ × Indications)) → Below line.0 older
    → Steps T (line ∷ older) → 0 < line.0 → T (newest older) line.1
steps-now T line older b all some =
    let t : ℕ = line.0 - 1 in
    let next : line.0 - 1 + 1 ≡ line.0 = omega (arith, some) in
    let low : line.0 - 1 < line.0 = omega (arith, some) in
    let here : back_at (line ∷ older) (line.0 - 1 + 1) ≡ line.1 = at-line line older (line.0 - 1 + 1) (omega (arith, some)) in
    let was : back_at (line ∷ older) (line.0 - 1) ≡ newest older
    = at-older line older (line.0 - 1) low ∙ at-newest older (line.0 - 1) (below-reached older line.0 (line.0 - 1) b (omega (arith, some))) in
    subst (λ x. T x line.1) was (subst (λ x. T (back_at (line ∷ older) (line.0 - 1)) x) here (all (line.0 - 1)))

pub steps-less : (T : Indications → Indications → Type 0) → ((x : Indications) → T x x) → (line : ℕ × Indications) (older : List (ℕ × Indications))
    → Below line.0 older → Steps T (line ∷ older) → Steps T older
steps-less T same line older b all t = elim (cases_lt (t + 1) line.0) [
  | inl lower ↦
      subst (λ x. T x (back_at older (t + 1))) (at-older line older t (omega (arith, lower)))
      (subst (λ x. T (back_at (line ∷ older) t) x) (at-older line older (t + 1) lower) (all t))
  | inr high ↦
      let r : Reached t older = below-reached older line.0 t b high in
      let s : Reached (t + 1) older = below-reached older line.0 (t + 1) b (omega (arith, high)) in
      subst (λ x. T x (back_at older (t + 1))) (sym (at-newest older t r))
      (subst (λ x. T (newest older) x) (sym (at-newest older (t + 1) s)) (same (newest older)))
]
