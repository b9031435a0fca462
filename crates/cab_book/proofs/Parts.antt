-- The shares of ticks add up to all of them, and a journal that reads their passes as one counts them together.
use Rattle.std.proofs.Common.{◌≡◌, ◌≢◌, ◌≤◌, ◌<◌, ◌+◌, ◌==◌, ◌&&◌, nat_le, ℕ, zero, suc, Bool, true, false, inl, inr, if◌then◌else◌, List, [], ◌∷◌, length, get_or, refl, sym, ap, ◌∙◌, arith}
use Rattle.std.proofs.lemmas.Bool.{leb-true, leb-false}
use Rattle.std.proofs.lemmas.Bool.Decides.{eqb_tells}
use Rattle.std.proofs.lemmas.List.{ext_get_or}
use Rattle.cabinet_history.specs.Journals.{times}
use Rattle.cab_book.specs.Shares.{read_pass, read_journal, ticks_left, ticks_brought, greater_half, lesser_half, shares}

halves-sum : (ticks : ℕ) → greater_half ticks + lesser_half ticks ≡ ticks
halves-sum ticks = omega arith

-- the shares add up to all ticks
pub shares-sum : (parts ticks : ℕ) → get_or (shares parts ticks) 0 0 + get_or (shares parts ticks) 1 0 + get_or (shares parts ticks) 2 0 + get_or (shares parts ticks) 3 0 ≡ ticks
shares-sum parts ticks = split (parts == 1) (parts == 2)
  where
    four : List ℕ
    four = greater_half (greater_half ticks) ∷ lesser_half (greater_half ticks) ∷ greater_half (lesser_half ticks) ∷ lesser_half (lesser_half ticks) ∷ []

    pick : Bool → Bool → List ℕ
    pick one two = if one then ticks ∷ 0 ∷ 0 ∷ 0 ∷ [] else if two then greater_half ticks ∷ lesser_half ticks ∷ 0 ∷ 0 ∷ [] else four

    split : (one two : Bool) → get_or (pick one two) 0 0 + get_or (pick one two) 1 0 + get_or (pick one two) 2 0 + get_or (pick one two) 3 0 ≡ ticks
    split true two = omega arith
    split false true = omega (arith, halves-sum ticks)
    split false false = omega (arith, halves-sum (greater_half ticks), halves-sum (lesser_half ticks), halves-sum ticks)

-- what a pass is read as
pub data Read (pass : ℕ) : Type 0 where
  AsFour : (from : 5 ≤ pass) → (to : pass ≤ 7) → (is : read_pass pass ≡ 4) → Read pass
  AsItself : (apart : (5 ≤ pass → pass ≤ 7 → ⊥)) → (is : read_pass pass ≡ pass) → Read pass

pub read-is : (pass : ℕ) → Read pass
read-is pass = split (nat_le 5 pass) (nat_le pass 7) refl refl
  where
    split : (from to : Bool) → nat_le 5 pass ≡ from → nat_le pass 7 ≡ to → Read pass
    split true true e f = AsFour (leb-true 5 pass e) (leb-true pass 7 f) (ap (λ (b : Bool). if b && nat_le pass 7 then 4 else pass) e ∙ ap (λ (b : Bool). if b then 4 else pass) f)
    split true false e f =
        AsItself (λ from to. omega (arith, to, leb-false pass 7 f)) (ap (λ (b : Bool). if b && nat_le pass 7 then 4 else pass) e ∙ ap (λ (b : Bool). if b then 4 else pass) f)
    split false to e f = AsItself (λ from most. omega (arith, from, leb-false 5 pass e)) (ap (λ (b : Bool). if b && nat_le pass 7 then 4 else pass) e)

pub count-here : (p q : ℕ) (journal : List ℕ) → p ≡ q → times p (q ∷ journal) ≡ times p journal + 1
count-here p q journal e = elim (eqb_tells p q) [ inl (t, also) ↦ ap (λ (b : Bool). if b then times p journal + 1 else times p journal) t | inr (t, ne) ↦ absurd (ne e) ]

pub count-else : (p q : ℕ) (journal : List ℕ) → p ≢ q → times p (q ∷ journal) ≡ times p journal
count-else p q journal ne = elim (eqb_tells p q) [ inl (t, e) ↦ absurd (ne e) | inr (t, also) ↦ ap (λ (b : Bool). if b then times p journal + 1 else times p journal) t ]

-- a pass of ticks is one of four
brought-more : (q : ℕ) (journal : List ℕ) → 4 ≤ q → q ≤ 7 → ticks_brought (q ∷ journal) ≡ ticks_brought journal + 1
brought-more q journal from to = elim (eqb_tells 4 q) [
  | inl (t, e) ↦
      omega (arith, count-here 4 q journal e, count-else 5 q journal (λ z. omega (arith, z, e)), count-else 6 q journal (λ z. omega (arith, z, e)), count-else 7 q journal (λ z. omega (arith, z, e)))
  | inr (t, four) ↦ elim (eqb_tells 5 q) [
    | inl (u, e) ↦
        omega (arith, count-here 5 q journal e, count-else 4 q journal four, count-else 6 q journal (λ z. omega (arith, z, e)), count-else 7 q journal (λ z. omega (arith, z, e)))
    | inr (u, five) ↦ elim (eqb_tells 6 q) [
      | inl (v, e) ↦
          omega (arith, count-here 6 q journal e, count-else 4 q journal four, count-else 5 q journal five, count-else 7 q journal (λ z. omega (arith, z, e)))
      | inr (v, six) ↦
          let e : 7 ≡ q = omega (arith, from, to, four, five, six) in
          omega (arith, count-here 7 q journal e, count-else 4 q journal four, count-else 5 q journal five, count-else 6 q journal six)
    ]
  ]
]

brought-same : (q : ℕ) (journal : List ℕ) → (4 ≤ q → q ≤ 7 → ⊥) → ticks_brought (q ∷ journal) ≡ ticks_brought journal
brought-same q journal apart =
    omega (
      arith,
      count-else 4 q journal (λ z. apart (omega (arith, z)) (omega (arith, z))),
      count-else 5 q journal (λ z. apart (omega (arith, z)) (omega (arith, z))),
      count-else 6 q journal (λ z. apart (omega (arith, z)) (omega (arith, z))),
      count-else 7 q journal (λ z. apart (omega (arith, z)) (omega (arith, z))),
    )

-- so read, a journal has a pass of ticks as often as it brought one
pub read-ticks : (journal : List ℕ) → times 4 (read_journal journal) ≡ ticks_brought journal
read-ticks [] = refl
read-ticks (q ∷ journal) = elim (read-is q) [
  | AsFour from to is ↦
      omega (arith, count-here 4 (read_pass q) (read_journal journal) (sym is), brought-more q journal (omega (arith, from)) to, read-ticks journal)
  | AsItself apart is ↦ elim (eqb_tells 4 q) [
    | inl (t, e) ↦
        omega (arith, count-here 4 (read_pass q) (read_journal journal) (e ∙ sym is), brought-more q journal (omega (arith, e)) (omega (arith, e)), read-ticks journal)
    | inr (t, ne) ↦
        omega (arith, count-else 4 (read_pass q) (read_journal journal) (λ z. ne (z ∙ is)), brought-same q journal (λ from to. apart (omega (arith, from, ne)) to), read-ticks journal)
  ]
]

-- passes 5 to 7 are in none
pub read-none : (p : ℕ) → 5 ≤ p → p ≤ 7 → (journal : List ℕ) → times p (read_journal journal) ≡ 0
read-none p from to [] = refl
read-none p from to (q ∷ journal) = elim (read-is q) [
  | AsFour above below is ↦ count-else p (read_pass q) (read_journal journal) (λ z. omega (arith, z, is, from)) ∙ read-none p from to journal
  | AsItself apart is ↦
      count-else p (read_pass q) (read_journal journal) (λ z. apart (omega (arith, z, is, from)) (omega (arith, z, is, to))) ∙ read-none p from to journal
]

-- and the others as often as before
pub read-others : (p : ℕ) → (4 ≤ p → p ≤ 7 → ⊥) → (journal : List ℕ) → times p (read_journal journal) ≡ times p journal
read-others p apart [] = refl
read-others p apart (q ∷ journal) = elim (read-is q) [
  | AsFour from to is ↦
      count-else p (read_pass q) (read_journal journal) (λ z. apart (omega (arith, z, is)) (omega (arith, z, is)))
      ∙ read-others p apart journal
      ∙ sym (count-else p q journal (λ z. apart (omega (arith, z, from)) (omega (arith, z, to))))
  | AsItself other is ↦ elim (eqb_tells p q) [
    | inl (t, e) ↦ count-here p (read_pass q) (read_journal journal) (e ∙ sym is) ∙ ap (λ (n : ℕ). n + 1) (read-others p apart journal) ∙ sym (count-here p q journal e)
    | inr (t, ne) ↦ count-else p (read_pass q) (read_journal journal) (λ z. ne (z ∙ is)) ∙ read-others p apart journal ∙ sym (count-else p q journal ne)
  ]
]

-- what is left of each pass where all ticks are pass 4's
abbrev pub joined_left : List ℕ → ℕ → List ℕ
joined_left left ticks = get_or left 0 0 ∷ get_or left 1 0 ∷ get_or left 2 0 ∷ get_or left 3 0 ∷ ticks ∷ 0 ∷ 0 ∷ 0 ∷ []

-- and where they are shared
abbrev pub shared_left : List ℕ → List ℕ → List ℕ
shared_left left parts =
    get_or left 0 0 ∷ get_or left 1 0 ∷ get_or left 2 0 ∷ get_or left 3 0 ∷ get_or parts 0 0 ∷ get_or parts 1 0 ∷ get_or parts 2 0 ∷ get_or parts 3 0 ∷ []

pub joined-low : (left : List ℕ) (ticks p : ℕ) → p < 4 → get_or (joined_left left ticks) p 0 ≡ get_or left p 0
joined-low left ticks zero less = refl
joined-low left ticks (suc zero) less = refl
joined-low left ticks (suc (suc zero)) less = refl
joined-low left ticks (suc (suc (suc zero))) less = refl
joined-low left ticks (suc (suc (suc (suc p)))) less = absurd (omega (arith, less))

pub joined-high : (left : List ℕ) (ticks p : ℕ) → 5 ≤ p → get_or (joined_left left ticks) p 0 ≡ 0
joined-high left ticks zero more = absurd (omega (arith, more))
joined-high left ticks (suc zero) more = absurd (omega (arith, more))
joined-high left ticks (suc (suc zero)) more = absurd (omega (arith, more))
joined-high left ticks (suc (suc (suc zero))) more = absurd (omega (arith, more))
joined-high left ticks (suc (suc (suc (suc zero)))) more = absurd (omega (arith, more))
joined-high left ticks (suc (suc (suc (suc (suc zero))))) more = refl
joined-high left ticks (suc (suc (suc (suc (suc (suc zero)))))) more = refl
joined-high left ticks (suc (suc (suc (suc (suc (suc (suc zero))))))) more = refl
joined-high left ticks (suc (suc (suc (suc (suc (suc (suc (suc p)))))))) more = refl

pub shared-low : (left parts : List ℕ) (p : ℕ) → p < 4 → get_or (shared_left left parts) p 0 ≡ get_or left p 0
shared-low left parts zero less = refl
shared-low left parts (suc zero) less = refl
shared-low left parts (suc (suc zero)) less = refl
shared-low left parts (suc (suc (suc zero))) less = refl
shared-low left parts (suc (suc (suc (suc p)))) less = absurd (omega (arith, less))

pub shared-at : (left parts : List ℕ) (k : ℕ) → k < 4 → get_or (shared_left left parts) (4 + k) 0 ≡ get_or parts k 0
shared-at left parts zero less = refl
shared-at left parts (suc zero) less = refl
shared-at left parts (suc (suc zero)) less = refl
shared-at left parts (suc (suc (suc zero))) less = refl
shared-at left parts (suc (suc (suc (suc k)))) less = absurd (omega (arith, less))

pub past_end : (xs : List ℕ) (p : ℕ) → length xs ≤ p → get_or xs p 0 ≡ 0
past_end [] p most = refl
past_end (x ∷ xs) zero most = absurd (omega (arith, most))
past_end (x ∷ xs) (suc p) most = past_end xs p (omega (arith, most))

-- joined again, what was left before the ticks were shared
pub joined-again : (first left : List ℕ) (ticks : ℕ) → length first ≡ 8 → ((p : ℕ) → p < 4 → get_or left p 0 ≡ get_or first p 0) → ticks ≡ ticks_left first
    → ((p : ℕ) → 5 ≤ p → get_or first p 0 ≡ 0) → joined_left left ticks ≡ first
joined-again first left ticks wide others all one = ext_get_or 0 (joined_left left ticks) first (sym wide) at
  where
    at : (p : ℕ) → p < 8 → get_or (joined_left left ticks) p 0 ≡ get_or first p 0
    at zero less = others 0 (omega arith)
    at (suc zero) less = others 1 (omega arith)
    at (suc (suc zero)) less = others 2 (omega arith)
    at (suc (suc (suc zero))) less = others 3 (omega arith)
    at (suc (suc (suc (suc zero)))) less = omega (arith, all, one 5 (omega arith), one 6 (omega arith), one 7 (omega arith))
    at (suc (suc (suc (suc (suc p))))) less =
        joined-high left ticks (suc (suc (suc (suc (suc p))))) (omega arith) ∙ sym (one (suc (suc (suc (suc (suc p))))) (omega arith))
