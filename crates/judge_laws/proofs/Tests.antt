-- Tests and lists of what they find.
use Rattle.std.proofs.Common.{◌≡◌, ℕ, ◌==◌, Bool, true, false, not, ◌&&◌, ◌||◌, if◌then◌else◌, List, [], ◌∷◌, ◌++◌, refl, sym, ◌∙◌, ap, inl, inr, ◌⊎◌}
use Rattle.std.proofs.lemmas.Bool.{false≢true}
use Rattle.std.proofs.lemmas.Bool.Decides.{Decides-eqb}
use Rattle.sig_types.specs.Phases.{is_in}
use Rattle.judge_laws.specs.declared.Breach.{Breach}
use Rattle.judge_laws.specs.Breaches.{found, each}

pub funext : {A B : Type 0} (f g : A → B) → ((x : A) → f x ≡ g x) → f ≡ g
funext f g e = λ i. λ x. e x i

pub and-not : (a c : Bool) → (a && not c) ≡ false → a ≡ true → c ≡ true
and-not true true h e = refl
and-not true false h e = absurd (false≢true (sym h))
and-not false c h e = absurd (false≢true e)

pub not-and : (a c : Bool) → (a ≡ true → c ≡ true) → (a && not c) ≡ false
not-and false c h = refl
not-and true true h = refl
not-and true false h = absurd (false≢true (h refl))

pub and-true-not : (a c : Bool) → (a && true && not c) ≡ false → a ≡ true → c ≡ true
and-true-not true true h e = refl
and-true-not true false h e = absurd (false≢true (sym h))
and-true-not false c h e = absurd (false≢true e)

pub not-true-and : (a c : Bool) → (a ≡ true → c ≡ true) → (a && true && not c) ≡ false
not-true-and false c h = refl
not-true-and true true h = refl
not-true-and true false h = absurd (false≢true (h refl))

pub and-true : (a c : Bool) → (a && true && c) ≡ (a && c)
and-true false c = refl
and-true true false = refl
and-true true true = refl

pub not-false : (c : Bool) → not c ≡ false → c ≡ true
not-false true h = refl
not-false false h = absurd (false≢true (sym h))

pub false-not : (c : Bool) → c ≡ true → not c ≡ false
false-not true h = refl
false-not false h = absurd (false≢true h)

pub true-not : (c : Bool) → c ≡ false → not c ≡ true
true-not false h = refl
true-not true h = absurd (false≢true (sym h))

pub not-true : (c : Bool) → not c ≡ true → c ≡ false
not-true false h = refl
not-true true h = absurd (false≢true h)

pub either : (a b : Bool) → (a || b) ≡ true → (a ≡ true) ⊎ (b ≡ true)
either true b h = inl refl
either false b h = inr h

pub or-first : (a b : Bool) → a ≡ true → (a || b) ≡ true
or-first true b h = refl
or-first false b h = absurd (false≢true h)

pub or-second : (a b : Bool) → b ≡ true → (a || b) ≡ true
or-second true b h = refl
or-second false b h = h

pub both-of : (a b : Bool) → (a && b) ≡ true → (a ≡ true) × (b ≡ true)
both-of true b h = (refl, h)
both-of false b h = absurd (false≢true h)

pub of-both : (a b : Bool) → a ≡ true → b ≡ true → (a && b) ≡ true
of-both true b g h = h
of-both false b g h = absurd (false≢true g)

pub found-none : (b : Bool) (x : Breach) → found b x ≡ [] → b ≡ false
found-none false x h = refl
found-none true x h = cc

pub none-found : (b : Bool) (x : Breach) → b ≡ false → found b x ≡ []
none-found false x h = refl
none-found true x h = absurd (false≢true (sym h))

pub append-none : (xs ys : List Breach) → xs ++ ys ≡ [] → (xs ≡ []) × (ys ≡ [])
append-none [] ys h = (refl, h)
append-none (x ∷ xs) ys h = cc

pub none-append : (xs ys : List Breach) → xs ≡ [] → ys ≡ [] → xs ++ ys ≡ []
none-append xs ys g h = rw (g, h) refl

pub each-none : (of : ℕ → List Breach) (ps : List ℕ) → each of ps ≡ [] → (p : ℕ) → is_in ps p ≡ true → of p ≡ []
each-none of [] h p i = absurd (false≢true i)
each-none of (q ∷ qs) h p i = split (p == q) refl i (each-none of qs (append-none (of q) (each of qs) h).1 p) (append-none (of q) (each of qs) h).0
  where
    split : (b : Bool) → (p == q) ≡ b → (if b then true else is_in qs p) ≡ true → (is_in qs p ≡ true → of p ≡ []) → of q ≡ [] → of p ≡ []
    split true e j later here = let same : p ≡ q = (Decides-eqb p q).0 e in ap of same ∙ here
    split false e j later here = later j

pub none-each : (of : ℕ → List Breach) (ps : List ℕ) → ((p : ℕ) → is_in ps p ≡ true → of p ≡ []) → each of ps ≡ []
none-each of [] h = refl
none-each of (q ∷ qs) h = none-append (of q) (each of qs) (h q (first (q == q) ((Decides-eqb q q).1 refl)))
    (none-each of qs (λ p i. h p (later p (p == q) i)))
  where
    first : (b : Bool) → b ≡ true → (if b then true else is_in qs q) ≡ true
    first true e = refl
    first false e = absurd (false≢true e)

    later : (p : ℕ) (b : Bool) → is_in qs p ≡ true → (if b then true else is_in qs p) ≡ true
    later p true e = refl
    later p false e = e

pub first-of-four : (a b c d : Bool) → (a && b && c && d) ≡ true → (a ≡ true) × (b ≡ true)
first-of-four true true c d h = (refl, refl)
first-of-four true false c d h = absurd (false≢true h)
first-of-four false b c d h = absurd (false≢true h)

pub neither-of : (a b : Bool) → (a || b) ≡ false → (a ≡ false) × (b ≡ false)
neither-of false b h = (refl, h)
neither-of true b h = absurd (false≢true (sym h))

pub of-neither : (a b : Bool) → a ≡ false → b ≡ false → (a || b) ≡ false
of-neither false b g h = h
of-neither true b g h = absurd (false≢true (sym g))
