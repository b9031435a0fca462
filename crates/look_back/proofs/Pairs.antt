-- Lists that are compared pair by pair.
use Rattle.std.proofs.Common.{◌≡◌, ◌↔◌, IsTrue, List, [], ◌∷◌, Bool, true, refl, sym, ap, ◌∙◌}
use Rattle.std.proofs.lemmas.Bool.{false≢true, and_parts}
use Rattle.std.specs.Cmp.Lexicographic.{pointwise}
use Rattle.sig_types.specs.declared.frame.Colour.{Colour}
use Rattle.sig_types.specs.declared.frame.Colour.TheVariants.{Green, Yellow, Clear, Red}
use Rattle.sig_types.specs.declared.frame.Ped.{Ped}
use Rattle.sig_types.specs.declared.frame.Ped.TheVariants.{Walk, Flash, Dont}
use Rattle.sig_types.specs.Colour.{same_colour, same_signal}

pub one-colour : (a b : Colour) → same_colour a b ≡ true → a ≡ b
one-colour Green Green h = refl
one-colour Yellow Yellow h = refl
one-colour Clear Clear h = refl
one-colour Red Red h = refl
one-colour _ _ h = absurd (false≢true h)

pub same_colour-itself : (a : Colour) → same_colour a a ≡ true
same_colour-itself Green = refl
same_colour-itself Yellow = refl
same_colour-itself Clear = refl
same_colour-itself Red = refl

pub same_signal-itself : (a : Ped) → same_signal a a ≡ true
same_signal-itself Walk = refl
same_signal-itself Flash = refl
same_signal-itself Dont = refl

pub one-signal : (a b : Ped) → same_signal a b ≡ true → a ≡ b
one-signal Walk Walk h = refl
one-signal Flash Flash h = refl
one-signal Dont Dont h = refl
one-signal _ _ h = absurd (false≢true h)

colours-one : (E : Colour → Colour → Bool) → ((a b : Colour) → E a b ≡ same_colour a b) → (xs ys : List Colour) → pointwise E xs ys ≡ true → xs ≡ ys
colours-one E each [] [] h = refl
colours-one E each [] (y ∷ ys) h = absurd (false≢true h)
colours-one E each (x ∷ xs) [] h = absurd (false≢true h)
colours-one E each (x ∷ xs) (y ∷ ys) h =
    let parts : (E x y ≡ true) × (pointwise E xs ys ≡ true) = and_parts (E x y) (pointwise E xs ys) h in
    ap (λ (a : Colour). a ∷ xs) (one-colour x y (sym (each x y) ∙ parts.0)) ∙ ap (λ (rest : List Colour). y ∷ rest) (colours-one E each xs ys parts.1)

signals-one : (E : Ped → Ped → Bool) → ((a b : Ped) → E a b ≡ same_signal a b) → (xs ys : List Ped) → pointwise E xs ys ≡ true → xs ≡ ys
signals-one E each [] [] h = refl
signals-one E each [] (y ∷ ys) h = absurd (false≢true h)
signals-one E each (x ∷ xs) [] h = absurd (false≢true h)
signals-one E each (x ∷ xs) (y ∷ ys) h =
    let parts : (E x y ≡ true) × (pointwise E xs ys ≡ true) = and_parts (E x y) (pointwise E xs ys) h in
    ap (λ (a : Ped). a ∷ xs) (one-signal x y (sym (each x y) ∙ parts.0)) ∙ ap (λ (rest : List Ped). y ∷ rest) (signals-one E each xs ys parts.1)

colours-itself : (E : Colour → Colour → Bool) → ((a b : Colour) → E a b ≡ same_colour a b) → (xs : List Colour) → pointwise E xs xs ≡ true
colours-itself E each [] = refl
colours-itself E each (x ∷ xs) = rw (each x x, same_colour-itself x, colours-itself E each xs) refl

signals-itself : (E : Ped → Ped → Bool) → ((a b : Ped) → E a b ≡ same_signal a b) → (xs : List Ped) → pointwise E xs xs ≡ true
signals-itself E each [] = refl
signals-itself E each (x ∷ xs) = rw (each x x, same_signal-itself x, signals-itself E each xs) refl

-- the result of a test of two lists, if the test of each pair is that of one colour or signal
pub colour-pairs : (E : Colour → Colour → Bool) (told : Bool) (xs ys : List Colour) → told ≡ pointwise E xs ys
    → ((a b : Colour) → E a b ≡ same_colour a b) → IsTrue told ↔ (xs ≡ ys)
colour-pairs E told xs ys e each =
    (λ h. colours-one E each xs ys (sym e ∙ h), λ same. e ∙ rw (← same) (colours-itself E each xs))

pub signal-pairs : (E : Ped → Ped → Bool) (told : Bool) (xs ys : List Ped) → told ≡ pointwise E xs ys
    → ((a b : Ped) → E a b ≡ same_signal a b) → IsTrue told ↔ (xs ≡ ys)
signal-pairs E told xs ys e each =
    (λ h. signals-one E each xs ys (sym e ∙ h), λ same. e ∙ rw (← same) (signals-itself E each xs))
