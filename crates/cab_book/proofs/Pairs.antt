-- Lists that are compared pair by pair.
use Rattle.std.proofs.Common.{◌≡◌, List, [], ◌∷◌, Bool, ◌&&◌, refl, ap, ◌∙◌}
use Rattle.std.specs.Cmp.Lexicographic.{pointwise}
use Rattle.sig_types.specs.declared.frame.Colour.{Colour}
use Rattle.sig_types.specs.declared.frame.Ped.{Ped}
use Rattle.sig_types.specs.Colour.{same_colour, same_signal, same_colours, same_signals}

colour_pair : (E : Colour → Colour → Bool) → ((a b : Colour) → E a b ≡ same_colour a b) → (xs ys : List Colour) → pointwise E xs ys ≡ same_colours xs ys
colour_pair E each [] [] = refl
colour_pair E each [] (y ∷ ys) = refl
colour_pair E each (x ∷ xs) [] = refl
colour_pair E each (x ∷ xs) (y ∷ ys) = ap (λ b. b && pointwise E xs ys) (each x y) ∙ ap (λ b. same_colour x y && b) (colour_pair E each xs ys)

signal_pair : (E : Ped → Ped → Bool) → ((a b : Ped) → E a b ≡ same_signal a b) → (xs ys : List Ped) → pointwise E xs ys ≡ same_signals xs ys
signal_pair E each [] [] = refl
signal_pair E each [] (y ∷ ys) = refl
signal_pair E each (x ∷ xs) [] = refl
signal_pair E each (x ∷ xs) (y ∷ ys) = ap (λ b. b && pointwise E xs ys) (each x y) ∙ ap (λ b. same_signal x y && b) (signal_pair E each xs ys)

-- what a test of two lists of colours gave, where the test of each pair is that of one colour
pub colour_pairs : (E : Colour → Colour → Bool) (told : Bool) (xs ys : List Colour) → told ≡ pointwise E xs ys
    → ((a b : Colour) → E a b ≡ same_colour a b) → told ≡ same_colours xs ys
colour_pairs E told xs ys e each = e ∙ colour_pair E each xs ys

pub signal_pairs : (E : Ped → Ped → Bool) (told : Bool) (xs ys : List Ped) → told ≡ pointwise E xs ys → ((a b : Ped) → E a b ≡ same_signal a b)
    → told ≡ same_signals xs ys
signal_pairs E told xs ys e each = e ∙ signal_pair E each xs ys
