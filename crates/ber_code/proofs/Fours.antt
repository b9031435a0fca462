-- Four arcs of one octet each, written and read at once.
use Rattle.std.proofs.Common.{◌≡◌, ◌≢◌, ℕ, ◌+◌, ◌-◌, ◌*◌, ◌%◌, ◌<◌, ◌≤◌, List, [], ◌∷◌, ◌++◌, length, get_or, take, drop, Some, refl, sym, ap, ◌∙◌, append_assoc, arith}
use Rattle.std.specs.List.{flat_map}
use Rattle.std.proofs.lemmas.Bool.{lt-ltb, ne_eqb}
use Rattle.std.proofs.lemmas.List.{take_all, length-drop, length-append}
use Rattle.ber_code.specs.Names.{arc_text}
use Rattle.ber_code.specs.Reading.{arc_from, arc_at, all_at, with_front}
use Rattle.ber_code.proofs.Exact.{goes_on}

octet_is : (arc : ℕ) → arc < 128 → arc_text arc ≡ arc ∷ []
unfolding arc_text
octet_is arc low = rw (lt-ltb arc 128 low) refl

one_text : (arc : ℕ) (later : List ℕ) → arc < 128 → flat_map arc_text (arc ∷ later) ≡ arc ∷ flat_map arc_text later
one_text arc later low = ap (λ (t : List ℕ). t ++ flat_map arc_text later) (octet_is arc low)

-- what follows four, as a pattern takes it
abbrev pub behind_four : List ℕ → List ℕ
behind_four xs = take (length xs - 4) (drop 4 xs)

behind_is : (xs : List ℕ) → behind_four xs ≡ drop 4 xs
behind_is xs = take_all (length xs - 4) (drop 4 xs) (omega (arith, length-drop 4 xs))

texts_of_four : (xs : List ℕ) → 4 ≤ length xs → get_or xs 0 0 < 128 → get_or xs 1 0 < 128 → get_or xs 2 0 < 128 → get_or xs 3 0 < 128
    → flat_map arc_text xs ≡ (get_or xs 0 0 ∷ get_or xs 1 0 ∷ get_or xs 2 0 ∷ get_or xs 3 0 ∷ []) ++ flat_map arc_text (drop 4 xs)
texts_of_four [] some la lb lc ld = absurd (omega arith)
texts_of_four (a ∷ []) some la lb lc ld = absurd (omega arith)
texts_of_four (a ∷ b ∷ []) some la lb lc ld = absurd (omega arith)
texts_of_four (a ∷ b ∷ c ∷ []) some la lb lc ld = absurd (omega arith)
texts_of_four (a ∷ b ∷ c ∷ d ∷ later) some la lb lc ld =
    one_text a (b ∷ c ∷ d ∷ later) la
    ∙ ap (λ (t : List ℕ). a ∷ t) (one_text b (c ∷ d ∷ later) lb
    ∙ ap (λ (t : List ℕ). b ∷ t) (one_text c (d ∷ later) lc
    ∙ ap (λ (t : List ℕ). c ∷ t) (one_text d later ld)))

-- the text of four such arcs and of those after them
pub four_texts : (xs : List ℕ) → 4 ≤ length xs → get_or xs 0 0 < 128 → get_or xs 1 0 < 128 → get_or xs 2 0 < 128 → get_or xs 3 0 < 128
    → flat_map arc_text xs ≡ (get_or xs 0 0 ∷ get_or xs 1 0 ∷ get_or xs 2 0 ∷ get_or xs 3 0 ∷ []) ++ flat_map arc_text (behind_four xs)
four_texts xs some la lb lc ld = rw (behind_is xs) (texts_of_four xs some la lb lc ld)

pub four_sizes : (xs : List ℕ) → 4 ≤ length xs → get_or xs 0 0 < 128 → get_or xs 1 0 < 128 → get_or xs 2 0 < 128 → get_or xs 3 0 < 128
    → 4 + length (flat_map arc_text (behind_four xs)) ≡ length (flat_map arc_text xs)
four_sizes xs some la lb lc ld =
    let four : List ℕ = get_or xs 0 0 ∷ get_or xs 1 0 ∷ get_or xs 2 0 ∷ get_or xs 3 0 ∷ [] in
    let all : length (flat_map arc_text xs) ≡ length (four ++ flat_map arc_text (behind_four xs)) = ap length (four_texts xs some la lb lc ld) in
    let parts : length (four ++ flat_map arc_text (behind_four xs)) ≡ 4 + length (flat_map arc_text (behind_four xs)) = length-append four (flat_map arc_text (behind_four xs)) in
    sym (all ∙ parts)

one_read : (octet : ℕ) (rest : List ℕ) → octet < 128 → arc_at (octet ∷ rest) ≡ Some (octet, rest)
unfolding arc_at arc_from
one_read octet rest low =
    let ne : octet ≢ 128 = omega arith in
    let same : 0 * 128 + octet % 128 ≡ octet = omega arith in
    rw (ne_eqb octet 128 ne, lt-ltb octet 128 low, same) refl

read_of_four : (front : List ℕ) (n : ℕ) (xs : List ℕ) → 4 ≤ n → 4 ≤ length xs → get_or xs 0 0 < 128 → get_or xs 1 0 < 128 → get_or xs 2 0 < 128 → get_or xs 3 0 < 128
    → with_front front (all_at arc_at n xs) ≡ with_front (front ++ get_or xs 0 0 ∷ get_or xs 1 0 ∷ get_or xs 2 0 ∷ get_or xs 3 0 ∷ []) (all_at arc_at (n - 4) (drop 4 xs))
read_of_four front n [] most some la lb lc ld = absurd (omega arith)
read_of_four front n (a ∷ []) most some la lb lc ld = absurd (omega arith)
read_of_four front n (a ∷ b ∷ []) most some la lb lc ld = absurd (omega arith)
read_of_four front n (a ∷ b ∷ c ∷ []) most some la lb lc ld = absurd (omega arith)
read_of_four front n (a ∷ b ∷ c ∷ d ∷ later) most some la lb lc ld =
    let fronts : (((front ++ a ∷ []) ++ b ∷ []) ++ c ∷ []) ++ d ∷ [] ≡ front ++ a ∷ b ∷ c ∷ d ∷ [] = simp append_assoc refl in
    goes_on arc_at front n (n - 1) (a ∷ b ∷ c ∷ d ∷ later) a (b ∷ c ∷ d ∷ later) (omega arith) (λ e. omega (arith, e)) (one_read a (b ∷ c ∷ d ∷ later) la)
    ∙ goes_on arc_at (front ++ a ∷ []) (n - 1) (n - 2) (b ∷ c ∷ d ∷ later) b (c ∷ d ∷ later) (omega arith) (λ e. omega (arith, e)) (one_read b (c ∷ d ∷ later) lb)
    ∙ goes_on arc_at ((front ++ a ∷ []) ++ b ∷ []) (n - 2) (n - 3) (c ∷ d ∷ later) c (d ∷ later) (omega arith) (λ e. omega (arith, e)) (one_read c (d ∷ later) lc)
    ∙ goes_on arc_at (((front ++ a ∷ []) ++ b ∷ []) ++ c ∷ []) (n - 3) (n - 4) (d ∷ later) d later (omega arith) (λ e. omega (arith, e)) (one_read d later ld)
    ∙ ap (λ (f : List ℕ). with_front f (all_at arc_at (n - 4) later)) fronts

-- four such arcs are read, and those after them
pub four_read : (front : List ℕ) (n : ℕ) (xs : List ℕ) → 4 ≤ n → 4 ≤ length xs → get_or xs 0 0 < 128 → get_or xs 1 0 < 128 → get_or xs 2 0 < 128 → get_or xs 3 0 < 128
    → with_front front (all_at arc_at n xs) ≡ with_front (front ++ get_or xs 0 0 ∷ get_or xs 1 0 ∷ get_or xs 2 0 ∷ get_or xs 3 0 ∷ []) (all_at arc_at (n - 4) (behind_four xs))
four_read front n xs most some la lb lc ld = rw (behind_is xs) (read_of_four front n xs most some la lb lc ld)
