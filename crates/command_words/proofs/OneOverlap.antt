-- What the words give is one overlap.
use Rattle.std.proofs.Common.{◌≡◌, ◌≤◌, ◌↔◌, ◌∙◌, ℕ, List, [], ◌∷◌, Ok, Some, None, codes, decimal, get_or, drop, sym, ap, subst, arith}
use Rattle.hex.specs.Hex.{decode_of}
use Rattle.hex.proofs.HexLemmas.{decode_of-same}
use Rattle.command_words.specs.declared.command.Overlap.{Overlap}
use Rattle.command_words.specs.Words.{overlap_words, IsGiven}
use Rattle.command_words.proofs.Decimals.{same_number}

-- overlaps of one cabinet, with the same parents and times, are one
same_overlap : (a b : Overlap) → a.cabinet ≡ b.cabinet → a.parents.items ≡ b.parents.items → a.trail ≡ b.trail → a.yellow ≡ b.yellow → a.red ≡ b.red → a ≡ b
same_overlap a b cabinet parents trail yellow red =
    ap (λ (n : ℕ). record { cabinet = n; parents = a.parents; trail = a.trail; yellow = a.yellow; red = a.red }) cabinet
    ∙ (ap (λ (xs : List ℕ). record { cabinet = b.cabinet; parents = record { items = xs }; trail = a.trail; yellow = a.yellow; red = a.red }) parents
    ∙ (ap (λ (n : ℕ). record { cabinet = b.cabinet; parents = b.parents; trail = n; yellow = a.yellow; red = a.red }) trail
    ∙ (ap (λ (n : ℕ). record { cabinet = b.cabinet; parents = b.parents; trail = b.trail; yellow = n; red = a.red }) yellow
    ∙ ap (λ (n : ℕ). record { cabinet = b.cabinet; parents = b.parents; trail = b.trail; yellow = b.yellow; red = n }) red)))

-- the words of an overlap, and others after them
abbrev pub words_before : Overlap → List ℕ → List (List ℕ) → List (List ℕ)
words_before overlap hex rest =
    codes "--cabinet" ∷ decimal overlap.cabinet ∷ codes "--parents" ∷ hex ∷ codes "--trail" ∷ decimal overlap.trail ∷ codes "--yellow" ∷ decimal overlap.yellow ∷ codes "--red" ∷ decimal overlap.red ∷ rest

-- options read one after another are such words
pub read_words : (texts first second third fourth fifth : List (List ℕ)) (hex : List ℕ) (read : Overlap)
    → texts ≡ codes "--cabinet" ∷ decimal read.cabinet ∷ first → first ≡ codes "--parents" ∷ hex ∷ second → second ≡ codes "--trail" ∷ decimal read.trail ∷ third
    → third ≡ codes "--yellow" ∷ decimal read.yellow ∷ fourth → fourth ≡ codes "--red" ∷ decimal read.red ∷ fifth → texts ≡ words_before read hex fifth
read_words texts first second third fourth fifth hex read a b c d e =
    a ∙ ap (λ (ws : List (List ℕ)). codes "--cabinet" ∷ decimal read.cabinet ∷ ws)
    (b ∙ ap (λ (ws : List (List ℕ)). codes "--parents" ∷ hex ∷ ws)
    (c ∙ ap (λ (ws : List (List ℕ)). codes "--trail" ∷ decimal read.trail ∷ ws)
    (d ∙ ap (λ (ws : List (List ℕ)). codes "--yellow" ∷ decimal read.yellow ∷ ws) e)))

-- an overlap that was read is the one that is given, and no words are after it
pub read_overlap : (texts rest : List (List ℕ)) (hex : List ℕ) (read from : Overlap) → texts ≡ words_before read hex rest → decode_of hex ≡ Ok read.parents.items
    → read.cabinet ≤ 64 → read.trail ≤ 255 → read.yellow ≤ 255 → read.red ≤ 255 → IsGiven texts from → (read ≡ from) × (rest ≡ [])
read_overlap texts rest hex read from whole decoded k t y r given =
    let same : words_before read hex rest ≡ overlap_words from given.0 = sym whole ∙ given.1 in
    let few : from.cabinet ≤ 64 = given.3.numbered.1 in
    let trailed : from.trail ≤ 255 = given.3.trailed in
    let yellowed : from.yellow ≤ 255 = given.3.yellowed in
    let cleared : from.red ≤ 255 = given.3.cleared in
    let digits : hex ≡ given.0 = ap (λ (ws : List (List ℕ)). get_or ws 3 []) same in
    let cabinet : read.cabinet ≡ from.cabinet = same_number _ _ (omega (arith, k)) (omega (arith, few)) (ap (λ (ws : List (List ℕ)). get_or ws 1 []) same) in
    let parents : read.parents.items ≡ from.parents.items = decode_of-same hex _ _ decoded (ap decode_of digits ∙ given.2) in
    let trail : read.trail ≡ from.trail = same_number _ _ (omega (arith, t)) (omega (arith, trailed)) (ap (λ (ws : List (List ℕ)). get_or ws 5 []) same) in
    let yellow : read.yellow ≡ from.yellow = same_number _ _ (omega (arith, y)) (omega (arith, yellowed)) (ap (λ (ws : List (List ℕ)). get_or ws 7 []) same) in
    let red : read.red ≡ from.red = same_number _ _ (omega (arith, r)) (omega (arith, cleared)) (ap (λ (ws : List (List ℕ)). get_or ws 9 []) same) in
    (same_overlap read from cabinet parents trail yellow red, ap (λ (ws : List (List ℕ)). drop 10 ws) same)

-- one overlap is given by the words
pub one_overlap : (texts : List (List ℕ)) (a b : Overlap) → IsGiven texts a → IsGiven texts b → a ≡ b
one_overlap texts a b is are = (read_overlap texts [] is.0 a b is.1 is.2 is.3.numbered.1 is.3.trailed is.3.yellowed is.3.cleared are).0

-- it is this, and no other
pub its_overlap : (texts : List (List ℕ)) (a : Overlap) → IsGiven texts a → (b : Overlap) → (Some a ≡ Some b) ↔ IsGiven texts b
its_overlap texts a is b = (
  λ e. let same : a ≡ b = cc in subst (λ (x : Overlap). IsGiven texts x) same is,
  λ are. ap Some (one_overlap texts a b is are),
)

-- none is given
pub no_overlap : (texts : List (List ℕ)) → ((from : Overlap) → IsGiven texts from → ⊥) → (b : Overlap) → (None ≡ Some b) ↔ IsGiven texts b
no_overlap texts never b = (λ e. absurd (cc), λ given. absurd (never b given))

-- none is given where no yellow follows the trail, and none where no red follows the yellow
pub no_yellow : (texts first second third : List (List ℕ)) (hex : List ℕ) (cabinet trail : ℕ)
    → texts ≡ codes "--cabinet" ∷ decimal cabinet ∷ first → first ≡ codes "--parents" ∷ hex ∷ second → second ≡ codes "--trail" ∷ decimal trail ∷ third
    → ((n : ℕ) (rest : List (List ℕ)) → 0 ≤ n → n ≤ 255 → third ≡ codes "--yellow" ∷ decimal n ∷ rest → ⊥) → (from : Overlap) → IsGiven texts from → ⊥
no_yellow texts first second third hex cabinet trail a b c never from given =
    let whole : texts ≡ codes "--cabinet" ∷ decimal cabinet ∷ codes "--parents" ∷ hex ∷ codes "--trail" ∷ decimal trail ∷ third =
    a ∙ ap (λ (ws : List (List ℕ)). codes "--cabinet" ∷ decimal cabinet ∷ ws) (b ∙ ap (λ (ws : List (List ℕ)). codes "--parents" ∷ hex ∷ ws) c) in
    let least : 0 ≤ from.yellow = omega arith in
    never from.yellow (codes "--red" ∷ decimal from.red ∷ []) least given.3.yellowed (ap (λ (ws : List (List ℕ)). drop 6 ws) (sym whole ∙ given.1))

pub no_red : (texts first second third fourth : List (List ℕ)) (hex : List ℕ) (cabinet trail yellow : ℕ)
    → texts ≡ codes "--cabinet" ∷ decimal cabinet ∷ first → first ≡ codes "--parents" ∷ hex ∷ second → second ≡ codes "--trail" ∷ decimal trail ∷ third
    → third ≡ codes "--yellow" ∷ decimal yellow ∷ fourth → ((n : ℕ) (rest : List (List ℕ)) → 0 ≤ n → n ≤ 255 → fourth ≡ codes "--red" ∷ decimal n ∷ rest → ⊥)
    → (from : Overlap) → IsGiven texts from → ⊥
no_red texts first second third fourth hex cabinet trail yellow a b c d never from given =
    let whole : texts ≡ codes "--cabinet" ∷ decimal cabinet ∷ codes "--parents" ∷ hex ∷ codes "--trail" ∷ decimal trail ∷ codes "--yellow" ∷ decimal yellow ∷ fourth =
    a ∙ ap (λ (ws : List (List ℕ)). codes "--cabinet" ∷ decimal cabinet ∷ ws)
    (b ∙ ap (λ (ws : List (List ℕ)). codes "--parents" ∷ hex ∷ ws) (c ∙ ap (λ (ws : List (List ℕ)). codes "--trail" ∷ decimal trail ∷ ws) d)) in
    let least : 0 ≤ from.red = omega arith in
    never from.red [] least given.3.cleared (ap (λ (ws : List (List ℕ)). drop 8 ws) (sym whole ∙ given.1))
