-- Values that are read from the first words of a line, one after another.
use Rattle.std.proofs.Common.{◌≡◌, ◌≢◌, ℕ, ◌==◌, List, [], ◌∷◌, ◌++◌, length, Option, Some, None, Bor, refl, sym, ap, ◌∙◌, arith, append_assoc}
use Rattle.std.specs.List.{slice_split}
use Rattle.std.proofs.lemmas.List.Splits.{slice_split_at, slice_split_none, length-slice_split}
use Rattle.trace_text.specs.Fronts.{words_left}
use Rattle.trace_text.specs.Reads.{Reads}
use Rattle.trace_text.specs.Words.{Lacks}
use Rattle.trace_text.proofs.Reading.{reads_none, reads_some, none_reads, some_reads}
use Rattle.trace_text.proofs.Spaces.{all_lack}

abbrev Words : Type 0
Words = List (List ℕ)

-- a value that is read from the first words, with the words that follow
abbrev pub Front : {A : Type 0} → (A → Type 0) → (A → Words) → Words → Option (A × Words) → Type 0
Front {A} IsOne spelling words found = Reads (λ (p : A × Words). IsOne p.0) (λ (p : A × Words). spelling p.0 ++ p.1) words found

-- bytes without a space are one word, and a space ends the first word
pub last_word : (bytes : List ℕ) → Lacks 32 bytes → slice_split (λ b. b == 32) bytes ≡ bytes ∷ []
last_word bytes lacks = slice_split_none (λ b. b == 32) bytes (all_lack 32 bytes lacks)

pub word_before : (word bytes : List ℕ) → Lacks 32 word → slice_split (λ b. b == 32) (word ++ 32 ∷ bytes) ≡ word ∷ slice_split (λ b. b == 32) bytes
word_before word bytes lacks = slice_split_at (λ b. b == 32) word 32 bytes (all_lack 32 word lacks) refl

-- a word is left before the end, and none at the end
pub some_left : (left : Option (Bor (List ℕ))) (bytes : Bor (List ℕ)) → left ≡ Some bytes → words_left left ≢ []
some_left left bytes some none =
    let long : length (slice_split (λ b. b == 32) bytes.now) ≡ 0 = ap length (sym (ap words_left some) ∙ none) in
    omega (arith, long, length-slice_split (λ b. b == 32) bytes.now)

abbrev first_of : Words → List ℕ
first_of [] = []
first_of (word ∷ words) = word

abbrev after_first : Words → Words
after_first [] = []
after_first (word ∷ words) = words

same_pair : {A B : Type 0} (a : A) (b : B) (p : A × B) → a ≡ p.0 → b ≡ p.1 → ◌≡◌ {A = A × B} (a, b) p
same_pair a b p e f = rw (e, f) refl

same_pairs : {A B C : Type 0} (a : A) (b : B) (c : C) (p : (A × B) × C) → a ≡ p.0.0 → b ≡ p.0.1 → c ≡ p.1 → ◌≡◌ {A = (A × B) × C} ((a, b), c) p
same_pairs a b c p e f g = rw (e, f, g) refl

-- a value of one word
module _ {A : Type 0} (IsOne : A → Type 0) (spelling : A → List ℕ) (words : Words) where
  abbrev First : Option (A × Words) → Type 0
  First found = Front IsOne (λ a. spelling a ∷ []) words found

  pub none_at_end : words ≡ [] → First None
  none_at_end end = reads_none (λ p one e. let long : 0 ≡ length (spelling p.0 ∷ p.1) = ap length (sym end ∙ e) in absurd (omega (arith, long)))

  module _ (word : List ℕ) (left : Words) (cut : words ≡ word ∷ left) where
    same_word : (p : A × Words) → words ≡ spelling p.0 ∷ p.1 → (word ≡ spelling p.0) × (left ≡ p.1)
    same_word p e = let both : word ∷ left ≡ spelling p.0 ∷ p.1 = sym cut ∙ e in (ap first_of both, ap after_first both)

    pub none_first : Reads IsOne spelling word None → First None
    none_first h = reads_none (λ p one e. none_reads h p.0 one (same_word p e).0)

    pub some_first : (a : A) → Reads IsOne spelling word (Some a) → First (Some (a, left))
    some_first a h = reads_some h.value.0 (cut ∙ ap (λ w. w ∷ left) h.value.1)
        (λ p one e. same_pair a left p (some_reads h p.0 one (same_word p e).0) (same_word p e).1)

-- a value, and another after it
module _ {A B : Type 0} (IsA : A → Type 0) (IsB : B → Type 0) (spells_a : A → Words) (spells_b : B → Words) (words : Words) where
  abbrev Both : Option ((A × B) × Words) → Type 0
  Both found = Front (λ (p : A × B). IsA p.0 × IsB p.1) (λ (p : A × B). spells_a p.0 ++ spells_b p.1) words found

  pub none_before : Front IsA spells_a words None → Both None
  none_before h = reads_none (λ p one e. none_reads h (p.0.0, spells_b p.0.1 ++ p.1) one.0 (e ∙ append_assoc (spells_a p.0.0) (spells_b p.0.1) p.1))

  module _ (a : A) (left : Words) (h : Front IsA spells_a words (Some (a, left))) where
    same_front : (p : (A × B) × Words) → IsA p.0.0 → words ≡ (spells_a p.0.0 ++ spells_b p.0.1) ++ p.1 → ◌≡◌ {A = A × Words} (a, left) (p.0.0, spells_b p.0.1 ++ p.1)
    same_front p one e = some_reads h (p.0.0, spells_b p.0.1 ++ p.1) one (e ∙ append_assoc (spells_a p.0.0) (spells_b p.0.1) p.1)

    pub none_after : Front IsB spells_b left None → Both None
    none_after k = reads_none (λ p one e. none_reads k (p.0.1, p.1) one.1 (ap (λ (q : A × Words). q.1) (same_front p one.0 e)))

    pub some_after : (b : B) (rest : Words) → Front IsB spells_b left (Some (b, rest)) → Both (Some ((a, b), rest))
    some_after b rest k = reads_some (h.value.0, k.value.0)
        (h.value.1 ∙ ap (λ w. spells_a a ++ w) k.value.1 ∙ sym (append_assoc (spells_a a) (spells_b b) rest))
        (λ p one e.
        let same = same_front p one.0 e in
        let same_b = some_reads k (p.0.1, p.1) one.1 (ap (λ (q : A × Words). q.1) same) in
        same_pairs a b rest p (ap (λ (q : A × Words). q.0) same) (ap (λ (q : B × Words). q.0) same_b) (ap (λ (q : B × Words). q.1) same_b))
