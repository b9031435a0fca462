-- Words of letters, one for each of sixteen phases.
use Rattle.std.proofs.Common.{◌≡◌, ℕ, ◌<◌, List, get_or, length, map, Option, Some, None, refl, sym, ap, ◌∙◌, arith, below_more, ◌≢◌, slice_set, ◌+◌, ◌==◌, if◌then◌else◌}
use Rattle.std.proofs.lemmas.List.{get_or-map, length-map, ext_get_or, get_or-set_same, get_or-set_other}
use Rattle.sig_types.specs.declared.frame.Colour.{Colour}
use Rattle.sig_types.specs.declared.frame.Colour.TheVariants as colour
use Rattle.sig_types.specs.declared.frame.Ped.{Ped}
use Rattle.sig_types.specs.declared.frame.Ped.TheVariants as signal
use Rattle.trace_text.specs.Texts.{colour_letter, signal_letter}
use Rattle.trace_text.specs.Reads.{Reads}
use Rattle.trace_text.proofs.Reading.{reads_none, reads_some}

module _ {X : Type 0} (letter : X → ℕ) (d : X) (word : List ℕ) where
  abbrev ReadsLetters : Option (List X) → Type 0
  ReadsLetters found = Reads (λ xs. length xs ≡ 16) (map letter) word found

  -- the letters up to p are those of the word
  abbrev pub SameLetters : List X → ℕ → Type 0
  SameLetters xs p = (k : ℕ) → k < p → letter (get_or xs k d) ≡ get_or word k 0

  letter_at : (xs : List X) → length xs ≡ 16 → word ≡ map letter xs → (k : ℕ) → k < 16 → get_or word k 0 ≡ letter (get_or xs k d)
  letter_at xs sixteen e k low = let within : k < length xs = omega arith in rw e (get_or-map letter xs k d 0 within)

  pub none_letters : (k : ℕ) → k < 16 → ((x : X) → get_or word k 0 ≡ letter x → ⊥) → ReadsLetters None
  none_letters k low unlike = reads_none (λ xs sixteen e. unlike _ (letter_at xs sixteen e k low))

  pub none_other_length : (length word ≡ 16 → ⊥) → ReadsLetters None
  none_other_length unlike = reads_none (λ xs sixteen e. unlike (rw e (length-map xs letter ∙ sixteen)))

  pub some_letters : ((x y : X) → letter x ≡ letter y → x ≡ y) → (xs : List X) → length word ≡ 16 → length xs ≡ 16 → SameLetters xs 16 → ReadsLetters (Some xs)
  some_letters apart xs long sixteen same = reads_some sixteen
      (ext_get_or 0 word (map letter xs) (long ∙ sym (length-map xs letter ∙ sixteen))
      (λ k low. let within : k < length xs = omega arith in sym (get_or-map letter xs k d 0 within ∙ same k (omega arith))))
      (λ ys other e. ext_get_or d xs ys (sixteen ∙ sym other) (λ k low. apart _ _ (same k (omega arith) ∙ letter_at ys other e k (omega arith))))

  -- one letter more
  pub one_more_letter : (xs : List X) (p : ℕ) (x : X) → p < length xs → SameLetters xs p → get_or word p 0 ≡ letter x → SameLetters (slice_set xs p x) (p + 1)
  one_more_letter xs p x within same e = below_more _ _
      (λ k below. let ne : k ≢ p = omega arith in rw get_or-set_other (same k below))
      (rw get_or-set_same (sym e))

-- a letter gives its colour, and its signal
abbrev colour_at : ℕ → Colour
colour_at n = if n == 71 then colour.Green else (if n == 89 then colour.Yellow else (if n == 67 then colour.Clear else colour.Red))

colour_back : (c : Colour) → colour_at (colour_letter c) ≡ c
colour_back colour.Green = refl
colour_back colour.Yellow = refl
colour_back colour.Clear = refl
colour_back colour.Red = refl

pub colours_apart : (a b : Colour) → colour_letter a ≡ colour_letter b → a ≡ b
colours_apart a b e = sym (colour_back a) ∙ ap colour_at e ∙ colour_back b

abbrev signal_at : ℕ → Ped
signal_at n = if n == 87 then signal.Walk else (if n == 70 then signal.Flash else signal.Dont)

signal_back : (s : Ped) → signal_at (signal_letter s) ≡ s
signal_back signal.Walk = refl
signal_back signal.Flash = refl
signal_back signal.Dont = refl

pub signals_apart : (a b : Ped) → signal_letter a ≡ signal_letter b → a ≡ b
signals_apart a b e = sym (signal_back a) ∙ ap signal_at e ∙ signal_back b
