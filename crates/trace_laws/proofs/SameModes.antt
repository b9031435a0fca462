-- The word of a mode gives the mode.
use Rattle.std.proofs.Common.{◌≡◌, ℕ, ◌<◌, ◌^◌, List, [], ◌∷◌, ◌++◌, get_or, drop, decimal, refl, sym, ap, ◌∙◌, arith}
use Rattle.std.proofs.lemmas.List.{append_cancel_right}
use Rattle.sig_types.specs.declared.frame.Mode.{Mode}
use Rattle.sig_types.specs.declared.frame.Mode.TheVariants as mode
use Rattle.trace_text.specs.IsLine.{FitsMode}
use Rattle.trace_text.specs.Texts.{mode_text}
use Rattle.trace_laws.proofs.SameWords.{same_number}

-- the first letter of a mode's word
abbrev letter : Mode → ℕ
letter mode.Start = 83
letter mode.Free = 70
letter (mode.Seek n) = 75
letter (mode.Coord n) = 67
letter mode.Ending = 69
letter mode.Flash = 88
letter (mode.Entry n) = 80
letter (mode.Track n) = 80
letter (mode.Dwell n) = 80
letter (mode.Exit n) = 80

letter_first : (m : Mode) → get_or (mode_text m) 0 0 ≡ letter m
letter_first mode.Start = refl
letter_first mode.Free = refl
letter_first (mode.Seek n) = refl
letter_first (mode.Coord n) = refl
letter_first mode.Ending = refl
letter_first mode.Flash = refl
letter_first (mode.Entry n) = refl
letter_first (mode.Track n) = refl
letter_first (mode.Dwell n) = refl
letter_first (mode.Exit n) = refl

letters_told : (a b : Mode) → mode_text a ≡ mode_text b → letter a ≡ letter b
letters_told a b e = sym (letter_first a) ∙ ap (λ text. get_or text 0 0) e ∙ letter_first b

-- the last byte of a text
abbrev last : List ℕ → ℕ
last [] = 0
last (x ∷ []) = x
last (x ∷ y ∷ more) = last (y ∷ more)

last_told : (xs : List ℕ) (c : ℕ) → last (xs ++ c ∷ []) ≡ c
last_told [] c = refl
last_told (x ∷ []) c = refl
last_told (x ∷ y ∷ more) c = last_told (y ∷ more) c

-- the number of a word with one letter before it
same_pattern : (l m n : ℕ) → m < 2 ^ 8 → n < 2 ^ 8 → l ∷ decimal m ≡ l ∷ decimal n → m ≡ n
same_pattern l m n low below e = same_number m n (omega arith) (omega arith) (ap (drop 1) e)

-- the number and the last letter of a preempt's word
module _ (m n c d : ℕ) (low : m < 2 ^ 8) (below : n < 2 ^ 8) (e : 80 ∷ (decimal m ++ c ∷ []) ≡ 80 ∷ (decimal n ++ d ∷ [])) where
  same_end : c ≡ d
  same_end = sym (last_told (80 ∷ decimal m) c) ∙ ap last e ∙ last_told (80 ∷ decimal n) d

  same_preempt : m ≡ n
  same_preempt =
      let end : c ≡ d = same_end in
      let cut : 80 ∷ decimal m ≡ 80 ∷ decimal n
      = append_cancel_right (80 ∷ decimal m) (80 ∷ decimal n) (d ∷ []) (ap (λ c. 80 ∷ (decimal m ++ c ∷ [])) (sym end) ∙ e) in
      same_pattern 80 m n low below cut

start_is : (b : Mode) → mode_text mode.Start ≡ mode_text b → mode.Start ≡ b
start_is mode.Start e = refl
start_is b e = absurd (let told = letters_told mode.Start b e in omega (arith, told))

free_is : (b : Mode) → mode_text mode.Free ≡ mode_text b → mode.Free ≡ b
free_is mode.Free e = refl
free_is b e = absurd (let told = letters_told mode.Free b e in omega (arith, told))

ending_is : (b : Mode) → mode_text mode.Ending ≡ mode_text b → mode.Ending ≡ b
ending_is mode.Ending e = refl
ending_is b e = absurd (let told = letters_told mode.Ending b e in omega (arith, told))

flash_is : (b : Mode) → mode_text mode.Flash ≡ mode_text b → mode.Flash ≡ b
flash_is mode.Flash e = refl
flash_is b e = absurd (let told = letters_told mode.Flash b e in omega (arith, told))

module _ (n : ℕ) (low : n < 2 ^ 8) where
  seek_is : (b : Mode) → FitsMode b → mode_text (mode.Seek n) ≡ mode_text b → mode.Seek n ≡ b
  seek_is (mode.Seek k) fits e = ap mode.Seek (same_pattern 75 n k low fits e)
  seek_is b fits e = absurd (let told = letters_told (mode.Seek n) b e in omega (arith, told))

  coord_is : (b : Mode) → FitsMode b → mode_text (mode.Coord n) ≡ mode_text b → mode.Coord n ≡ b
  coord_is (mode.Coord k) fits e = ap mode.Coord (same_pattern 67 n k low fits e)
  coord_is b fits e = absurd (let told = letters_told (mode.Coord n) b e in omega (arith, told))

  entry_is : (b : Mode) → FitsMode b → mode_text (mode.Entry n) ≡ mode_text b → mode.Entry n ≡ b
  entry_is (mode.Entry k) fits e = ap mode.Entry (same_preempt n k 101 101 low fits e)
  entry_is (mode.Track k) fits e = absurd (let told = same_end n k 101 116 low fits e in omega (arith, told))
  entry_is (mode.Dwell k) fits e = absurd (let told = same_end n k 101 100 low fits e in omega (arith, told))
  entry_is (mode.Exit k) fits e = absurd (let told = same_end n k 101 120 low fits e in omega (arith, told))
  entry_is b fits e = absurd (let told = letters_told (mode.Entry n) b e in omega (arith, told))

  track_is : (b : Mode) → FitsMode b → mode_text (mode.Track n) ≡ mode_text b → mode.Track n ≡ b
  track_is (mode.Track k) fits e = ap mode.Track (same_preempt n k 116 116 low fits e)
  track_is (mode.Entry k) fits e = absurd (let told = same_end n k 116 101 low fits e in omega (arith, told))
  track_is (mode.Dwell k) fits e = absurd (let told = same_end n k 116 100 low fits e in omega (arith, told))
  track_is (mode.Exit k) fits e = absurd (let told = same_end n k 116 120 low fits e in omega (arith, told))
  track_is b fits e = absurd (let told = letters_told (mode.Track n) b e in omega (arith, told))

  dwell_is : (b : Mode) → FitsMode b → mode_text (mode.Dwell n) ≡ mode_text b → mode.Dwell n ≡ b
  dwell_is (mode.Dwell k) fits e = ap mode.Dwell (same_preempt n k 100 100 low fits e)
  dwell_is (mode.Entry k) fits e = absurd (let told = same_end n k 100 101 low fits e in omega (arith, told))
  dwell_is (mode.Track k) fits e = absurd (let told = same_end n k 100 116 low fits e in omega (arith, told))
  dwell_is (mode.Exit k) fits e = absurd (let told = same_end n k 100 120 low fits e in omega (arith, told))
  dwell_is b fits e = absurd (let told = letters_told (mode.Dwell n) b e in omega (arith, told))

  exit_is : (b : Mode) → FitsMode b → mode_text (mode.Exit n) ≡ mode_text b → mode.Exit n ≡ b
  exit_is (mode.Exit k) fits e = ap mode.Exit (same_preempt n k 120 120 low fits e)
  exit_is (mode.Entry k) fits e = absurd (let told = same_end n k 120 101 low fits e in omega (arith, told))
  exit_is (mode.Track k) fits e = absurd (let told = same_end n k 120 116 low fits e in omega (arith, told))
  exit_is (mode.Dwell k) fits e = absurd (let told = same_end n k 120 100 low fits e in omega (arith, told))
  exit_is b fits e = absurd (let told = letters_told (mode.Exit n) b e in omega (arith, told))

pub mode_told : (a b : Mode) → FitsMode a → FitsMode b → mode_text a ≡ mode_text b → a ≡ b
mode_told mode.Start b fits also e = start_is b e
mode_told mode.Free b fits also e = free_is b e
mode_told (mode.Seek n) b fits also e = seek_is n fits b also e
mode_told (mode.Coord n) b fits also e = coord_is n fits b also e
mode_told mode.Ending b fits also e = ending_is b e
mode_told mode.Flash b fits also e = flash_is b e
mode_told (mode.Entry n) b fits also e = entry_is n fits b also e
mode_told (mode.Track n) b fits also e = track_is n fits b also e
mode_told (mode.Dwell n) b fits also e = dwell_is n fits b also e
mode_told (mode.Exit n) b fits also e = exit_is n fits b also e
