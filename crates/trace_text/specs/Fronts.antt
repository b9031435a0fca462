-- What it means to read a value from the first words of a line.
use Rattle.std.specs.Prelude.{ℕ, ◌==◌, ◌++◌, List, [], Option, None, Some}
use Rattle.std.specs.Borrow.{Bor}
use Rattle.std.specs.List.{slice_split}
use Rattle.std.specs.Option.{option_map}
use Rattle.trace_text.specs.Reads.{Reads}

-- the words of what is left of a line, without its newline; no word is left at its end
abbrev pub words_left : Option (Bor (List ℕ)) → List (List ℕ)
words_left None = []
words_left (Some bytes) = slice_split (λ b. b == 32) bytes.now

module _ {A : Type 0} (IsOne : A → Type 0) (spelling : A → List (List ℕ)) (words : List (List ℕ)) where
  -- a value is read from the first words exactly if they spell it, and the words that follow are left
  abbrev pub ReadsFront : Option (A × Option (Bor (List ℕ))) → Type 0
  ReadsFront found =
      Reads (λ (p : A × List (List ℕ)). IsOne p.0) (λ (p : A × List (List ℕ)). spelling p.0 ++ p.1) words
      (option_map (λ (taken : A × Option (Bor (List ℕ))). (taken.0, words_left taken.1)) found)
