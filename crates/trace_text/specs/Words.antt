-- How words make a line: one space between two words, and one newline at the end.
use Rattle.std.specs.Prelude.{ℕ, ◌<◌, ◌≢◌, List, [], ◌∷◌, ◌++◌, length, get_or}

-- the text after a word: each further word after one space, then the newline
abbrev pub after_word : List (List ℕ) → List ℕ
after_word [] = 10 ∷ []
after_word (word ∷ words) = 32 ∷ (word ++ after_word words)

-- the line with these words
abbrev pub line_of : List (List ℕ) → List ℕ
line_of [] = 10 ∷ []
line_of (word ∷ words) = word ++ after_word words

-- these words, each after one space
abbrev pub spaced : List (List ℕ) → List ℕ
spaced [] = []
spaced (word ∷ words) = 32 ∷ (word ++ spaced words)

-- these words, with one space between two of them
abbrev pub unended : List (List ℕ) → List ℕ
unended [] = []
unended (word ∷ words) = word ++ spaced words

-- the bytes don't contain this byte
abbrev pub Lacks : ℕ → List ℕ → Type 0
Lacks byte bytes = (k : ℕ) → k < length bytes → get_or bytes k 0 ≢ byte
