-- The lines of some bytes; each line ends at a newline.
use Rattle.std.specs.Prelude.{◌≡◌, ◌≢◌, ◌<◌, ◌+◌, ◌==◌, ℕ, if◌then◌else◌, List, [], ◌∷◌, ◌++◌, take, drop, length, get_or}

-- the bytes before the first newline; all bytes if there is no newline
abbrev pub first_line : List ℕ → List ℕ
first_line [] = []
first_line (byte ∷ bytes) = if byte == 10 then [] else byte ∷ first_line bytes

-- the bytes after the first newline; none if there is no newline
abbrev pub behind_first : List ℕ → List ℕ
behind_first [] = []
behind_first (byte ∷ bytes) = if byte == 10 then bytes else behind_first bytes

-- the lines, with this byte at the beginning of the first line; if there are no lines, the byte is in none
abbrev pub before_lines : ℕ → List (List ℕ) → List (List ℕ)
before_lines byte [] = []
before_lines byte (line ∷ lines) = (byte ∷ line) ∷ lines

-- the lines of some bytes. Each line ends with a newline; bytes after the last newline are in no line
abbrev pub whole_lines : List ℕ → List (List ℕ)
whole_lines [] = []
whole_lines (byte ∷ bytes) = if byte == 10 then [] ∷ whole_lines bytes else before_lines byte (whole_lines bytes)

-- the bytes don't contain this byte
abbrev pub Lacks : ℕ → List ℕ → Type 0
Lacks byte bytes = (k : ℕ) → k < length bytes → get_or bytes k 0 ≢ byte

-- the bytes are `front`, then this byte, then `rest`; `front` doesn't contain this byte
pub record IsCut (byte : ℕ) (bytes front rest : List ℕ) : Type 0 where
  pub whole : bytes ≡ front ++ byte ∷ rest
  pub lacks : Lacks byte front

-- the byte occurs at this place for the first time
pub record StandsFirst (byte : ℕ) (bytes : List ℕ) (place : ℕ) : Type 0 where
  pub within : place < length bytes
  pub cut : IsCut byte bytes (take place bytes) (drop (place + 1) bytes)
