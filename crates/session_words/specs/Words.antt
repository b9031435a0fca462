-- The words of a line as the program holds them.
use Rattle.std.specs.Prelude.{◌≡◌, ℕ, List, length, min}
use Rattle.session_words.specs.declared.reading.Words.{Words}
use Rattle.session_words.specs.Requests.{word_at}

-- the first four words of a line, and their number; 5 means more than four
pub record HasWords (words : List (List ℕ)) (read : Words) : Type 0 where
  pub first : word_at 0 words ≡ read.first.now
  pub second : word_at 1 words ≡ read.second.now
  pub third : word_at 2 words ≡ read.third.now
  pub fourth : word_at 3 words ≡ read.fourth.now
  pub count : min (length words) 5 ≡ read.count
