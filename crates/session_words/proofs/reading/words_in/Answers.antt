use Rattle.std.proofs.Common.{◌≡◌, ◌≤◌, ◌∷◌, ◌∙◌, ℕ, List, [], get_or, length, refl, ap, arith}
use Rattle.session_words.specs.declared.reading.Words.{Words}
use Rattle.session_words.specs.Requests.{words_of, word_at}
use Rattle.session_words.specs.Words.{HasWords}
use Rattle.session_words.proofs.Cuts.{more-words}
use Rattle.session_words.proofs.reading.words_in.Goals as goal

-- more than four words, one after another
more-than-four : (read : Words) (words second third fourth : List (List ℕ)) → words ≡ read.first.now ∷ second → second ≡ read.second.now ∷ third
    → third ≡ read.third.now ∷ fourth → get_or fourth 0 [] ≡ read.fourth.now → 2 ≤ length fourth → read.count ≡ 5 → HasWords words read
more-than-four read words second third fourth one two three last many count =
    let whole : words ≡ read.first.now ∷ read.second.now ∷ read.third.now ∷ fourth =
    one ∙ ap (λ (ws : List (List ℕ)). read.first.now ∷ ws) (two ∙ ap (λ (ws : List (List ℕ)). read.second.now ∷ ws) three) in
    record {
      first = ap (word_at 0) whole;
      second = ap (word_at 1) whole;
      third = ap (word_at 2) whole;
      fourth = ap (word_at 3) whole ∙ last;
      count = let long = ap (λ (ws : List (List ℕ)). length ws) whole in omega arith;
    }

pub returns-then-is_some : goal.returns-then-is_some
returns-then-is_some c =
    let one : words_of c.args.line.now ≡ c.first_word.result.0.now ∷ words_of c.in-Some.rest.now = rw c.in-Some.is at c.first_word.ensures in
    let two : words_of c.in-Some.rest.now ≡ c.first_word-2.result.0.now ∷ words_of c.in-Some-behind_second.rest.now = rw c.in-Some-behind_second.is at c.first_word-2.ensures in
    let three : words_of c.in-Some-behind_second.rest.now ≡ c.first_word-3.result.0.now ∷ words_of c.in-Some-behind_third.rest.now = rw c.in-Some-behind_third.is at c.first_word-3.ensures in
    let four = more-words (λ r. r.now) (words_of c.in-Some-behind_third.rest.now) c.first_word-4.result.0.now c.first_word-4.result.1 (cc) c.first_word-4.ensures in
    more-than-four _ _ _ _ _ one two three four.0 four.1 refl
