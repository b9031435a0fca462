-- Words, one after another.
use Rattle.std.proofs.Common.{◌≡◌, ℕ, List, [], ◌∷◌, ◌++◌, refl, ap, append_assoc, ◌∙◌}
use Rattle.trace_text.specs.Words.{after_word, line_of, spaced, unended}

pub spaced-ended : (words : List (List ℕ)) → spaced words ++ 10 ∷ [] ≡ after_word words
spaced-ended [] = refl
spaced-ended (word ∷ words) = rw append_assoc (rw (spaced-ended words) refl)

pub unended-ended : (words : List (List ℕ)) → unended words ++ 10 ∷ [] ≡ line_of words
unended-ended [] = refl
unended-ended (word ∷ words) = rw append_assoc (rw (spaced-ended words) refl)

pub ruleset endings = (unended-ended, append_assoc)
