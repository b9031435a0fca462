use Rattle.session_words.proofs.Cuts.{first-word, words_of-one}
use Rattle.session_words.proofs.reading.first_word.Goals as goal

pub returns-in-Some : goal.returns-in-Some
returns-in-Some c = first-word _ _ c.in-Some.ensures.some

pub returns-in-None : goal.returns-in-None
returns-in-None c = words_of-one _ (c.place_of.ensures.none c.in-None.is)
