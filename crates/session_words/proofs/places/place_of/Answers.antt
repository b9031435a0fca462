use Rattle.session_words.proofs.Cuts.{stands-first, lacks-all}
use Rattle.session_words.proofs.places.place_of.Goals as goal

pub returns-clause-some : goal.returns-clause-some
returns-clause-some c = stands-first _ _ _ c.memchr.ensures

pub returns-clause-none : goal.returns-clause-none
returns-clause-none c = lacks-all _ _ _ c.memchr.ensures
