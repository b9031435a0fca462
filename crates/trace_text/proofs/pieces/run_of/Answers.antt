use Rattle.trace_text.proofs.RunWords.{none_star, none_pass, none_count, some_run}
use Rattle.trace_text.proofs.pieces.run_of.Goals as goal

pub returns-in-None : goal.returns-in-None
returns-in-None c = none_star _ c.in-None.ensures

pub returns-in-None-word32 : goal.returns-in-None-word32
returns-in-None-word32 c = none_pass _ _ _ c.in-Some.ensures.0 c.in-Some.ensures.1 c.in-None-word32.ensures

pub returns-in-None-word32-2 : goal.returns-in-None-word32-2
returns-in-None-word32-2 c = none_count _ _ _ c.in-Some.ensures.0 c.in-Some.ensures.1 c.in-None-word32-2.ensures

pub returns-in-Some-word32-2 : goal.returns-in-Some-word32-2
returns-in-Some-word32-2 c = some_run _ _ _ c.in-Some.ensures.0 c.in-Some.ensures.1 c.in-Some-word32.ensures c.in-Some-word32-2.ensures
