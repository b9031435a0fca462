use Rattle.trace_text.proofs.Frames.{IsNumber, number_words}
use Rattle.trace_text.proofs.FrontParts.{none_before, none_after, some_after}
use Rattle.trace_text.proofs.frame_reading.two.Goals as goal

pub returns-in-None : goal.returns-in-None
returns-in-None c = none_before IsNumber IsNumber number_words number_words _ c.in-None.ensures

pub returns-in-None-next_number : goal.returns-in-None-next_number
returns-in-None-next_number c = none_after IsNumber IsNumber number_words number_words _ _ _ c.in-Some.ensures c.in-None-next_number.ensures

pub returns : goal.returns
returns c = some_after IsNumber IsNumber number_words number_words _ _ _ c.in-Some.ensures _ _ c.in-Some-next_number.ensures
