use Rattle.trace_text.proofs.Frames.{IsNumber, AreTwo, number_words, two_words}
use Rattle.trace_text.proofs.FrontParts.{none_before, none_after, some_after}
use Rattle.trace_text.proofs.frame_reading.three.Goals as goal

pub returns-in-None : goal.returns-in-None
returns-in-None c = none_before IsNumber AreTwo number_words two_words _ c.in-None.ensures

pub returns-in-None-two : goal.returns-in-None-two
returns-in-None-two c = none_after IsNumber AreTwo number_words two_words _ _ _ c.in-Some.ensures c.in-None-two.ensures

pub returns : goal.returns
returns c = some_after IsNumber AreTwo number_words two_words _ _ _ c.in-Some.ensures _ _ c.in-Some-two.ensures
