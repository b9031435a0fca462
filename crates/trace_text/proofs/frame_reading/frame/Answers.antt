use Rattle.std.proofs.Common.{ap}
use Rattle.trace_text.specs.Fronts.{words_left}
use Rattle.trace_text.proofs.FrontParts.{some_left}
use Rattle.trace_text.proofs.Frames.{none_two, none_shown, none_three, all_said, none_more, some_frame}
use Rattle.trace_text.proofs.frame_reading.frame.Goals as goal

pub returns-in-None : goal.returns-in-None
returns-in-None c = none_two _ c.in-None.ensures

pub returns-in-None-shown : goal.returns-in-None-shown
returns-in-None-shown c = none_shown _ _ _ c.in-Some.ensures c.in-None-shown.ensures

pub returns-in-None-three : goal.returns-in-None-three
returns-in-None-three c = none_three _ _ _ c.in-Some.ensures _ _ c.in-Some-shown.ensures c.in-None-three.ensures

pub returns-in-Some-words : goal.returns-in-Some-words
returns-in-Some-words c = none_more _ _ _ (all_said _ _ _ c.in-Some.ensures _ _ c.in-Some-shown.ensures _ _ c.in-Some-three.ensures) (some_left _ c.in-Some-words.field-0 c.in-Some-words.is)

pub returns-in-None-words : goal.returns-in-None-words
returns-in-None-words c = some_frame _ _ _ (all_said _ _ _ c.in-Some.ensures _ _ c.in-Some-shown.ensures _ _ c.in-Some-three.ensures) (ap words_left c.in-None-words.is)
