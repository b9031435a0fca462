use Rattle.trace_text.proofs.Frames.{AreColours, AreGiven, colours_words, given_words}
use Rattle.trace_text.proofs.FrontParts.{none_before, none_after, some_after}
use Rattle.trace_text.proofs.frame_reading.shown.Goals as goal

pub returns-in-None : goal.returns-in-None
returns-in-None c = none_before AreColours AreGiven colours_words given_words _ c.in-None.ensures

pub returns-in-None-signals_and_mode : goal.returns-in-None-signals_and_mode
returns-in-None-signals_and_mode c = none_after AreColours AreGiven colours_words given_words _ _ _ c.in-Some.ensures c.in-None-signals_and_mode.ensures

pub returns : goal.returns
returns c = some_after AreColours AreGiven colours_words given_words _ _ _ c.in-Some.ensures _ _ c.in-Some-signals_and_mode.ensures
