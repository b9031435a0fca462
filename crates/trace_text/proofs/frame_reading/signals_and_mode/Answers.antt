use Rattle.trace_text.specs.IsLine.{FitsMode}
use Rattle.trace_text.proofs.Frames.{AreSignals, signals_words, mode_words}
use Rattle.trace_text.proofs.FrontParts.{none_before, none_after, some_after}
use Rattle.trace_text.proofs.frame_reading.signals_and_mode.Goals as goal

pub returns-in-None : goal.returns-in-None
returns-in-None c = none_before AreSignals FitsMode signals_words mode_words _ c.in-None.ensures

pub returns-in-None-next_mode : goal.returns-in-None-next_mode
returns-in-None-next_mode c = none_after AreSignals FitsMode signals_words mode_words _ _ _ c.in-Some.ensures c.in-None-next_mode.ensures

pub returns : goal.returns
returns c = some_after AreSignals FitsMode signals_words mode_words _ _ _ c.in-Some.ensures _ _ c.in-Some-next_mode.ensures
