-- The words of an F line, by the content of the line.
use Rattle.std.specs.Prelude.{ℕ, List}
use Rattle.trace_text.specs.declared.lines.Line.TheVariants.{F}
use Rattle.trace_text.specs.declared.write.FrameLine.{FrameLine}
use Rattle.trace_text.specs.Line.{line_words}

-- the words of an F line with this content
abbrev pub frame_line_words : FrameLine → List (List ℕ)
frame_line_words f = line_words (F f.cab f.tick f.veh.now f.ped.now f.mode f.counter f.target f.version)
