-- The text of each line of a trace.
use Rattle.std.specs.Prelude.{ℕ, List, [], ◌∷◌, map, codes, decimal, Result, Ok, Err}
use Rattle.std.specs.Fmt.{signed_decimal}
use Rattle.sig_types.specs.declared.notes.Broken.{Broken}
use Rattle.sig_types.specs.declared.notes.MasterNote.{MasterNote}
use Rattle.sig_types.specs.declared.notes.MasterNote.TheVariants as note
use Rattle.trace_text.specs.Texts.{colours_text, signals_text, mode_text, run_word, reply_text}
use Rattle.trace_text.specs.Words.{line_of}
use Rattle.trace_text.specs.declared.lines.Line.{Line}
use Rattle.trace_text.specs.declared.lines.Line.TheVariants.{S, F, R, M, J, L, A, Z}

-- the words of a master's note
abbrev pub note_words : MasterNote → List (List ℕ)
note_words (note.Fail cab) = codes "M" ∷ decimal cab ∷ codes "fail" ∷ []
note_words (note.Good cab) = codes "M" ∷ decimal cab ∷ codes "good" ∷ []
note_words (note.Pattern cab pattern) = codes "M" ∷ decimal cab ∷ codes "pattern" ∷ decimal pattern ∷ []
note_words (note.LoadDone cab load) = codes "M" ∷ decimal cab ∷ codes "load" ∷ decimal load ∷ codes "done" ∷ []
note_words (note.LoadRefused cab load status index) =
    codes "M" ∷ decimal cab ∷ codes "load" ∷ decimal load ∷ codes "refused" ∷ signed_decimal status ∷ signed_decimal index ∷ []

-- the words of the end of a download: the version that it made, or the rule that refused it and the row
abbrev pub load_words : ℕ → ℕ → Result ℕ Broken → List (List ℕ)
load_words cab id (Ok version) = codes "L" ∷ decimal cab ∷ decimal id ∷ codes "accepted" ∷ decimal version ∷ []
load_words cab id (Err broken) =
    codes "L" ∷ decimal cab ∷ decimal id ∷ codes "refused" ∷ decimal broken.rule ∷ decimal broken.row ∷ []

-- the words of a line; the text of a scenario is one word, even if it has spaces
abbrev pub line_words : Line → List (List ℕ)
line_words (S json) = codes "S" ∷ json ∷ []
line_words (F cab tick veh ped mode counter target version) =
    codes "F" ∷ decimal cab ∷ decimal tick ∷ colours_text veh ∷ signals_text ped ∷ mode_text mode
    ∷ decimal counter ∷ decimal target ∷ decimal version ∷ []
line_words (R round) = codes "R" ∷ decimal round ∷ []
line_words (M note) = note_words note
line_words (J cab runs) = codes "J" ∷ decimal cab ∷ map run_word runs
line_words (L cab id outcome) = load_words cab id outcome
line_words (A cab pass reply) = codes "A" ∷ decimal cab ∷ decimal pass ∷ reply_text reply ∷ []
line_words (Z rounds) = codes "Z" ∷ decimal rounds ∷ []

-- the text of a line, with its newline
unfoldable pub line_text : Line → List ℕ
line_text line = line_of (line_words line)
