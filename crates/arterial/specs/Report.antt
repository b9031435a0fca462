-- What is printed on standard error for each answer: one line, or nothing if the answer is Done.
use Rattle.std.specs.Prelude.{ℕ, List, [], ◌∷◌, ◌++◌, codes, decimal, string_bytes}
use Rattle.scenario_data.specs.declared.refusal.Refusal.{Refusal}
use Rattle.scenario_data.specs.declared.refusal.Refusal.TheVariants.{Syntax, Field, Limit, Broken}
use Rattle.judge_session.specs.declared.faults.LineFault.{LineFault}
use Rattle.judge_session.specs.declared.faults.LineFault.TheVariants.{NotALine, NoCabinet, NotLater, FrameVersion, LoadVersion}
use Rattle.station.specs.declared.status.Status.{Status}
use Rattle.station.specs.declared.status.Status.TheVariants.{Done, Usage, Scenario, NotATrace, Overlap, Unsafe, NotALog, ReadFault, WriteFault, NoMemory}

-- the words, and a newline
abbrev pub words_line : List ℕ → List ℕ
words_line words = words ++ 10 ∷ []

-- the words, then a name, then a newline
abbrev pub named_line : List ℕ → List ℕ → List ℕ
named_line words name = words ++ (name ++ 10 ∷ [])

-- the words, then a number, then the rest
abbrev pub number_then : List ℕ → ℕ → List ℕ → List ℕ
number_then words n rest = (words ++ decimal n) ++ rest

-- why an input is refused
abbrev pub refusal_line : Refusal → List ℕ
refusal_line Syntax = words_line (codes "scenario: not JSON")
refusal_line (Field path) = named_line (codes "scenario: field ") (string_bytes path)
refusal_line (Limit path) = named_line (codes "scenario: limit ") (string_bytes path)
refusal_line (Broken cab rule row) =
    number_then (codes "scenario: cabinet ") cab (number_then (codes " breaks rule ") rule (number_then (codes " at row ") row (10 ∷ [])))

-- why a line of a log can't follow the lines before it
abbrev pub fault_words : LineFault → List ℕ
fault_words NotALine = codes " is not a line of a trace"
fault_words NoCabinet = codes " is of a cabinet that the scenario does not have"
fault_words NotLater = codes " is not later than the frame before it"
fault_words FrameVersion = codes " has a version other than the number of accepted loads"
fault_words LoadVersion = codes " has a version other than the next one"

-- the line of an answer
abbrev pub report_line : Status → List ℕ
report_line Done = []
report_line Usage = words_line (codes "usage: arterial run [--workers N] | check | generate | survey")
report_line (Scenario refusal) = refusal_line refusal
report_line (NotATrace fault) =
    number_then (codes "trace: line ") fault.line (number_then (codes " breaks rule ") fault.rule (10 ∷ []))
report_line (Overlap fault) =
    number_then (codes "overlap: rule ") fault.rule (number_then (codes " at row ") fault.row (10 ∷ []))
report_line Unsafe = words_line (codes "log: not safe")
report_line (NotALog fault) = number_then (codes "log: line ") fault.line (words_line (fault_words fault.fault))
report_line ReadFault = words_line (codes "read fault")
report_line WriteFault = words_line (codes "write fault")
report_line NoMemory = words_line (codes "out of memory")
