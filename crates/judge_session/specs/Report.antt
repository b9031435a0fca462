-- What is reported of a log, line by line and at its end. Lists of lines have the newest line first.
use Rattle.std.specs.Prelude.{ℕ, zero, suc, ◌+◌, ◌&&◌, is_none, if◌then◌else◌, List, [], ◌∷◌, ◌++◌, length, codes, decimal, Ok}
use Rattle.trace_text.specs.declared.lines.Line.{Line}
use Rattle.trace_text.specs.declared.lines.Line.TheVariants.{F, L}
use Rattle.trace_text.specs.Words.{line_of}
use Rattle.scenario_data.specs.Content.{ScenarioContent}
use Rattle.judge_laws.specs.declared.Terms.{Terms}
use Rattle.judge_laws.specs.declared.Clause.{Clause}
use Rattle.judge_laws.specs.declared.Clause.TheVariants.{Apart, Order, Clearance, ShortGreen, Pedestrian, OnGreen}
use Rattle.judge_laws.specs.declared.Breach.{Breach}
use Rattle.judge_laws.specs.declared.Light.{Light}
use Rattle.judge_laws.specs.declared.Light.TheVariants as light
use Rattle.judge_laws.specs.declared.Overrun.{Overrun}
use Rattle.judge_laws.specs.Breaches.{line_breaches}
use Rattle.judge_laws.specs.Overrun.{last_tick, each_overruns, cabinet_overruns}
use Rattle.judge_session.specs.Told.{load_told, is_known, tables_before}

-- the breaches that a line shows, given the lines before it; none if the tables of its cabinet are unknown
abbrev pub line_found : ScenarioContent → Terms → List Line → Line → List Breach
line_found s terms before (F cab tick veh ped mode counter target version) =
    if is_known s cab before
    then line_breaches terms (tables_before s before) before (F cab tick veh ped mode counter target version) else []
line_found s terms before _ = []

-- the breaches of all lines, in their order
abbrev pub log_found : ScenarioContent → Terms → List Line → List Breach
log_found s terms [] = []
log_found s terms (line ∷ before) = log_found s terms before ++ line_found s terms before line

-- the number of a clause
abbrev pub clause_number : Clause → ℕ
clause_number Apart = 1
clause_number Order = 2
clause_number Clearance = 3
clause_number ShortGreen = 4
clause_number Pedestrian = 5
clause_number OnGreen = 6

-- the report's line of a breach: cabinet, tick, clause, phase, and the other phase or 0
unfoldable pub breach_text : Breach → List ℕ
breach_text b =
    line_of (codes "B" ∷ decimal b.cab ∷ decimal b.tick ∷ decimal (clause_number b.clause) ∷ decimal b.phase ∷ decimal b.other ∷ [])

abbrev pub breaches_text : List Breach → List ℕ
breaches_text [] = []
breaches_text (b ∷ breaches) = breach_text b ++ breaches_text breaches

-- the report's line of a cabinet whose tables are unknown from here on, because the scenario doesn't have the download
-- with this number
unfoldable pub unknown_text : ℕ → ℕ → List ℕ
unknown_text cab id = line_of (codes "U" ∷ decimal cab ∷ decimal id ∷ [])

-- the report's line if this line is a download that makes the tables of its cabinet unknown; otherwise no line
abbrev pub unknown_by : ScenarioContent → List Line → Line → List ℕ
unknown_by s before (L cab id (Ok version)) =
    if is_known s cab before && is_none (load_told s cab id) then unknown_text cab id else []
unknown_by s before _ = []

-- the report of a line, given the lines before it
abbrev pub line_report : ScenarioContent → Terms → List Line → Line → List ℕ
line_report s terms before line = breaches_text (line_found s terms before line) ++ unknown_by s before line

-- the reports of all lines, in their order
abbrev pub log_report : ScenarioContent → Terms → List Line → List ℕ
log_report s terms [] = []
log_report s terms (line ∷ before) = log_report s terms before ++ line_report s terms before line

-- the letter of a colour or a pedestrian signal, as in an F line
abbrev pub light_letter : Light → List ℕ
light_letter light.Yellow = codes "Y"
light_letter light.Clear = codes "C"
light_letter light.Walk = codes "W"
light_letter light.Flash = codes "F"

-- the report's line of an interval that exceeds its time and has not ended: cabinet, phase, letter, and the tick of its
-- first line
unfoldable pub overrun_text : Overrun → List ℕ
overrun_text o = line_of (codes "W" ∷ decimal o.cab ∷ decimal o.phase ∷ light_letter o.light ∷ decimal o.since ∷ [])

abbrev pub overruns_text : List Overrun → List ℕ
overruns_text [] = []
overruns_text (o ∷ overruns) = overrun_text o ++ overruns_text overruns

-- the intervals of a cabinet that exceed their time at a tick; none if its tables are unknown
abbrev pub overruns_at : ScenarioContent → Terms → ℕ → List Line → ℕ → List Overrun
overruns_at s terms tick before cab =
    if is_known s cab before then cabinet_overruns terms.tolerance (tables_before s before) tick before cab else []

-- `many` consecutive numbers, beginning with `first`
abbrev pub numbers_from : ℕ → ℕ → List ℕ
numbers_from first zero = []
numbers_from first (suc many) = first ∷ numbers_from (first + 1) many

-- the intervals of all cabinets that exceed their time at the last tick of the log
abbrev pub log_overruns : ScenarioContent → Terms → List Line → List Overrun
log_overruns s terms before =
    each_overruns (overruns_at s terms (last_tick before) before) (numbers_from 1 (length s.cabinets))

-- the last line of the report: the number of cabinets in the scenario, and the number of breaches
unfoldable pub total_text : ℕ → ℕ → List ℕ
total_text cabinets breaches = line_of (codes "Z" ∷ decimal cabinets ∷ decimal breaches ∷ [])

-- the report at the end of a log: the intervals that exceed their time, then the last line
abbrev pub end_report : ScenarioContent → Terms → List Line → List ℕ
end_report s terms before =
    overruns_text (log_overruns s terms before) ++ total_text (length s.cabinets) (length (log_found s terms before))

-- the whole report
abbrev pub judged_text : ScenarioContent → Terms → List Line → List ℕ
judged_text s terms before = log_report s terms before ++ end_report s terms before
