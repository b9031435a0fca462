-- The value of each instance that can be read: cells of the tables, what the cabinet shows, and its download stage.
use Rattle.std.specs.Prelude.{ℕ, ◌-◌, ◌==◌, pos, if◌then◌else◌, get_or, List, Option, Some, None}
use Rattle.ber_code.specs.Reading.{◌>>=◌}
use Rattle.sig_types.specs.declared.frame.Mode.{Mode}
use Rattle.sig_types.specs.declared.frame.Mode.TheVariants.{Start, Free, Seek, Coord, Ending, Flash, Entry, Track, Dwell, Exit}
use Rattle.sig_types.specs.declared.notes.StageAnswer.{StageAnswer}
use Rattle.sig_types.specs.declared.notes.StageAnswer.TheVariants.{Staged, Repeated, Verified, Accepted, WrongToken, WrongPart, NotVerified, Refused}
use Rattle.sig_tables.specs.Cells.{Content, Number, Octets, value_at}
use Rattle.snmp_msg.specs.declared.message.Value.{Value}
use Rattle.snmp_msg.specs.declared.message.Value.TheVariants.{Int, Octets as OctetsValue}
use Rattle.oid_map.specs.declared.names.Name.{Name}
use Rattle.oid_map.specs.declared.names.Name.TheVariants.{Cell as CellName, Index, Group, PatternStatus, PatternControl, Txn, Clock, Counter, Target, ModeCode, Request, Cancel, RequestState}
use Rattle.oid_map.specs.Reading.{name_at}
use Rattle.agent.specs.Seen.{Seen}
use Rattle.agent.specs.Groups.{group_octet}

-- the content of a cell as a value
abbrev pub content_value : Content → Value
content_value (Number n) = Int (pos n)
content_value (Octets octets) = OctetsValue (record { items = octets })

-- the pattern that is run, 255 in flash, otherwise 254
abbrev pub pattern_status : Mode → ℕ
pattern_status (Seek n) = n
pattern_status (Coord n) = n
pattern_status Flash = 255
pattern_status _ = 254

-- the mode as a number
abbrev pub mode_code : Mode → ℕ
mode_code Start = 1
mode_code Free = 2
mode_code (Seek n) = 3
mode_code (Coord n) = 4
mode_code Ending = 5
mode_code Flash = 6
mode_code (Entry i) = 7
mode_code (Track i) = 8
mode_code (Dwell i) = 9
mode_code (Exit i) = 10

-- the last answer of the download stage as a number; 0 if there is none
abbrev pub outcome_code : Option StageAnswer → ℕ
outcome_code None = 0
outcome_code (Some Staged) = 1
outcome_code (Some Repeated) = 2
outcome_code (Some Verified) = 3
outcome_code (Some Accepted) = 4
outcome_code (Some WrongToken) = 5
outcome_code (Some (WrongPart due)) = 6
outcome_code (Some NotVerified) = 7
outcome_code (Some (Refused broken)) = 8

-- the expected part, or the number of the rule that is broken; 0 after any other answer
abbrev pub outcome_detail : Option StageAnswer → ℕ
outcome_detail (Some (WrongPart due)) = due
outcome_detail (Some (Refused broken)) = broken.rule
outcome_detail _ = 0

-- the row in which the rule is broken; 0 after any other answer
abbrev pub outcome_row : Option StageAnswer → ℕ
outcome_row (Some (Refused broken)) = broken.row
outcome_row _ = 0

-- the readable values of a download: 1 the state, 7 the last answer, 8 its part or rule, 9 its row, 10 the version
abbrev pub download_number : Seen → ℕ → Option ℕ
download_number s number =
    if number == 1 then Some s.state
    else if number == 7 then Some (outcome_code s.last)
    else if number == 8 then Some (outcome_detail s.last)
    else if number == 9 then Some (outcome_row s.last)
    else if number == 10 then Some s.shown.version
    else None

-- the number in an instance that isn't a cell; None if the instance can only be written
abbrev pub number_of : Seen → Name → Option ℕ
number_of s (CellName cell) = None
number_of s (Index table column row sub) = Some (if column == 2 then sub else row)
number_of s (Group column group) = Some (group_octet s.shown column group)
number_of s PatternStatus = Some (pattern_status s.shown.frame.mode)
number_of s PatternControl = Some s.shown.command
number_of s (Txn number) = download_number s number
number_of s Clock = Some s.shown.clock
number_of s Counter = Some s.shown.frame.counter
number_of s Target = Some s.shown.frame.target
number_of s ModeCode = Some (mode_code s.shown.frame.mode)
number_of s Request = None
number_of s Cancel = None
number_of s (RequestState number) = Some (get_or s.shown.requests (number - 1) 0)

-- the value of an instance; None if the instance can only be written
abbrev pub value_of : Seen → Name → Option Value
value_of s (CellName cell) = Some (content_value (value_at s.tables cell))
value_of s name = number_of s name >>= λ n. Some (Int (pos n))

-- the value of the instance with these arcs; None if no readable instance has them
abbrev pub value_named : Seen → List ℕ → Option Value
value_named s arcs = name_at arcs >>= λ name. value_of s name
