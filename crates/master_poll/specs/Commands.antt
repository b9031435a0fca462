-- The commands that the master sends to a cabinet on the poll stream, by its turns so far. Lists of turns have the
-- newest first.
use Rattle.std.specs.Prelude.{ℕ, ◌+◌, ◌==◌, ◌<◌, nat_le, not, Bool, true, false, if◌then◌else◌, List, [], ◌∷◌, Option, Some, None}
use Rattle.std.specs.List.{find}
use Rattle.snmp_msg.specs.declared.message.Message.{Message}
use Rattle.master_plan.specs.Schedule.{or_else}
use Rattle.requests.specs.Requests.{answers, is_good}
use Rattle.master_load.specs.declared.download.LoadFrame.{LoadFrame}
use Rattle.master_poll.specs.declared.command.Task.{Task}
use Rattle.master_poll.specs.declared.command.Task.TheVariants.{Pattern, Clock, Poll}
use Rattle.master_poll.specs.declared.command.Command.{Command}

-- the command can be sent: the time of a clock command is a tick of the day
abbrev pub IsTask : Task → Type 0
IsTask (Pattern n) = Unit {0}
IsTask (Clock time) = time < 864000
IsTask Poll = Unit {0}

-- which kinds of command become pending in a turn
pub record Due : Type 0 where
  pub pattern : Bool
  pub clock : Bool
  pub poll : Bool

-- the master's turn at a cabinet in a round: the messages that have arrived on the poll stream and on the load
-- stream, the kinds of command that become pending, and what is then sent on each of the two streams
pub record Turn : Type 0 where
  pub polls : List Message
  pub loads : List Message
  pub due : Due
  pub command : Option Command
  pub frame : Option LoadFrame

-- the open command: the command of the last turn. An open command is sent again in each turn, until it is answered or
-- given up
abbrev pub open_command : List Turn → Option Command
open_command [] = None
open_command (t ∷ past) = t.command

-- the Response that ends a command: the first of these messages with its id
abbrev pub ending_of : Option Command → List Message → Option Message
ending_of None polls = None
ending_of (Some c) polls = find (answers c.id) polls

-- the Response that ends the open command
abbrev pub ending : List Turn → List Message → Option Message
ending past polls = ending_of (open_command past) polls

-- the command, if nothing ended it
abbrev pub unless_ended : Option Message → Option Command → Option Command
unless_ended None command = command
unless_ended (Some m) command = None

-- the open command, if these messages don't end it
abbrev pub unanswered : List Turn → List Message → Option Command
unanswered past polls = unless_ended (ending past polls) (open_command past)

-- the command was sent `retries` times or more
abbrev pub is_tried : ℕ → Option Command → Bool
is_tried retries None = false
is_tried retries (Some c) = nat_le retries c.tries

-- the master gives up the open command at a turn at which these messages have arrived
abbrev pub gives_up : ℕ → List Turn → List Message → Bool
gives_up retries past polls = is_tried retries (unanswered past polls)

-- the command, unless it was sent `retries` times or more
abbrev pub unless_tried : ℕ → Option Command → Option Command
unless_tried retries command = if is_tried retries command then None else command

-- the command that is sent again at that turn, if any
abbrev pub to_repeat : ℕ → List Turn → List Message → Option Command
to_repeat retries past polls = unless_tried retries (unanswered past polls)

-- the pattern in a command, if it sets one
abbrev pub pattern_in : Task → Option ℕ
pattern_in (Pattern n) = Some n
pattern_in (Clock time) = None
pattern_in Poll = None

-- the pattern in a command, if the test holds and the command sets one
abbrev pub pattern_where : Bool → Command → Option ℕ
pattern_where false c = None
pattern_where true c = pattern_in c.task

-- the pattern in a command that ended, if its Response passes the test
abbrev pub ended_pattern : (Message → Bool) → Option Command → Option Message → Option ℕ
ended_pattern test (Some c) (Some m) = pattern_where (test m) c
ended_pattern test None m = None
ended_pattern test c None = None

-- the pattern that these messages acknowledge
abbrev pub acknowledged_by : List Turn → List Message → Option ℕ
acknowledged_by past polls = ended_pattern is_good (open_command past) (ending past polls)

-- the pattern that these messages refuse
abbrev pub refused_by : List Turn → List Message → Option ℕ
refused_by past polls = ended_pattern (λ m. not (is_good m)) (open_command past) (ending past polls)

-- there is a pattern, and it is `n`
abbrev pub is_same : Option ℕ → ℕ → Bool
is_same None n = false
is_same (Some m) n = m == n

-- the pattern, unless it is the same as the one before
abbrev pub unless_same : Option ℕ → Option ℕ → Option ℕ
unless_same before None = None
unless_same before (Some n) = if is_same before n then None else Some n

-- the pattern that was acknowledged last
abbrev pub acknowledged : List Turn → Option ℕ
acknowledged [] = None
acknowledged (t ∷ past) = or_else (acknowledged_by past t.polls) (acknowledged past)

-- the pattern that was refused last
abbrev pub refused : List Turn → Option ℕ
refused [] = None
refused (t ∷ past) = or_else (refused_by past t.polls) (refused past)

-- there is a value
abbrev pub is_some : {A : Type 0} → Option A → Bool
is_some None = false
is_some (Some x) = true

-- whether the cabinet has failed, after a turn: it hasn't if a command is answered, it has if a command is given up,
-- and otherwise nothing changes
abbrev pub failed_by : Bool → Option Message → Bool → Bool
failed_by gave_up (Some m) before = false
failed_by gave_up None before = if gave_up then true else before

-- the cabinet has failed: its last command that ended was given up
abbrev pub failed : ℕ → List Turn → Bool
failed retries [] = false
failed retries (t ∷ past) = failed_by (gives_up retries past t.polls) (ending past t.polls) (failed retries past)

-- 1 if there is a value, otherwise 0
abbrev pub count_of : {A : Type 0} → Option A → ℕ
count_of None = 0
count_of (Some x) = 1

-- the number of messages sent to the cabinet so far, on both streams
abbrev pub frames_sent : List Turn → ℕ
frames_sent [] = 0
frames_sent (t ∷ past) = frames_sent past + count_of t.command + count_of t.frame
