-- Another way to define the open command: it is the last command of all, unless it has been answered or given up
-- since. Lists of turns have the newest first.
use Rattle.std.specs.Prelude.{ℕ, ◌≡◌, nat_le, ◌&&◌, ◌||◌, not, Bool, false, if◌then◌else◌, List, [], ◌∷◌, Option, Some, None}
use Rattle.std.specs.List.{list_any}
use Rattle.scenario_data.specs.Content.{ScenarioContent, CabinetContent}
use Rattle.requests.specs.Requests.{answers}
use Rattle.master_plan.specs.Schedule.{or_else}
use Rattle.master_poll.specs.declared.command.Command.{Command}
use Rattle.master_poll.specs.Commands.{Turn, open_command, is_some}
use Rattle.master_poll.specs.Sends.{Arrived, turns}

-- the last command that was sent
abbrev pub last_command : List Turn → Option Command
last_command [] = None
last_command (t ∷ past) = or_else t.command (last_command past)

-- a Response with this id has arrived since the last command was sent
abbrev pub is_answered : List Turn → Command → Bool
is_answered [] c = false
is_answered (t ∷ past) c = not (is_some t.command) && (list_any (answers c.id) t.polls || is_answered past c)

-- nothing was sent in the last turn, and the last command has been sent `retries` times or more
abbrev pub is_given_up : ℕ → List Turn → Command → Bool
is_given_up retries [] c = false
is_given_up retries (t ∷ past) c = not (is_some t.command) && nat_le retries c.tries

-- the last command, if it was neither answered nor given up
abbrev pub still_open : ℕ → List Turn → Option Command → Option Command
still_open retries past None = None
still_open retries past (Some c) = if is_answered past c || is_given_up retries past c then None else Some c

-- the open command is the last command of all, if this was neither answered nor given up
abbrev pub OpenIsLast : ScenarioContent → ℕ → CabinetContent → List Arrived → Type 0
OpenIsLast s cab c arrived =
    open_command (turns s cab c arrived) ≡ still_open s.master.retries (turns s cab c arrived) (last_command (turns s cab c arrived))
