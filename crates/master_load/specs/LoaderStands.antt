-- What a loader represents: the events so far.
use Rattle.std.specs.Prelude.{ℕ, ◌≡◌, if◌then◌else◌, List, drop, Option, Some, None}
use Rattle.std.specs.Option.{ForSome}
use Rattle.std.specs.List.{slice_get}
use Rattle.snmp_msg.specs.declared.message.Message.{Message}
use Rattle.scenario_data.specs.Content.{LoadContent}
use Rattle.requests.specs.Requests.{is_good}
use Rattle.master_load.specs.declared.loader.Loader.{Loader}
use Rattle.master_load.specs.declared.loader.Outcome.{Outcome}
use Rattle.master_load.specs.declared.loader.Outcome.TheVariants.{Open, Good, Refused}
use Rattle.master_load.specs.Downloads.{loads_of, load_at}
use Rattle.master_load.specs.Loading.{LoadEvent, last_frame, answer, begun_by}

-- the state of the last message, by its answer
abbrev pub outcome_of : Option Message → Outcome
outcome_of None = Open
outcome_of (Some m) = if is_good m then Good else Refused

-- the loader agrees with the events so far. `at` is the place, among all loads of the scenario, of the load that
-- began last; the cabinet's loads that haven't begun are from `next` on
pub record LoaderStands (l : Loader) (cab : ℕ) (loads : List LoadContent) (past : List LoadEvent) : Type 0 where
  pub sent : l.sent ≡ last_frame past
  pub outcome : l.outcome ≡ outcome_of (answer past)
  pub at : ForSome l.sent (λ frame. load_at (loads_of cab loads) frame.load ≡ slice_get loads l.at)
  pub rest : loads_of cab (drop l.next loads) ≡ drop (begun_by l.sent) (loads_of cab loads)
