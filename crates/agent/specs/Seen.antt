-- What a reply can show.
use Rattle.std.specs.Prelude.{ℕ, ◌≤◌, Option}
use Rattle.sig_types.specs.declared.notes.StageAnswer.{StageAnswer}
use Rattle.sig_tables.specs.declared.tables.Tables.{Tables}
use Rattle.sig_tables.specs.declared.shown.Shown.{Shown}
use Rattle.agent.specs.declared.cabinet.Cabinet.{Cabinet}

-- the tables in force, what the cabinet shows, and the state and the last answer of its download stage
pub record Seen : Type 0 where
  pub tables : Tables
  pub shown : Shown
  pub state : ℕ
  pub last : Option StageAnswer

-- the same, of a cabinet as the code stores it
abbrev pub seen : Cabinet → Seen
seen cabinet = record { tables = cabinet.tables.now; shown = cabinet.shown.now; state = cabinet.state; last = cabinet.last }

-- each number fits into an INTEGER of a reply: it is at most 2,147,483,647
pub record IsWithin (shown : Shown) : Type 0 where
  pub clock : shown.clock ≤ 2147483647
  pub version : shown.version ≤ 2147483647
  pub counter : shown.frame.counter ≤ 2147483647
  pub target : shown.frame.target ≤ 2147483647
