-- What a cabinet of a book represents: a cabinet history.
use Rattle.std.specs.Prelude.{ℕ, pos, ◌+◌, ◌≡◌, ◌≤◌, ◌<◌, List, [], ◌∷◌, length, Option}
use Rattle.sig_tables.specs.Past.{Past, History, Event, SetDrift}
use Rattle.sig_tables.specs.Seen.{frame_seen}
use Rattle.sig_tables.specs.Showing.{clock_shown}
use Rattle.sig_tables.specs.Decide.{frames}
use Rattle.cab_book.specs.Controls.{ControlStands, engine_of, tick_count}
use Rattle.cab_book.specs.declared.control.Control.{Control}
use Rattle.cab_book.specs.declared.control.Engine.{Engine}
use Rattle.stage_txn.specs.declared.Stage.{Stage}
use Rattle.sig_types.specs.declared.notes.StageAnswer.{StageAnswer}
use Rattle.snmp_msg.specs.declared.message.Pdu.TheVariants.{Get}
use Rattle.agent.specs.declared.ask.Ask.{Ask}
use Rattle.agent.specs.declared.ask.Wish.{Wish}
use Rattle.agent.specs.declared.ask.Wish.TheVariants.{Get as GetWish}
use Rattle.stage_txn.specs.Answers.{answered, kept, stage_state}
use Rattle.sig_tables.specs.Putting.{EachFits}
use Rattle.stage_txn.specs.Laws.{BeginInRange}
use Rattle.stage_txn.specs.StageKeeps.{StageStands}
use Rattle.cabinet_history.specs.Installs.{FewInstalls}
use Rattle.cabinet_history.specs.CabinetHistory.{CabinetHistory}
use Rattle.cabinet_history.specs.Coming.{Coming, past_of, in_force, coming, call_of, outcome, with_call}
use Rattle.cab_book.specs.declared.cabinet.Cabinet.{Cabinet}

-- the engine that gives the frames of a cabinet
abbrev pub cabinet_engine : Cabinet → Engine
cabinet_engine c = engine_of c.control

-- the numbers that a reply can show fit into an INTEGER
pub record IsShowable (past : Past) : Type 0 where
  pub clock : clock_shown past < 864000
  pub counter : (frame_seen past).counter ≤ 2147483647
  pub target : (frame_seen past).target ≤ 2147483647

-- the state after `n` ticks is sound, so that the cabinet history can be continued
pub record IsSound (n : ℕ) (has : Coming) : Type 0 where
  pub ticks : n + 1 ≡ length (frames has.history)
  pub shows : IsShowable (past_of has)
  pub fits : EachFits (in_force has)
  pub begins : BeginInRange has.calls
  pub few : FewInstalls (past_of has).version (kept (answered has.calls)) (stage_state (answered has.calls))
  pub ids : kept (answered has.calls) ≤ 2147483647

-- a Get without bindings: the default in the storage for requests
abbrev pub blank_ask : Ask
blank_ask = record {
  message = record { community = record { items = [] }; pdu = Get; id = pos 0; status = pos 0; index = pos 0; binds = record { items = [] } };
  wish = GetWish;
}

-- a control and a stage represent the result of a cabinet history
pub record CabinetKeeps (c : Cabinet) (has : Coming) : Type 0 where
  pub control : ControlStands c.control has.history
  pub stage : StageStands c.stage has.calls
  pub counted : tick_count c.control ≡ c.ticks
  pub sound : IsSound c.ticks has

-- the cabinet represents this cabinet history
pub record CabinetStands (c : Cabinet) (cabinet_history : CabinetHistory) : Type 0 where
  pub community : c.community.items ≡ cabinet_history.community
  pub blank : c.ask ≡ blank_ask
  pub keeps : CabinetKeeps c (coming cabinet_history)

-- the stage has answered a request, and the control has not carried it out yet
pub record IsAnswered (control : Control) (stage : Stage) (has : Coming) (wish : Wish) (answer : Option StageAnswer) : Type 0 where
  pub controller_stands : ControlStands control has.history
  pub stage_stands : StageStands stage (with_call has.calls (call_of has wish))
  pub answer_is : answer ≡ outcome has wish
  pub few : FewInstalls (past_of has).version (kept (answered has.calls)) (stage_state (answered has.calls))
  pub ids : kept (answered has.calls) ≤ 2147483647

-- these events only set the drift of the clock
abbrev pub OnlyDrifts : List Event → Type 0
OnlyDrifts [] = Unit {0}
OnlyDrifts (SetDrift gain lose ∷ events) = OnlyDrifts events
OnlyDrifts _ = ⊥

-- the history of a controller at the start: its clock is a tick of the day, each cell of its tables has an allowed
-- value, and nothing has happened
pub record IsNew (h : History) : Type 0 where
  pub events : OnlyDrifts h.events
  pub of_day : h.clock < 864000
  pub fits : EachFits h.tables
