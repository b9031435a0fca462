-- A vehicle on the street of a trace: when it passes a cabinet that is on offset, and when it meets green there (FHWA
-- Signal Timing Manual: bandwidth, offset).
use Rattle.std.specs.Prelude.{ℕ, Bool, true, ◌+◌, ◌%◌, ◌≡◌, ◌<◌, List, [], ◌∷◌, ◌++◌, length, None}
use Rattle.sig_types.specs.declared.frame.Colour.TheVariants.{Green}
use Rattle.sig_types.specs.declared.frame.Mode.TheVariants.{Coord}
use Rattle.sig_tables.specs.Slots.{coordinated_phase, cycle_time}
use Rattle.sig_tables.specs.Past.{Moment}
use Rattle.sig_tables.specs.Decide.{past_at}
use Rattle.trace_text.specs.declared.lines.Line.{Line}
use Rattle.safety_laws.specs.Safe.{Intersection, intersection_of, colour_at, mode_at}
use Rattle.safety_laws.specs.Written.{tables_of}
use Rattle.scenario_data.specs.Content.{ScenarioContent}
use Rattle.cabinet_history.specs.Coming.{history_of}
use Rattle.run_definition.specs.CabinetState.{CabinetState, HasComeTo, opened_cabinet_states, cabinet_states_after}
use Rattle.trace_laws.specs.Laws.{TellsOfRun}
use Rattle.band_report.specs.Street.{Passage, ring_driven, passages, misfit_of}
use Rattle.band_report.specs.Bands.{is_open, IsBand}

-- the moment belongs to this tick: `tick` moments are before it; the first of them is the moment before any tick
pub record IsAtTick (m : Moment) (tick : ℕ) (moments : List Moment) : Type 0 where
  pub later : List Moment
  pub earlier : List Moment
  pub all : moments ≡ later ++ (m ∷ earlier)
  pub before : length earlier ≡ tick

-- what the lines show of the cabinet that is passed, with the tables of each version of its history
abbrev pub seen_at : Passage → CabinetState → List Line → Intersection
seen_at c end lines = intersection_of c.number (tables_of (history_of end.cabinet_history)) lines

-- the cabinet is on offset at this tick, as a vehicle with this time passes. The lines show pattern `n` in
-- coordinated mode, with the tables of the start. The counter equals its target. The clock is the time at which the
-- vehicle passes, modulo the cycle
pub record IsInStep (s : ScenarioContent) (journals : List (List (List ℕ))) (lines : List Line) (n time : ℕ) (c : Passage) (end : CabinetState) (tick : ℕ) : Type 0 where
  pub come : HasComeTo c.number end 1 (cabinet_states_after s (opened_cabinet_states s s.cabinets) journals)
  pub mode : mode_at (seen_at c end lines) tick ≡ Coord n
  pub opening : ((seen_at c end lines).shown tick).version ≡ 0
  pub moment : Moment
  pub given : IsAtTick moment tick (past_at (history_of end.cabinet_history)).moments
  pub met : moment.frame.counter ≡ moment.frame.target
  pub clock : moment.clock % cycle_time c.tables n ≡ (time + c.after) % cycle_time c.tables n

-- whenever the cabinet is on offset as the vehicle passes, the lines show the coordinated phase of ring `r` green
abbrev pub MeetsGreen : ScenarioContent → List (List (List ℕ)) → List Line → ℕ → ℕ → ℕ → Passage → Type 0
MeetsGreen s journals lines n r time c = (end : CabinetState) (tick : ℕ) → IsInStep s journals lines n time c end tick
    → colour_at (seen_at c end lines) (coordinated_phase c.tables n r) tick ≡ Green

-- each passage meets the condition
abbrev pub EachPassage : (Passage → Type 0) → List Passage → Type 0
EachPassage asks [] = Unit {0}
EachPassage asks (c ∷ street) = asks c × EachPassage asks street

-- a vehicle with this time meets green along the whole street of a section, at each cabinet that is on offset as it
-- passes
abbrev pub GreenAlong : (text : List ℕ) → TellsOfRun text → ℕ → ℕ → List ℕ → Bool → ℕ → Type 0
GreenAlong text run section n travel inbound time =
    EachPassage (MeetsGreen run.scenario run.journals run.kept.lines n (ring_driven inbound) time) (passages run.scenario.cabinets section travel inbound)

-- a vehicle with an open time meets green along the whole street of a section, at each cabinet that is on offset as
-- it passes
abbrev pub OpenIsGreen : (text : List ℕ) → TellsOfRun text → Type 0
OpenIsGreen text run = (section n : ℕ) (travel : List ℕ) (inbound : Bool) (time : ℕ) → misfit_of run.scenario.cabinets section n (length travel) ≡ None
    → is_open n (ring_driven inbound) (passages run.scenario.cabinets section travel inbound) time ≡ true
    → GreenAlong text run section n travel inbound time

-- a vehicle inside a progression band meets green along the whole street of a section, at each cabinet that is on
-- offset as it passes
abbrev pub BandIsGreen : (text : List ℕ) → TellsOfRun text → Type 0
BandIsGreen text run = (section n : ℕ) (travel : List ℕ) (inbound : Bool) (cycle start width tick : ℕ)
    → misfit_of run.scenario.cabinets section n (length travel) ≡ None
    → IsBand n (ring_driven inbound) (passages run.scenario.cabinets section travel inbound) cycle start width → tick < width
    → GreenAlong text run section n travel inbound (start + tick)
