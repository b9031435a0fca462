-- What happens to the offset if a plan breaks the rule on the window (FHWA Signal Timing Manual: offset, transition).
use Rattle.std.specs.Prelude.{ℕ, Bool, List, [], ◌∷◌, replicate}
use Rattle.sig_types.specs.declared.frame.Mode.{Mode}
use Rattle.sig_tables.specs.declared.tables.Tables.{Tables}
use Rattle.sig_tables.specs.Standard.{std8, first_pattern, no_pattern}
use Rattle.sig_tables.specs.Past.{Moment, History}
use Rattle.sig_tables.specs.Looking.{last_frame}
use Rattle.sig_tables.specs.Decide.{past_at}
use Rattle.sig_tables.specs.Counting.{needed}
use Rattle.sig_tables.specs.Counters.{correction_of}
use Rattle.rule_facts.specs.Needed.{seconds, with_splits}
use Rattle.plan_facts.specs.Disturbances.{no_drift, quiet_for}
use Rattle.plan_facts.specs.Bounds.{offset_bound}
use Rattle.plan_facts.specs.Meets.{zero_target, offset_in_time}
use Rattle.plan_facts.specs.Rows.{ticks}

-- the cycle is 51 seconds. The coordinated phases have 6 seconds, of which 5.5 are clearance, so the window is 5 ticks.
-- One cycle may wait for 50 ticks (rule 19)
unfoldable pub short_window : Tables
short_window = record std8 {
  patterns = record first_pattern { cycle = 51 } ∷ replicate 47 no_pattern;
  splits = with_splits (seconds 10 6 10 25) (seconds 10 6 10 25);
  unit = record std8.unit { mode = 4 };
}

-- a cabinet with these tables that commands the standard pattern and is picked up five seconds ahead of the offset,
-- after n ticks
abbrev pub five_ahead : Tables → ℕ → History
five_ahead t n = record { tables = t; command = 1; clock = 400; events = ticks n [] }

-- the coordination at the last moment of a history: the ticks since the last disturbance, the mode, the cycles that the
-- correction needs and the bound in ticks for being on offset, the counter and its target, and whether this bound is
-- kept
pub record Correcting : Type 0 where
  pub quiet : ℕ
  pub mode : Mode
  pub cycles : ℕ
  pub bound : ℕ
  pub counter : ℕ
  pub target : ℕ
  pub in_time : Bool

-- the coordination at the last of these moments, with these tables
abbrev pub correcting : Tables → List Moment → Correcting
correcting t past = record {
  quiet = quiet_for no_drift past;
  mode = (last_frame past).mode;
  cycles = needed (correction_of t 1) (zero_target no_drift past);
  bound = offset_bound no_drift past t 1 (zero_target no_drift past);
  counter = (last_frame past).counter;
  target = (last_frame past).target;
  in_time = offset_in_time no_drift past;
}

-- the coordination at the end of a history of the standard pattern
abbrev pub at_end : History → Correcting
at_end h = correcting h.tables (past_at h).moments
