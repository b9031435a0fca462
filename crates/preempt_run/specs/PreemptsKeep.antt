-- The registers of preemption are what looking back over the inputs and the moments gives.
use Rattle.std.specs.Prelude.{ℕ, ◌≡◌, ◌<◌, ◌≤◌, ◌+◌, ◌==◌, false, List, length}
use Rattle.sig_types.specs.Phases.{is_in}
use Rattle.sig_types.specs.PhaseSet.{has}
use Rattle.sig_tables.specs.declared.tables.Tables.{Tables}
use Rattle.sig_tables.specs.Modes.{same_mode, stage_of}
use Rattle.sig_tables.specs.Past.{Heard, Moment, Past}
use Rattle.sig_tables.specs.Looking.{in_a_row, last_frame, last_moment}
use Rattle.sig_tables.specs.Preempts.{preempt_on}
use Rattle.sig_tables.specs.Seen.{frame_seen}
use Rattle.preempt_run.specs.declared.Preempts.{Preempts}
use Rattle.phase_clock.specs.MemberRuns.{MemberRunsStand}
use Rattle.preempt_stages.specs.Inputs.{preempts_seen}
use Rattle.preempt_stages.specs.Dwelling.{dwells_green, dwells_off, is_dwell, NamesPhases, EachFits}

-- the number of frames so far
abbrev pub step_count : Preempts → ℕ
step_count c = c.steps

-- the registers represent these inputs since the last frame and these moments. They hold the inputs that are on and for
-- how many ticks each has been on, the mode of the last frame and when it began, and when the stages of its preempt
-- began. For each phase they count the ticks of dwell for which it has been Green, and for which it has been off
pub record PreemptsKeep (c : Preempts) (heard : List Heard) (past : List Moment) : Type 0 where
  pub steps : length past ≡ c.steps + 1
  pub on : (t : Tables) (i : ℕ) → 0 < i → i ≤ 8 → has c.on i ≡ preempt_on (is_in (last_moment t past).preempts i) heard i
  pub inputs : (i : ℕ) → 0 < i → i ≤ 8 → MemberRunsStand c.inputs c.steps i (λ m. is_in m.preempts i) past
  pub mode : c.mode ≡ (last_frame past).mode
  pub mode_run : c.mode_since + in_a_row (λ m. same_mode m.frame.mode c.mode) past ≡ c.steps + 1
  pub stage_run : c.stage_since + in_a_row (λ m. stage_of m.frame.mode == stage_of c.mode) past ≡ c.steps + 1
  pub green : (p : ℕ) → 0 < p → p ≤ 16 → MemberRunsStand c.green c.steps p (dwells_green p) past
  pub off : (p : ℕ) → 0 < p → p ≤ 16 → MemberRunsStand c.off c.steps p (dwells_off p) past
  pub fits : EachFits past

-- the registers represent the past. They use only its inputs and its moments, so a download, a command, a set clock or
-- a priority request doesn't change them
abbrev pub PreemptsStand : Preempts → Past → Type 0
PreemptsStand c past = PreemptsKeep c past.heard past.moments

-- moment m continues the past without preemption: no preempt input is on at it, and its frame has the mode of the last
-- one, which isn't a dwell. The frame's entry for each ring is a phase, or 0
pub record StaysBeside (past : Past) (m : Moment) : Type 0 where
  pub saw : m.preempts ≡ preempts_seen past
  pub none : (i : ℕ) → 0 < i → i ≤ 8 → is_in (preempts_seen past) i ≡ false
  pub mode : m.frame.mode ≡ (frame_seen past).mode
  pub beside : is_dwell m.frame.mode ≡ false
  pub wide : length m.frame.veh ≡ 16
  pub names : NamesPhases m.frame
