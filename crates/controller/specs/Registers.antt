-- The registers are what looking back over past frames gives.
use Rattle.std.specs.Prelude.{ℕ, ◌-◌, ◌≡◌, ◌≤◌, max, get_or, true}
use Rattle.sig_tables.specs.Past.{Past}
use Rattle.sig_tables.specs.Looking.{last_on, latest_on, start_run}
use Rattle.ped_clock.specs.SignalsStand.{SignalsStand, step_count as signal_steps}
use Rattle.phase_clock.specs.ClocksStand.{ClocksStand, step_count}
use Rattle.phase_clock.specs.Passed.{IsSteady}
use Rattle.preempt_run.specs.PreemptsKeep.{PreemptsStand, step_count as preempt_steps}
use Rattle.preempt_run.specs.Passed.{IsClear}
use Rattle.tick_context.specs.Context.{CountStandsFor}
use Rattle.tick_context.specs.declared.seeing.TickInputs.{TickInputs}
use Rattle.tick_context.specs.declared.context.TickContext.{TickContext}
use Rattle.tick_context.specs.Modes.{is_coord}
use Rattle.coord_count.specs.CountStands.{counter_of}
use Rattle.controller.specs.declared.Registers.{Registers}

-- the number of frames so far, which all clocks have counted
abbrev pub frames : Registers → ℕ
frames c = max (max (step_count c.clocks) (signal_steps c.signals)) (preempt_steps c.preempts)

-- the registers represent the past
pub record RegistersStand (c : Registers) (past : Past) : Type 0 where
  pub clocks : ClocksStand c.clocks past.moments
  pub signals : SignalsStand c.signals past.moments
  pub preempts : PreemptsStand c.preempts past
  pub last : (r : ℕ) → 1 ≤ r → r ≤ 2 → get_or c.last (r - 1) 0 ≡ last_on r past.moments
  pub latest : c.latest ≡ latest_on past.moments
  pub start : c.start_run ≡ start_run past.moments
  pub counts : CountStandsFor c.count past

-- no register except the count changes at ticks that see this
pub record IsReady (c : Registers) (x : TickContext) (s : TickInputs) : Type 0 where
  pub counter : is_coord x.frame.mode ≡ true → x.frame.counter ≡ counter_of c.count
  pub steady : IsSteady c.clocks s.active s.opposed
  pub clear : IsClear c.preempts
