-- Runs of ticks at which the command and the clock continue evenly, tick by tick.
use Rattle.std.proofs.Common.{◌≡◌, ◌<◌, ◌+◌, min, ℕ, suc, true, inl, inr, refl, arith}
use Rattle.sig_types.specs.declared.frame.Frame.{Frame}
use Rattle.sig_tables.specs.declared.tables.Tables.{Tables}
use Rattle.tick_context.specs.declared.unit_commands.UnitCommands.{UnitCommands}
use Rattle.tick_context.specs.UnitCommands.{most}
use Rattle.tick_context.specs.Even.{IsEven, UnitCommandsPassed}
use Rattle.tick_context.specs.Passed.{timed}

-- the unit commands on the way
abbrev pub unit_commands-next : (o : UnitCommands) → o.clock + 1 < 864000 → UnitCommands
unit_commands-next o h = record {
  command = o.command;
  since = min (o.since + 1) most;
  clock = o.clock + 1;
  ticks = o.ticks + 1;
  gain = o.gain;
  lose = o.lose;
  of_day = h;
}

pub next-passed : (o : UnitCommands) (h : o.clock + 1 < 864000) → UnitCommandsPassed 1 o (unit_commands-next o h)
next-passed o h = record { command = refl; since = refl; clock = refl; ticks = refl; gain = refl; lose = refl }

-- of an even run the first tick is even, and what comes after it
pub first-even : (j : ℕ) (o : UnitCommands) (t : Tables) → IsEven o t (suc j) → IsEven o t 1
first-even j o t even = record {
  clock = omega (arith, even.clock);
  gain = even.gain;
  lose = even.lose;
  few = even.few;
  command = elim even.command [
    | inl none ↦ inl none
    | inr (inl never) ↦ inr (inl never)
    | inr (inr short) ↦ inr (inr (omega (arith, short)))
  ];
}

pub rest-even : (j : ℕ) (o : UnitCommands) (t : Tables) (h : o.clock + 1 < 864000) → IsEven o t (suc j) → IsEven (unit_commands-next o h) t j
rest-even j o t h even = record {
  clock = omega (arith, even.clock);
  gain = even.gain;
  lose = even.lose;
  few = even.few;
  command = elim even.command [
    | inl none ↦ inl none
    | inr (inl never) ↦ inr (inl never)
    | inr (inr short) ↦ inr (inr (omega (arith, short)))
  ];
}

pub rest-by : (j : ℕ) (o new : UnitCommands) (h : o.clock + 1 < 864000) → UnitCommandsPassed (suc j) o new → UnitCommandsPassed j (unit_commands-next o h) new
rest-by j o new h by = record {
  command = by.command;
  since = omega (arith, by.since);
  clock = omega (arith, by.clock);
  ticks = omega (arith, by.ticks);
  gain = by.gain;
  lose = by.lose;
}

-- a frame that has this counter and this target stays as it is
pub timed-none : (f : Frame) (counter target : ℕ) → counter ≡ f.counter → target ≡ f.target → timed true counter target f ≡ f
timed-none f counter target c t = rw (c, t) refl
