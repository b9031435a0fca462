-- A controller represents a history if its engine does, with registers as its memory.
use Rattle.std.specs.Prelude.{ℕ}
use Rattle.sig_tables.specs.Past.{History}
use Rattle.engine.specs.declared.Engine.{Engine}
use Rattle.engine.specs.EngineStands.{EngineStands, tick_count as ticks_of, install_count as installs_of}
use Rattle.controller.specs.declared.Registers.{Registers}
use Rattle.controller.specs.Registers.{RegistersStand, frames}

abbrev pub ControllerStands : Engine Registers → History → Type 0
ControllerStands c h = EngineStands RegistersStand c h

-- the number of ticks so far, and of downloads put in force since the opening
abbrev pub tick_count : Engine Registers → ℕ
tick_count c = ticks_of frames c

abbrev pub install_count : Engine Registers → ℕ
install_count c = installs_of c
