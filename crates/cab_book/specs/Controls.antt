-- The control computes the displays of a cabinet, in one of two ways; either way it represents a history.
use Rattle.std.specs.Prelude.{ℕ}
use Rattle.sig_tables.specs.Past.{Past, History}
use Rattle.sig_tables.specs.Decide.{past_at}
use Rattle.engine.specs.EngineStands.{EngineKeeps}
use Rattle.controller.specs.Registers.{RegistersStand}
use Rattle.controller.specs.ControllerStands.{tick_count as ticks_kept, install_count as installs_kept}
use Rattle.observer.specs.LookingBack.{SeesBack}
use Rattle.observer.specs.ObserverStands.{tick_count as ticks_looked, install_count as installs_looked}
use Rattle.cab_book.specs.declared.control.Control.{Control}
use Rattle.cab_book.specs.declared.control.Control.TheVariants.{Registers, LookingBack}
use Rattle.cab_book.specs.declared.control.Engine.{Engine}
use Rattle.cab_book.specs.declared.control.Engine.TheVariants.{Controller, Observer}

-- the control has the state that the past gives
abbrev pub ControlKeeps : Control → Past → Type 0
ControlKeeps (Registers c) past = EngineKeeps RegistersStand c past
ControlKeeps (LookingBack o) past = EngineKeeps SeesBack o past

-- the control represents a history
abbrev pub ControlStands : Control → History → Type 0
ControlStands c h = ControlKeeps c (past_at h)

-- the engine of the control
abbrev pub engine_of : Control → Engine
engine_of (Registers c) = Controller
engine_of (LookingBack o) = Observer

-- the number of ticks so far
abbrev pub tick_count : Control → ℕ
tick_count (Registers c) = ticks_kept c
tick_count (LookingBack o) = ticks_looked o

-- the number of tables put in force since the start
abbrev pub install_count : Control → ℕ
install_count (Registers c) = installs_kept c
install_count (LookingBack o) = installs_looked o
