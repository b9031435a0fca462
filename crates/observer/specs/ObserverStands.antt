-- An observer represents a history if its engine does, with a memory that looks back.
use Rattle.std.specs.Prelude.{ℕ}
use Rattle.sig_tables.specs.Past.{History}
use Rattle.engine.specs.declared.Engine.{Engine}
use Rattle.engine.specs.EngineStands.{EngineStands, tick_count as ticks_of, install_count as installs_of}
use Rattle.observer.specs.declared.LookingBack.{LookingBack}
use Rattle.observer.specs.LookingBack.{SeesBack, frames}

abbrev pub ObserverStands : Engine LookingBack → History → Type 0
ObserverStands o h = EngineStands SeesBack o h

-- the number of ticks so far, and of downloads put in force since the opening
abbrev pub tick_count : Engine LookingBack → ℕ
tick_count o = ticks_of frames o

abbrev pub install_count : Engine LookingBack → ℕ
install_count o = installs_of o
