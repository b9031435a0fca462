-- Ticks of a cabinet one after another.
use Rattle.std.specs.Prelude.{ℕ, zero, suc, List, [], ◌++◌}
use Rattle.sig_types.specs.declared.frame.Frame.{Frame}
use Rattle.sig_types.specs.Items.{Ticked}
use Rattle.cabinet_history.specs.CabinetHistory.{CabinetHistory, with_item}
use Rattle.cabinet_history.specs.Coming.{history_of}
use Rattle.cabinet_history.specs.Frames.{tick_written}

-- the cabinet history after N ticks more
abbrev pub ticks_on : ℕ → CabinetHistory → CabinetHistory
ticks_on zero cabinet_history = cabinet_history
ticks_on (suc k) cabinet_history = with_item (ticks_on k cabinet_history) Ticked

-- the frames with a line that these ticks give, in order
abbrev pub ticks_written : ℕ → CabinetHistory → List (ℕ × Frame)
ticks_written zero cabinet_history = []
ticks_written (suc k) cabinet_history = ticks_written k cabinet_history ++ tick_written (history_of (ticks_on k cabinet_history))
