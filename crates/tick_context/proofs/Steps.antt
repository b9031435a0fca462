-- What a tick coordinated in a pattern, or on the way to one, knows of the last frame.
use Rattle.std.proofs.Common.{◌≡◌, ℕ, true, false, subst}
use Rattle.sig_types.specs.declared.frame.Mode.{Mode}
use Rattle.sig_types.specs.declared.frame.Mode.TheVariants.{Seek, Coord}
use Rattle.sig_tables.specs.Slots.{is_defined}
use Rattle.sig_tables.specs.Past.{Past}
use Rattle.sig_tables.specs.Command.{command_now}
use Rattle.sig_tables.specs.Preempts.{preempts_on}
use Rattle.sig_tables.specs.Choosing.{is_in_step}
use Rattle.sig_tables.specs.Seen.{frame_seen, moment_seen, mode_seen}
use Rattle.tick_context.specs.Binds.{Names}
use Rattle.tick_context.proofs.Sought.{Chosen, sought-chosen, chosen-named}

pub mode-chosen : (past : Past) → Chosen past.tables past.version (frame_seen past) (mode_seen past)
mode-chosen past = sought-chosen past.tables past.version (command_now past) (preempts_on past.heard (moment_seen past)) past.moments

pub mode-named : (past : Past) → Names past.tables (mode_seen past)
mode-named past = chosen-named (mode_seen past) past.tables past.version (frame_seen past) (mode-chosen past)

chosen-at : (past : Past) (m : Mode) → mode_seen past ≡ m → Chosen past.tables past.version (frame_seen past) m
chosen-at past m e = subst (λ (x : Mode). Chosen past.tables past.version (frame_seen past) x) e (mode-chosen past)

pub coord-step : (past : Past) (n : ℕ) → mode_seen past ≡ Coord n → is_in_step (frame_seen past) past.version n ≡ true
coord-step past n e = (chosen-at past (Coord n) e).1

pub coord-defined : (past : Past) (n : ℕ) → mode_seen past ≡ Coord n → is_defined past.tables n ≡ true
coord-defined past n e = (chosen-at past (Coord n) e).0

pub seek-step : (past : Past) (n : ℕ) → mode_seen past ≡ Seek n → is_in_step (frame_seen past) past.version n ≡ false
seek-step past n e = (chosen-at past (Seek n) e).1

pub seek-defined : (past : Past) (n : ℕ) → mode_seen past ≡ Seek n → is_defined past.tables n ≡ true
seek-defined past n e = (chosen-at past (Seek n) e).0
