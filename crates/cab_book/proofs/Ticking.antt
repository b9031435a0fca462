-- A tick of a cabinet.
use Rattle.std.proofs.Common.{◌≡◌, ℕ, ◌+◌, ◌∙◌, Bool, if◌then◌else◌, [], ◌∷◌, length, ap, arith}
use Rattle.sig_types.specs.declared.frame.Frame.{Frame}
use Rattle.sig_tables.specs.Past.{History}
use Rattle.sig_tables.specs.Decide.{decide, ticked, past_at, frames, last_frame_of}
use Rattle.cab_book.specs.declared.control.Control.{Control}
use Rattle.cab_book.specs.Controls.{ControlStands, tick_count}
use Rattle.sig_types.specs.Items.{Ticked}
use Rattle.cabinet_history.specs.CabinetHistory.{CabinetHistory, with_item}
use Rattle.cabinet_history.specs.Coming.{Coming, coming, history_of}
use Rattle.cabinet_history.specs.Frames.{has_line, tick_written}
use Rattle.cab_book.specs.declared.cabinet.Cabinet.{Cabinet}
use Rattle.cab_book.specs.CabinetStands.{CabinetKeeps, CabinetStands}
use Rattle.cab_book.proofs.Showable.{ticked-shows}

-- the cabinet with what its controller has become
abbrev pub with_tick : Cabinet → Control → Cabinet
with_tick c k = record { control = k; stage = c.stage; community = c.community; ticks = c.ticks + 1; ask = c.ask }

pub tick-keeps : (c : Cabinet) (k : Control) (has : Coming) → CabinetKeeps c has → ControlStands k (ticked has.history) → tick_count k ≡ tick_count c.control + 1
    → CabinetKeeps (with_tick c k) (record { history = ticked has.history; calls = has.calls })
tick-keeps c k has is stands counted = record {
  control = stands;
  stage = is.stage;
  counted = omega (arith, counted, is.counted);
  sound = record {
    ticks = omega (arith, is.sound.ticks);
    shows = ticked-shows k (past_at has.history) stands is.sound.fits;
    fits = is.sound.fits;
    begins = is.sound.begins;
    few = is.sound.few;
    ids = is.sound.ids;
  };
}

pub tick-stands : (c : Cabinet) (k : Control) (cabinet_history : CabinetHistory) → CabinetStands c cabinet_history → ControlStands k (ticked (history_of cabinet_history))
    → tick_count k ≡ tick_count c.control + 1 → CabinetStands (with_tick c k) (with_item cabinet_history Ticked)
tick-stands c k cabinet_history is stands counted = record { community = is.community; blank = is.blank; keeps = tick-keeps c k (coming cabinet_history) is.keeps stands counted }

-- the frame is written where it has a line
pub line-written : (c : Cabinet) (last next : Frame) (told : Bool) (h : History) → last ≡ last_frame_of h → next ≡ decide h → told ≡ has_line last next
    → c.ticks + 1 ≡ length (frames h) → (if told then (c.ticks + 1, next) ∷ [] else []) ≡ tick_written h
line-written c last next told h old new e many =
    let line : told ≡ has_line (last_frame_of h) (decide h) = e ∙ ap (λ (f : Frame). has_line f next) old ∙ ap (λ (f : Frame). has_line (last_frame_of h) f) new in
    ap (λ (b : Bool). if b then (c.ticks + 1, next) ∷ [] else []) line
    ∙ ap (λ (n : ℕ). if has_line (last_frame_of h) (decide h) then (n, next) ∷ [] else []) many
    ∙ ap (λ (f : Frame). if has_line (last_frame_of h) (decide h) then (length (frames h), f) ∷ [] else []) new
