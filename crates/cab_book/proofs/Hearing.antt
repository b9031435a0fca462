-- An input that a cabinet hears.
use Rattle.std.proofs.Common.{◌≡◌, ℕ, arith}
use Rattle.sig_types.specs.declared.frame.Field.{Field}
use Rattle.sig_tables.specs.Past.{Input}
use Rattle.sig_tables.specs.Decide.{with_one}
use Rattle.cab_book.specs.declared.control.Control.{Control}
use Rattle.cab_book.specs.Controls.{ControlStands, tick_count}
use Rattle.sig_types.specs.Items.{InputTold}
use Rattle.cabinet_history.specs.CabinetHistory.{CabinetHistory, with_item}
use Rattle.cabinet_history.specs.Coming.{Coming, coming, history_of}
use Rattle.cab_book.specs.declared.cabinet.Cabinet.{Cabinet}
use Rattle.cab_book.specs.CabinetStands.{IsSound, CabinetStands}

heard-sound : (n : ℕ) (has : Coming) (field : Field) → IsSound n has → IsSound n (record { history = with_one has.history (Input field); calls = has.calls })
heard-sound n has field is = record {
  ticks = is.ticks;
  shows = record { clock = is.shows.clock; counter = is.shows.counter; target = is.shows.target };
  fits = is.fits;
  begins = is.begins;
  few = is.few;
  ids = is.ids;
}

abbrev pub with_control : Cabinet → Control → Cabinet
with_control c k = record { control = k; stage = c.stage; community = c.community; ticks = c.ticks; ask = c.ask }

pub hear-stands : (c : Cabinet) (k : Control) (cabinet_history : CabinetHistory) (field : Field) → CabinetStands c cabinet_history → ControlStands k (with_one (history_of cabinet_history) (Input field))
    → tick_count k ≡ tick_count c.control → CabinetStands (with_control c k) (with_item cabinet_history (InputTold field))
hear-stands c k cabinet_history field is stands counted = record {
  community = is.community;
  blank = is.blank;
  keeps = record {
    control = stands;
    stage = is.keeps.stage;
    counted = omega (arith, counted, is.keeps.counted);
    sound = heard-sound c.ticks (coming cabinet_history) field is.keeps.sound;
  };
}
