use Rattle.std.proofs.Common.{refl}
use Rattle.cab_book.proofs.Opening.{new-sound, new-ticks}
use Rattle.cab_book.proofs.cabinet.Cabinet.new.Goals as goal

pub returns : goal.returns
returns c = record {
  stands = λ h k new. record {
    community = refl;
    blank = c.blank_ask.ensures;
    keeps = record { control = k; stage = c.new.ensures.stands; counted = new-ticks c.args.control h k new; sound = new-sound h new };
  };
  engine = refl;
}
