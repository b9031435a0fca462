use Rattle.sig_types.specs.declared.streams.Stream.TheVariants.{Messages}
use Rattle.sig_types.specs.Items.{Came}
use Rattle.cab_book.proofs.Lengthening.{brought_at_end}
use Rattle.cab_book.proofs.Numbers.{way-low}
use Rattle.cab_book.proofs.book.Book.bring_frame.Goals as goal

pub returns-clause-brought : goal.returns-clause-brought
returns-clause-brought c =
    brought_at_end c.args.self.now c.add_frame.new.self c.receive.new.self (Messages c.args.way) (Came c.args.octets.items) (way-low c.args.way) c.requires.none c.in-Ok.ensures.added c.receive.ensures
