use Rattle.std.proofs.Common.{arith}
use Rattle.sig_types.specs.declared.streams.Stream.TheVariants.{Inputs}
use Rattle.sig_types.specs.Items.{InputTold}
use Rattle.cab_book.proofs.Lengthening.{brought_at_end}
use Rattle.cab_book.proofs.book.Book.bring_input.Goals as goal

pub returns-clause-brought : goal.returns-clause-brought
returns-clause-brought c =
    brought_at_end c.args.self.now c.add_input.new.self c.hear.new.self Inputs (InputTold c.args.field) (omega arith) c.requires.none c.in-Ok.ensures.added c.hear.ensures
