use Rattle.cabinet_history.specs.Coming.{history_of}
use Rattle.cab_book.proofs.Hearing.{hear-stands}
use Rattle.cab_book.proofs.cabinet.Cabinet.hear.Goals as goal

pub returns-clause-stands : goal.returns-clause-stands
returns-clause-stands c = λ cabinet_history is.
    hear-stands c.args.self.now c.input.new.self cabinet_history c.args.field is (c.input.ensures.stands (history_of cabinet_history) is.keeps.control) c.input.ensures.counted
