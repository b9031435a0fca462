use Rattle.cabinet_history.specs.Coming.{history_of}
use Rattle.cab_book.proofs.cabinet.Cabinet.tables.Goals as goal

pub returns : goal.returns
returns c = λ cabinet_history is. c.tables.ensures.tables (history_of cabinet_history) is.keeps.control
