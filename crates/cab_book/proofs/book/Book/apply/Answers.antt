use Rattle.std.proofs.Common.{◌∙◌}
use Rattle.cab_book.proofs.book.Book.apply.Goals as goal

pub returns-in-Inputs-clause-replays : goal.returns-in-Inputs-clause-replays
returns-in-Inputs-clause-replays c = λ first is. record {
  streams = c.hear.ensures.streams ∙ is.streams;
  cabinet_histories = λ cabinet_history so. c.hear.ensures.stands cabinet_history (is.cabinet_histories cabinet_history so);
  ticks = c.hear.ensures.ticks ∙ is.ticks;
}

pub returns-in-Messages-clause-replays : goal.returns-in-Messages-clause-replays
returns-in-Messages-clause-replays c = λ first is. record {
  streams = c.receive.ensures.streams ∙ is.streams;
  cabinet_histories = λ cabinet_history so. c.receive.ensures.stands cabinet_history (is.cabinet_histories cabinet_history so);
  ticks = c.receive.ensures.ticks ∙ is.ticks;
}

pub returns-in-Ticks-clause-replays : goal.returns-in-Ticks-clause-replays
returns-in-Ticks-clause-replays c = λ first is. record {
  streams = c.tick.ensures.streams ∙ is.streams;
  cabinet_histories = λ cabinet_history so. c.tick.ensures.stands cabinet_history (is.cabinet_histories cabinet_history so);
  ticks = c.tick.ensures.ticks ∙ is.ticks;
}
