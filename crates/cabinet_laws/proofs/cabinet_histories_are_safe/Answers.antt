use Rattle.std.proofs.Common.{◌∙◌}
use Rattle.cabinet_history.specs.Coming.{history_of}
use Rattle.cabinet_history.specs.Frames.{has_line}
use Rattle.cabinet_laws.proofs.Admitting.{cabinet_history-lawful}
use Rattle.cabinet_laws.proofs.Changes.{tells}
use Rattle.cabinet_laws.proofs.Telling.{cabinet_history-tells, acts-tell}
use Rattle.cabinet_laws.proofs.cabinet_histories_are_safe.Goals as goal

pub returns-clause-told : goal.returns-clause-told
returns-clause-told c = cabinet_history-tells

pub returns-clause-safe : goal.returns-clause-safe
returns-clause-safe c = λ cabinet_history t d cab lines opens fits told.
    c.admitted_streets_are_safe.ensures.safe (history_of cabinet_history) has_line cab lines
    (cabinet_history-lawful c.installs_what_keeps_the_rules.ensures cabinet_history t d opens fits) tells (told ∙ cabinet_history-tells cabinet_history t d opens)

pub returns-clause-whole : goal.returns-clause-whole
returns-clause-whole c = λ cabinet_history t d cab lines opens told.
    c.admitted_streets_are_safe.ensures.whole (history_of cabinet_history) has_line cab lines (told ∙ cabinet_history-tells cabinet_history t d opens)

pub returns-clause-acts : goal.returns-clause-acts
returns-clause-acts c = acts-tell
