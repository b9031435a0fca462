use Rattle.std.proofs.Common.{subst}
use Rattle.sig_tables.specs.declared.tables.Tables.{Tables}
use Rattle.sig_tables.specs.Decide.{opening, opening_drifting}
use Rattle.scenario_data.specs.Content.{cabinet_content}
use Rattle.cab_book.specs.Controls.{ControlStands}
use Rattle.round_run.proofs.Opening.{can_run}
use Rattle.round_run.proofs.books.control_of.Goals as goal

pub open-opened-requires-clause-tables : goal.open-opened-requires-clause-tables
open-opened-requires-clause-tables c = can_run c.opening_tables.result (cabinet_content c.args.setup.now) c.opening_tables.ensures c.requires.consistent

pub returns-in-Ok-clause-stands : goal.returns-in-Ok-clause-stands
returns-in-Ok-clause-stands c =
    let setup = c.args.setup.now in
    subst (λ (t : Tables). ControlStands c.drift.new.self (opening_drifting t setup.pattern setup.clock setup.gain setup.lose)) c.opening_tables.ensures
    (c.drift.ensures.stands (opening c.opening_tables.result setup.pattern setup.clock) c.in-Ok.ensures.stands)
