use Rattle.std.proofs.Common.{sym, ◌∙◌}
use Rattle.scenario_data.specs.Content.{cabinet_content}
use Rattle.scenario_read.proofs.Judged.{keeps-rules, breaks-rule}
use Rattle.scenario_read.proofs.tables.judged.Goals as goal

pub returns-in-Ok : goal.returns-in-Ok
returns-in-Ok c = (keeps-rules c.args.number (cabinet_content c.args.cabinet.now) c.opening_tables-tables.result c.opening_tables-tables.ensures (sym c.judge.ensures.first ∙ c.in-Ok.is), tt)

pub returns-in-Err : goal.returns-in-Err
returns-in-Err c =
    breaks-rule c.args.number (cabinet_content c.args.cabinet.now) c.opening_tables-tables.result c.in-Err.broken c.opening_tables-tables.ensures (sym c.judge.ensures.first ∙ c.in-Err.is)
