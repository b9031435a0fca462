use Rattle.std.proofs.Common.{◌≡◌, ◌∙◌, ap}
use Rattle.sig_tables.specs.declared.tables.Tables.{Tables}
use Rattle.sig_tables.specs.Slots.{force_point}
use Rattle.sig_tables.specs.Plan.{plan_of}
use Rattle.band_report.specs.Arcs.{signal_of}
use Rattle.band_report.proofs.Reading.{signal-is}
use Rattle.band_report.proofs.signals.signal_at.Goals as goal

pub returns : goal.returns
returns c =
    let t : Tables = c.opening_tables-tables.result in
    let plan : c.plan-plan.result ≡ plan_of t c.args.pattern = c.plan-plan.ensures in
    signal-is c.plan-plan.result t c.args.number c.args.pattern c.is_defined.result c.force_of.result c.args.inbound plan c.is_defined.ensures
    (c.force_of.ensures t c.args.pattern plan ∙ ap (force_point t c.args.pattern) (c.phase_met.ensures t c.args.pattern plan))
    ∙ ap (λ (x : Tables). signal_of c.args.pattern c.args.inbound (record { number = c.args.number; tables = x })) c.opening_tables-tables.ensures
