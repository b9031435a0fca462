use Rattle.std.proofs.Common.{◌∙◌, ℕ, ap}
use Rattle.band_report.specs.declared.arcs.Arc.{Arc}
use Rattle.band_report.proofs.Driving.{arc-is}
use Rattle.band_report.proofs.arcs.arc_at.Goals as goal

pub returns : goal.returns
returns c = λ n inbound k e own time.
    ap (λ (x : ℕ). let a : Arc = record { number = c.args.signal.now.number; lead = x; green = c.args.signal.now.green } in a) c.lead_of.ensures
    ∙ arc-is c.args.signal.now n inbound k c.args.after c.args.cycle e own time
