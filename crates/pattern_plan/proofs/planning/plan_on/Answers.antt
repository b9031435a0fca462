use Rattle.std.proofs.Common.{◌∙◌, ◌*◌, ◌==◌, ℕ, if◌then◌else◌, ap}
use Rattle.sig_types.proofs.Places.{map-places}
use Rattle.sig_tables.specs.declared.tables.Pattern.{Pattern}
use Rattle.sig_tables.specs.declared.tables.Corrections.{Corrections}
use Rattle.sig_tables.specs.declared.tables.Tables.{Tables}
use Rattle.sig_tables.specs.Slots.{split_time, force_point, permissive_end}
use Rattle.pattern_plan.proofs.Points.{same-plan}
use Rattle.pattern_plan.proofs.planning.plan_on.Goals as goal

pub returns : goal.returns
returns c =
    let t : Tables = c.args.ring_layout.now.tables.now in
    let n : ℕ = c.args.pattern in
    same-plan _ _ _ _ _ _ _ _ _ _ _ _ _ _ _ _ _ _ _ _
    (c.ticks.ensures ∙ ap (λ (r : Pattern). 10 * r.cycle) c.pattern-row.ensures.row)
    (c.ticks-2.ensures ∙ ap (λ (r : Pattern). 10 * r.offset) c.pattern-row.ensures.row)
    (ap (λ (r : Pattern). r.sequence) c.pattern-row.ensures.row)
    c.held_phases-held.ensures
    (map-places 0 (force_point t n) c.forces-force.result c.forces-force.ensures.sixteen c.forces-force.ensures.each)
    (map-places 0 (permissive_end t n) c.permissives.result c.permissives.ensures.sixteen c.permissives.ensures.each)
    c.window_of-window.ensures
    (map-places 0 (split_time t n) c.splits.result c.splits.ensures.sixteen c.splits.ensures.each)
    (ap (λ (u : Corrections). u.force_mode == 2) c.unit.ensures.unit)
    (c.shift_of.ensures ∙ ap (λ (x : ℕ). if t.unit.reference == 2 then x else 0) c.window_of-window.ensures)
