use Rattle.std.proofs.Common.{◌≡◌, ◌∙◌, ◌*◌, ℕ, true, refl, sym, ap, subst, arith}
use Rattle.sig_types.specs.declared.phase_set.PhaseSet.{PhaseSet}
use Rattle.sig_types.specs.Phases.{is_phase}
use Rattle.sig_tables.specs.declared.tables.Pattern.{Pattern}
use Rattle.sig_tables.specs.declared.tables.Tables.{Tables}
use Rattle.sig_tables.specs.Sides.{are_of_one_side}
use Rattle.sig_tables.specs.Slots.{cycle_time, force_point, side_end, side_clearance}
use Rattle.sig_tables.specs.Layout.{Has}
use Rattle.sig_tables.proofs.Below.{phase-is}
use Rattle.sig_tables.proofs.Filled.{filled-start, filled-more, filled-end}
use Rattle.pattern_plan.proofs.Sides.{side-end-is, side-clearance-is}
use Rattle.pattern_plan.proofs.Points.{force-is}
use Rattle.pattern_plan.proofs.forcing.forces.Goals as goal

pub loop-phase-init : goal.loop-phase-init
loop-phase-init c = record { each = filled-start _ _ _ refl; side = c.none-side.ensures _ _ }

pub loop-phase-preserved : goal.loop-phase-preserved
loop-phase-preserved c =
    let k : ℕ = c.loop-phase.phase in
    let t : Tables = c.args.ring_layout.now.tables.now in
    let n : ℕ = c.args.pattern in
    let is : is_phase k ≡ true = phase-is k (omega arith) (omega arith) in
    let has : Has c.of-side.result.phases (are_of_one_side t k) =
    subst (λ (s : PhaseSet). Has s (are_of_one_side t k)) (sym c.of-side.ensures.phases) (c.requires.stands.sides k is) in
    let time : 10 * c.from-time.result ≡ cycle_time t n =
    ap (λ (x : ℕ). 10 * x) (c.from-time.ensures ∙ ap (λ (r : Pattern). r.cycle) c.pattern.ensures.row) in
    let last : c.of-side.result.end ≡ side_end t n k =
    c.of-side.ensures.measured.end ∙ side-end-is t n k c.of-side.result.phases c.ends-ends.result has c.ends-ends.ensures in
    let shared : c.of-side.result.clearance ≡ side_clearance t k =
    c.of-side.ensures.measured.clearance ∙ side-clearance-is t k c.of-side.result.phases c.clearances-clears.result has c.clearances-clears.ensures in
    record {
      each = filled-more 0 (force_point t n) _ k _ c.loop-phase.invariant.each (omega arith) (omega arith)
          (c.force_if.ensures ∙ force-is t n k _ _ _ _ _ _ _ (c.has-enabled.ensures.has ∙ c.requires.stands.enabled k is) time c.requires.zero
          (c.ends-ends.ensures k is) (c.clearances-clears.ensures k is) last shared);
      side = c.of-side.ensures.measured;
    }

pub returns-clause-each : goal.returns-clause-each
returns-clause-each c = filled-end _ _ _ _ c.loop-phase.invariant.each (omega arith)

pub returns-clause-sixteen : goal.returns-clause-sixteen
returns-clause-sixteen c = c.loop-phase.invariant.each.sixteen
