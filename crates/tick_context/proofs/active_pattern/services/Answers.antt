use Rattle.std.proofs.Common.{◌≡◌, ◌≤◌, ◌+◌, ◌-◌, ℕ, slice_set, refl, sym, ◌∙◌, ap, arith, subst}
use Rattle.std.proofs.Math.ListN.{length-set}
use Rattle.sig_tables.specs.Slots.{least_service}
use Rattle.sig_tables.proofs.Below.{is-within}
use Rattle.sig_tables.proofs.FilledTo.{FilledTo, filled-none, filled-more}
use Rattle.tick_context.proofs.active_pattern.services.Goals as goal

pub loop-phase-init : goal.loop-phase-init
loop-phase-init c = record { sixteen = refl; filled = filled-none _ _ _ }

pub loop-phase-preserved : goal.loop-phase-preserved
loop-phase-preserved c =
    let i = c.loop-phase.phase in
    let one : i - 1 + 1 ≡ i + 1 - 1 = omega arith in
    let at : i - 1 + 1 ≡ i = omega arith in
    record {
      sixteen = length-set c.loop-phase.services (i - 1) c.least_service.result ∙ c.loop-phase.invariant.sixteen;
      filled = subst (λ (k : ℕ). FilledTo 0 (slice_set c.loop-phase.services (i - 1) c.least_service.result) k (least_service c.args.tables.now)) one
          (filled-more 0 c.loop-phase.services (i - 1) c.least_service.result (least_service c.args.tables.now) (omega (arith, c.loop-phase.invariant.sixteen))
          c.loop-phase.invariant.filled (c.least_service.ensures.time ∙ ap (least_service c.args.tables.now) (sym at)));
    }

pub returns : goal.returns
returns c = λ p h. c.loop-phase.invariant.filled.before p h (let few : p ≤ 16 = is-within p h in omega arith)
