use Rattle.std.proofs.Common.{◌≡◌, ◌∙◌, ℕ, true, refl, arith}
use Rattle.sig_types.specs.Phases.{is_phase}
use Rattle.sig_tables.specs.Slots.{permissive_end}
use Rattle.sig_tables.proofs.Below.{phase-is}
use Rattle.sig_tables.proofs.Filled.{filled-more, filled-end}
use Rattle.pattern_plan.proofs.forcing.permissives.Goals as goal

pub loop-phase-preserved : goal.loop-phase-preserved
loop-phase-preserved c =
    let k : ℕ = c.loop-phase.phase in
    let is : is_phase k ≡ true = phase-is k (omega arith) (omega arith) in
    filled-more 0 (permissive_end c.args.tables.now c.args.pattern) _ k _ c.loop-phase.invariant (omega arith) (omega arith)
    (c.permissive_if.ensures ∙ rw (c.has.ensures.has, c.requires.timed k is, c.requires.force k is) refl)

pub returns-clause-each : goal.returns-clause-each
returns-clause-each c = filled-end _ _ _ _ c.loop-phase.invariant (omega arith)

pub returns-clause-sixteen : goal.returns-clause-sixteen
returns-clause-sixteen c = c.loop-phase.invariant.sixteen
