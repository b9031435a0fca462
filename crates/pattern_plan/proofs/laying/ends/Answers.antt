use Rattle.std.proofs.Common.{◌≡◌, ◌∙◌, ℕ, Bool, true, if◌then◌else◌, ap, arith}
use Rattle.sig_types.specs.Phases.{is_phase}
use Rattle.sig_tables.specs.Slots.{slot_end}
use Rattle.sig_tables.proofs.Below.{phase-is}
use Rattle.sig_tables.proofs.Filled.{filled-more}
use Rattle.pattern_plan.specs.LayoutStands.{enabled_end}
use Rattle.pattern_plan.proofs.laying.ends.Goals as goal

pub loop-phase-preserved : goal.loop-phase-preserved
loop-phase-preserved c =
    let k : ℕ = c.loop-phase.phase in
    let is : is_phase k ≡ true = phase-is k (omega arith) (omega arith) in
    filled-more 0 (enabled_end c.args.ring_layout.now.tables.now c.args.pattern) _ k _ c.loop-phase.invariant (omega arith) (omega arith)
    (c.end_if.ensures
    ∙ ap (λ (b : Bool). if b then slot_end c.args.ring_layout.now.tables.now c.args.pattern k else 0) (c.has.ensures.has ∙ c.requires.stands.enabled k is))
