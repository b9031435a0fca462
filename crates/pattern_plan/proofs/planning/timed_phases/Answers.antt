use Rattle.std.proofs.Common.{◌≡◌, ◌∙◌, ◌&&◌, not, Bool, true, false, refl}
use Rattle.sig_types.proofs.Lists.{phase-in}
use Rattle.sig_tables.specs.Tables.{is_enabled}
use Rattle.sig_tables.specs.Slots.{is_coordinated, is_omitted}
use Rattle.pattern_plan.proofs.planning.timed_phases.Goals as goal

regrouped : (a b c : Bool) → ((a && not b) && not c) ≡ (a && not b && not c)
regrouped true true c = refl
regrouped true false c = refl
regrouped false b c = refl

pub returns : goal.returns
returns c = λ p is.
    c.minus-2.ensures.has p (phase-in p is).1
    ∙ rw (c.minus.ensures.has p (phase-in p is).1, c.requires.enabled p is, c.requires.coordinated p is, c.omitted.ensures p is)
    (regrouped (is_enabled c.args.tables.now p) (is_coordinated c.args.tables.now c.args.pattern p) (is_omitted c.args.tables.now c.args.pattern p))
