use Rattle.std.proofs.Common.{◌≡◌, not, ◌&&◌, length, refl, sym, ◌∙◌, ap}
use Rattle.sig_types.specs.Phases.{all_phases}
use Rattle.sig_types.specs.PhaseSet.{has}
use Rattle.sig_types.proofs.Sets.{empty-is, some-same, listed-phase}
use Rattle.sig_tables.specs.Tables.{listed}
use Rattle.sig_tables.specs.Calls.{is_green}
use Rattle.sig_tables.proofs.Below.{is-above, is-within}
use Rattle.preempt_stages.proofs.Covered.{is_due, covered, past-green}
use Rattle.preempt_stages.proofs.reached.are_green.Goals as goal

pub returns : goal.returns
returns c =
    let wide : length c.args.shown.now.veh ≡ 16 = c.shows_sixteen.ensures.sixteen in
    empty-is c.minus.result c.is_empty.result c.is_empty.ensures.empty
    ∙ ap not (some-same (has c.minus.result) (λ p. is_due (listed c.args.goal.now) p && not (is_green c.args.shown.now p)) all_phases
    (λ p i. let is = listed-phase p i in
    c.minus.ensures.has p (is-within p is)
    ∙ rw (c.due_green.ensures p (is-above p is) (is-within p is), c.showing-green.ensures.shown p (is-above p is) (is-within p is)) refl))
    ∙ sym (covered (is_green c.args.shown.now) (listed c.args.goal.now) refl (λ q many. past-green c.args.shown.now q many wide))
