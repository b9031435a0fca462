use Rattle.std.proofs.Common.{◌≢◌, ◌<◌, sym, ◌∙◌, subst, arith}
use Rattle.std.proofs.lemmas.List.{get_or-set_other}
use Rattle.scenario_cut.specs.Last.{large_names, place_in}
use Rattle.scenario_cut.proofs.Lasting.{other-place}
use Rattle.scenario_cut.proofs.last.is_last.Goals as goal

pub returns-then-left-place-le1-clause-others : goal.returns-then-left-place-le1-clause-others
returns-then-left-place-le1-clause-others c = λ other apart.
    let place = c.place_of-place.ensures in
    let low : c.place_of-place.result < 7 = omega (arith, c.if-place-ge7.false) in
    let away : place_in large_names other ≢ c.place_of-place.result = λ same. other-place c.args.name.now other (subst (λ n. n < 7) place low) apart (same ∙ place) in
    sym (get_or-set_other c.args.left.now c.place_of-place.result (place_in large_names other) _ 0 away)

pub returns-clause-others : goal.returns-clause-others
returns-clause-others c = λ other apart.
    let place = c.place_of-place.ensures in
    let low : c.place_of-place.result < 7 = omega (arith, c.if-place-ge7.false) in
    let away : place_in large_names other ≢ c.place_of-place.result = λ same. other-place c.args.name.now other (subst (λ n. n < 7) place low) apart (same ∙ place) in
    sym (get_or-set_other c.args.left.now c.place_of-place.result (place_in large_names other) _ 0 away)
