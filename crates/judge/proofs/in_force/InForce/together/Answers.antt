use Rattle.std.proofs.Common.{◌≡◌, true, not, ◌&&◌, ◌||◌, ◌∙◌, refl, arith}
use Rattle.sig_types.specs.declared.frame.Colour.TheVariants.{Red}
use Rattle.sig_types.specs.declared.frame.Ped.TheVariants.{Dont}
use Rattle.sig_types.specs.PhaseSet.{has}
use Rattle.sig_types.specs.Phases.{is_phase}
use Rattle.sig_tables.proofs.Below.{phase-is}
use Rattle.judge_laws.specs.Breaches.{shows, gives}
use Rattle.judge.proofs.Conflicts.{both-on}
use Rattle.judge.proofs.in_force.InForce.together.Goals as goal

pub returns : goal.returns
returns c = λ x plan by q on.
    let here : is_phase c.args.phase ≡ true = phase-is c.args.phase (omega arith) (omega arith) in
    let lamps : (has c.args.lit c.args.phase && has c.args.lit q) ≡ (not (shows Red c.args.phase x) && not (shows Red q x))
    = rw (by.lamps c.args.phase here, by.lamps q on) refl in
    let signals : (has c.args.walking c.args.phase && has c.args.walking q) ≡ (not (gives Dont c.args.phase x) && not (gives Dont q x))
    = rw (by.signals c.args.phase here, by.signals q on) refl in
    let lit : has c.only_if-lit.result q ≡ (not (shows Red c.args.phase x) && not (shows Red q x))
    = c.only_if-lit.ensures q ∙ rw c.has.ensures.has lamps in
    let walking : has c.only_if-walking.result q ≡ (not (gives Dont c.args.phase x) && not (gives Dont q x))
    = c.only_if-walking.ensures q ∙ rw c.has-2.ensures.has signals in
    let on_both : has c.union.result q ≡ not ((shows Red c.args.phase x || shows Red q x) && (gives Dont c.args.phase x || gives Dont q x))
    = c.union.ensures.has q ∙ rw (lit, walking) (both-on (shows Red c.args.phase x) (shows Red q x) (gives Dont c.args.phase x) (gives Dont q x)) in
    c.meet.ensures.has q ∙ rw (plan.incompatible c.args.phase here q on, on_both) refl
