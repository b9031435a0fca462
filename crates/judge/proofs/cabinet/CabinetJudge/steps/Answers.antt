use Rattle.std.proofs.Common.{◌≡◌, ◌≢◌, ℕ, ◌+◌, ◌-◌, ◌<◌, ◌∙◌, ap, sym, subst, arith, get_or, length, length-set, below_more, get_or-set_other, get_or-set_same, true, refl, Option}
use Rattle.sig_types.specs.declared.frame.Colour.TheVariants.{Green}
use Rattle.sig_types.specs.declared.frame.Mode.{Mode}
use Rattle.sig_types.specs.declared.frame.Ped.TheVariants.{Walk}
use Rattle.sig_types.specs.Phases.{is_phase}
use Rattle.sig_types.proofs.InTurn.{InTurn-set}
use Rattle.sig_tables.specs.declared.tables.PhaseTimes.{PhaseTimes}
use Rattle.sig_tables.specs.declared.tables.Tables.{Tables}
use Rattle.sig_tables.specs.Tables.{row}
use Rattle.sig_tables.specs.Layout.{Has}
use Rattle.sig_tables.proofs.Below.{phase-is}
use Rattle.safety_laws.specs.Safe.{makes_way_for}
use Rattle.judge_laws.specs.Breaches.{are_together, is_lit_off}
use Rattle.judge.specs.declared.lesser.LesserTimes.{LesserTimes}
use Rattle.judge.specs.declared.lengths.Step.{Step}
use Rattle.judge.specs.Lesser.{left_by, lesser_of}
use Rattle.judge.specs.Phase.{StepsOn, FindsOn, PhaseSteps, Shows}
use Rattle.judge.specs.InForce.{IsInForce, LitBy}
use Rattle.judge.specs.Cabinet.{no_watch, no_found, Finds}
use Rattle.judge.proofs.Beginnings.{knows-next}
use Rattle.judge.proofs.Conflicts.{FindsApart}
use Rattle.judge.proofs.cabinet.CabinetJudge.steps.Goals as goal

pub loop-p-preserved : goal.loop-p-preserved
loop-p-preserved c =
    let step : Step = record { tick = c.args.tick; known = c.args.self.now.known; tolerance = c.args.tolerance } in
    let by_row : PhaseSteps (get_or c.loop-p.self.phases c.loop-p.p no_watch) c.after-judged.result.watch c.after-judged.result.found (c.loop-p.p + 1) step
    (get_or c.args.veh.now c.loop-p.p Green) (get_or c.args.ped.now c.loop-p.p Walk) (row c.args.in_force.now.tables (c.loop-p.p + 1)) c.left.result
    = subst (λ (r : PhaseTimes). PhaseSteps (get_or c.loop-p.self.phases c.loop-p.p no_watch) c.after-judged.result.watch c.after-judged.result.found (c.loop-p.p + 1) step
    (get_or c.args.veh.now c.loop-p.p Green) (get_or c.args.ped.now c.loop-p.p Walk) r c.left.result)
    (c.phase.ensures.row ∙ ap (λ (t : Tables). row t (c.loop-p.p + 1)) c.tables-in-loop-p.ensures) (c.after-judged.ensures (c.loop-p.p + 1)) in
    let both : PhaseSteps (get_or c.loop-p.self.phases c.loop-p.p no_watch) c.after-judged.result.watch c.after-judged.result.found (c.loop-p.p + 1) step
    (get_or c.args.veh.now c.loop-p.p Green) (get_or c.args.ped.now c.loop-p.p Walk) (row c.args.in_force.now.tables (c.loop-p.p + 1)) (left_by c.of-way.result (c.loop-p.p + 1))
    = subst (λ (l : Option LesserTimes). PhaseSteps (get_or c.loop-p.self.phases c.loop-p.p no_watch) c.after-judged.result.watch c.after-judged.result.found (c.loop-p.p + 1) step
    (get_or c.args.veh.now c.loop-p.p Green) (get_or c.args.ped.now c.loop-p.p Walk) (row c.args.in_force.now.tables (c.loop-p.p + 1)) l)
    c.left.ensures by_row in
    let steps : StepsOn (get_or c.loop-p.self.phases c.loop-p.p no_watch) c.after-judged.result.watch (c.loop-p.p + 1) step
    (get_or c.args.veh.now c.loop-p.p Green) (get_or c.args.ped.now c.loop-p.p Walk) (row c.args.in_force.now.tables (c.loop-p.p + 1)) (left_by c.of-way.result (c.loop-p.p + 1))
    = λ joined tables older line f s. (both joined tables older line f s).1 in
    let finds : FindsOn (get_or c.loop-p.self.phases c.loop-p.p no_watch) c.after-judged.result.found (c.loop-p.p + 1) step
    (get_or c.args.veh.now c.loop-p.p Green) (get_or c.args.ped.now c.loop-p.p Walk) (row c.args.in_force.now.tables (c.loop-p.p + 1)) (left_by c.of-way.result (c.loop-p.p + 1))
    = λ joined tables older line f s. (both joined tables older line f s).0 in
    let same : get_or c.loop-p.self.phases c.loop-p.p no_watch ≡ get_or c.args.self.now.phases c.loop-p.p no_watch
    = c.loop-p.invariant.each.rest c.loop-p.p (omega arith) in
    let place : c.loop-p.p < length c.loop-p.found = omega arith in
    record {
      count = length-set _ _ _ ∙ c.loop-p.invariant.count;
      places = length-set _ _ _ ∙ c.loop-p.invariant.places;
      kept = c.loop-p.invariant.kept;
      each = InTurn-set _ _ _ _ _ _ (omega arith) c.loop-p.invariant.each (rw (← same) steps);
      course = below_more _ _
          (λ k below. let ne : k ≢ c.loop-p.p = omega arith in rw get_or-set_other (c.loop-p.invariant.course k below))
          (rw (get_or-set_same, ← same) finds);
      apart = below_more _ _
          (λ k below. let ne : k ≢ c.loop-p.p = omega arith in rw get_or-set_other (c.loop-p.invariant.apart k below))
          (rw get_or-set_same (record { pairs = c.together.ensures; off = c.is_lit_off.ensures }));
    }

pub returns : goal.returns
returns c = λ joined tables older line follows shows.
    let step : Step = record { tick = c.args.tick; known = c.args.self.now.known; tolerance = c.args.tolerance } in
    let lit : LitBy c.lit_phases-lit.result c.walking_phases-walking.result line.1
    = record { lamps = c.lit_phases-lit.ensures line.1 shows.shown; signals = c.walking_phases-walking.ensures line.1 shows.given } in
    let own : IsInForce c.args.in_force.now c.args.in_force.now.tables
    = subst (λ (t : Tables). IsInForce c.args.in_force.now t) (sym shows.under.tables) shows.under in
    let tell : (k : ℕ) → k < 16 → Shows joined step (get_or c.args.veh.now k Green) (get_or c.args.ped.now k Walk) (row c.args.in_force.now.tables (k + 1)) (left_by c.of-way.result (k + 1)) tables (k + 1) older line
    = λ k few.
    let place : k + 1 - 1 ≡ k = omega arith in
    let ph : is_phase (k + 1) ≡ true = phase-is (k + 1) (omega arith) (omega (arith, few)) in
    record {
      at = shows.at;
      known = follows.known;
      shown = rw place (rw shows.shown refl);
      given = rw place (rw shows.given refl);
      row = ap (λ (t : Tables). row t (k + 1)) (sym shows.under.tables);
      way = sym (c.of-way.ensures (k + 1) ph
          ∙ ap (λ (t : Tables). lesser_of (makes_way_for t c.args.mode (k + 1))) (c.tables.ensures ∙ shows.under.tables)
          ∙ ap (λ (m : Mode). lesser_of (makes_way_for (tables line.1.version) m (k + 1))) (sym shows.in_mode));
    } in
    let find : (k : ℕ) → k < 16 → Finds (get_or c.loop-p.found k no_found) c.args.tolerance joined tables (k + 1) older line
    = λ k few.
    let apart : FindsApart c.args.in_force.now c.lit_phases-lit.result c.walking_phases-walking.result (k + 1) (get_or c.loop-p.found k no_found)
    = c.loop-p.invariant.apart k (omega arith) in
    record {
      together = subst (λ (t : Tables). Has (get_or c.loop-p.found k no_found).together (are_together t line.1 (k + 1))) shows.under.tables (apart.pairs line.1 own lit);
      lit = apart.off line.1 own lit ∙ ap (λ (t : Tables). is_lit_off t line.1 (k + 1)) shows.under.tables;
      course = c.loop-p.invariant.course k (omega arith) joined tables older line (follows.phases k few) (tell k few);
    } in (
      find,
      record {
        known = knows-next joined line older;
        phases = λ k few. c.loop-p.invariant.each.done k (omega arith) joined tables older line (follows.phases k few) (tell k few);
      },
    )
