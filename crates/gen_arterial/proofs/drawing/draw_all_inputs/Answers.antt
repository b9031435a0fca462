use Rattle.std.proofs.Common.{◌≡◌, ℕ, ◌+◌, ◌*◌, List, ◌++◌, ◌∙◌, ap, subst, append_assoc, add-one, sym, arith}
use Rattle.scenario_data.specs.declared.scenario.Input.{Input}
use Rattle.gen_arterial.specs.Draws.{state_after}
use Rattle.gen_arterial.specs.Generated.{cabinet_inputs, round_inputs}
use Rattle.gen_arterial.proofs.drawing.draw_all_inputs.Goals as goal

pub loop-before-preserved : goal.loop-before-preserved
loop-before-preserved c =
    let i : ℕ = c.loop-before.before in
    let all : ℕ → ℕ → ℕ → List Input = λ seed place n. round_inputs seed c.args.round place n in record {
      inputs = λ seed place at.
          let own : List Input = cabinet_inputs seed c.args.round (place + 3 * i) i in
          let more : all seed place (i + 1) ≡ all seed place i ++ own = ap (λ (n : ℕ). all seed place n) (add-one i) in
          c.in-Ok.ensures.inputs seed (place + 3 * i) (c.loop-before.invariant.place seed place at)
          ∙ ap (λ (xs : List Input). xs ++ own) (c.loop-before.invariant.inputs seed place at)
          ∙ append_assoc c.args.inputs.now.items (all seed place i) own
          ∙ ap (λ (xs : List Input). c.args.inputs.now.items ++ xs) (sym more);
      place = λ seed place at.
          let e : place + 3 * i + 3 ≡ place + 3 * (i + 1) = omega arith in
          subst (λ (n : ℕ). c.draw_inputs.new.draws.state ≡ state_after seed n) e
          (c.in-Ok.ensures.next seed (place + 3 * i) (c.loop-before.invariant.place seed place at));
    }
