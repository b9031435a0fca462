use Rattle.std.proofs.Common.{◌≡◌, ℕ, List, map, refl, ap, ◌∙◌}
use Rattle.serde_json.specs.Data.{Data, array}
use Rattle.scenario_data.specs.declared.scenario.Input.{Input}
use Rattle.scenario_data.specs.declared.scenario.Fault.{Fault}
use Rattle.gen_arterial.specs.declared.drawing.Setup.{Setup}
use Rattle.gen_arterial.specs.Written.{items_from, input_value, lost_value, whole_value}
use Rattle.gen_arterial.specs.Drawing.{setup_made, setup_cabinet_value, setup_load_value}
use Rattle.gen_arterial.proofs.Lists.{below-map}
use Rattle.gen_arterial.proofs.values.value_of.Goals as goal

whole-same : (a b i l c f n o : Data) (rounds : ℕ) → a ≡ c → b ≡ f → i ≡ n → l ≡ o → whole_value a b i l rounds ≡ whole_value c f n o rounds
whole-same a b i l c f n o rounds p q r s = rw (p, q, r, s) refl

pub returns-in-Ok-whole_in : goal.returns-in-Ok-whole_in
returns-in-Ok-whole_in c = λ seed cabinets drawn.
    let cabinet = λ (ss : List Setup). array (items_from (map setup_cabinet_value ss)) in
    let load = λ (ss : List Setup). array (items_from (map setup_load_value ss)) in
    let as_array = λ (ds : List Data). array (items_from ds) in
    c.in-Ok-whole_in.ensures
    ∙ whole-same _ _ _ _ _ _ _ _ c.args.rounds
    (c.in-Ok.ensures ∙ ap cabinet (c.as_slice.ensures.value ∙ drawn.setups) ∙ ap as_array (below-map (setup_made seed c.args.rounds) setup_cabinet_value cabinets))
    (c.in-Ok-faults_in.ensures ∙ ap (λ (fs : List Fault). array (items_from (map lost_value fs))) (c.as_slice-4.ensures.value ∙ drawn.happens.faults))
    (c.in-Ok-inputs_in.ensures ∙ ap (λ (is : List Input). array (items_from (map input_value is))) (c.as_slice-3.ensures.value ∙ drawn.happens.inputs))
    (c.in-Ok-loads_in.ensures ∙ ap load (c.as_slice-2.ensures.value ∙ drawn.setups) ∙ ap as_array (below-map (setup_made seed c.args.rounds) setup_load_value cabinets))
