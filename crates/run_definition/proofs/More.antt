-- More rounds only add lines, and any first rounds are continued to a whole run.
use Rattle.std.proofs.Common.{◌≡◌, ◌-◌, ◌+◌, ◌∙◌, ℕ, List, [], ◌∷◌, ◌++◌, length, sym, ap, arith, append_assoc}
use Rattle.std.proofs.lemmas.List.{length-append}
use Rattle.trace_text.specs.declared.lines.Line.{Line}
use Rattle.scenario_data.specs.Content.{ScenarioContent}
use Rattle.run_definition.specs.CabinetState.{CabinetState, opened_cabinet_states, each_cabinet_state, cabinet_states_after}
use Rattle.run_definition.specs.Lines.{round_lines, rounds_lines, opening_lines, front_lines}
use Rattle.run_definition.specs.Orders.{AreMerges, BeginJournals, Continues, serial_rounds}
use Rattle.run_definition.proofs.Orders.{serial-merges, serial-all}

rounds-more : (s : ScenarioContent) (round : ℕ) (ts : List CabinetState) (js later : List (List (List ℕ)))
    → rounds_lines s round ts (js ++ later) ≡ rounds_lines s round ts js ++ rounds_lines s (round + length js) (cabinet_states_after s ts js) later
rounds-more s round ts [] later =
    let same : round ≡ round + 0 = omega arith in
    ap (λ (n : ℕ). rounds_lines s n ts later) same
rounds-more s round ts (j ∷ js) later =
    let next : List CabinetState = each_cabinet_state s 1 ts j in
    let same : round + 1 + length js ≡ round + length (j ∷ js) = omega arith in
    ap (λ (x : List Line). round_lines s round ts j ++ x) (rounds-more s (round + 1) next js later)
    ∙ sym (append_assoc (round_lines s round ts j) (rounds_lines s (round + 1) next js) (rounds_lines s (round + 1 + length js) (cabinet_states_after s next js) later))
    ∙ ap (λ (n : ℕ). rounds_lines s round ts (j ∷ js) ++ rounds_lines s n (cabinet_states_after s next js) later) same

pub fronts-more : (s : ScenarioContent) (journals later : List (List (List ℕ)))
    → front_lines s (journals ++ later) ≡ front_lines s journals ++ rounds_lines s (length journals + 1) (cabinet_states_after s (opened_cabinet_states s s.cabinets) journals) later
fronts-more s journals later =
    let ts : List CabinetState = opened_cabinet_states s s.cabinets in
    let same : 1 + length journals ≡ length journals + 1 = omega arith in
    ap (λ (x : List Line). opening_lines 1 ts ++ x) (rounds-more s 1 ts journals later)
    ∙ sym (append_assoc (opening_lines 1 ts) (rounds_lines s 1 ts journals) (rounds_lines s (1 + length journals) (cabinet_states_after s ts journals) later))
    ∙ ap (λ (n : ℕ). front_lines s journals ++ rounds_lines s n (cabinet_states_after s ts journals) later) same

-- some rounds, and then serial ones
merges-on : (s : ScenarioContent) (ts : List CabinetState) (journals : List (List (List ℕ))) (n : ℕ) → AreMerges s ts journals
    → AreMerges s ts (journals ++ serial_rounds s (cabinet_states_after s ts journals) n)
merges-on s ts [] n are = serial-merges s ts n
merges-on s ts (js ∷ later) n are = (are.0, merges-on s (each_cabinet_state s 1 ts js) later n are.1)

pub continued : (s : ScenarioContent) (journals : List (List (List ℕ))) → BeginJournals s journals → Continues s journals
continued s journals begin =
    let ts : List CabinetState = opened_cabinet_states s s.cabinets in
    let n : ℕ = s.rounds - length journals in
    let rest : List (List (List ℕ)) = serial_rounds s (cabinet_states_after s ts journals) n in (
      rest,
      record {
        all = omega (arith, begin.few, length-append journals rest, serial-all s (cabinet_states_after s ts journals) n);
        merges = merges-on s ts journals n begin.merges;
      },
    )
