-- The runs of a scenario are the whole paths through its script.
use Rattle.std.proofs.Common.{◌≡◌, ◌+◌, ◌∙◌, ℕ, zero, suc, List, [], ◌∷◌, ◌++◌, length, refl, sym, ap, subst, arith, append_assoc, append-nil}
use Rattle.trace_text.specs.declared.lines.Line.{Line}
use Rattle.trace_text.specs.declared.lines.Line.TheVariants.{J, Z}
use Rattle.scenario_data.specs.Content.{ScenarioContent}
use Rattle.cabinet_history.specs.Journals.{runs_of}
use Rattle.run_definition.specs.CabinetState.{CabinetState, opened_cabinet_states, coming_streams, round_acts, next_cabinet_state, each_cabinet_state}
use Rattle.run_definition.specs.Lines.{acts_lines, head_lines, each_lines, rounds_lines, opening_lines, rest_lines}
use Rattle.run_definition.specs.Orders.{EachMerges, AreMerges, AreJournals}
use Rattle.trace_laws.specs.Traces.{IsTraceOf}
use Rattle.trace_laws.specs.Script.{Script, Ends, say, Goes, cabinets_script, rounds_script, script_of}
use Rattle.trace_laws.proofs.Paths.{goes-append, goes-say, unsay, says-goes-on, hears-goes-on}

cabinets-go : (s : ScenarioContent) (first : ℕ) (gone ts : List CabinetState) (js : List (List ℕ)) (rest : List CabinetState → Script) → EachMerges s first ts js
    → Goes (cabinets_script s first gone ts rest) (each_lines s first ts js) (rest (gone ++ each_cabinet_state s first ts js))
cabinets-go s first gone [] [] rest are = ap rest (sym (append-nil gone))
cabinets-go s first gone [] (j ∷ js) rest are = absurd are
cabinets-go s first gone (t ∷ ts) [] rest are = absurd are
cabinets-go s first gone (t ∷ ts) (j ∷ js) rest are =
    let mine : List Line = acts_lines first t.cabinet_history (round_acts s first t j) in
    let after : Script = cabinets_script s (first + 1) (gone ++ next_cabinet_state s first t j ∷ []) ts rest in
    let on = cabinets-go s (first + 1) (gone ++ next_cabinet_state s first t j ∷ []) ts js rest are.1 in
    let same : (gone ++ next_cabinet_state s first t j ∷ []) ++ each_cabinet_state s (first + 1) ts js ≡ gone ++ each_cabinet_state s first (t ∷ ts) (j ∷ js) =
    append_assoc gone (next_cabinet_state s first t j ∷ []) (each_cabinet_state s (first + 1) ts js) in (
      j,
      refl,
      are.0,
      goes-append (say mine after) after (rest (gone ++ each_cabinet_state s first (t ∷ ts) (j ∷ js))) mine (each_lines s (first + 1) ts js) (goes-say mine after)
          (subst (λ (x : List CabinetState). Goes after (each_lines s (first + 1) ts js) (rest x)) same on),
    )

rounds-go : (s : ScenarioContent) (round n : ℕ) (ts : List CabinetState) (journals : List (List (List ℕ))) → length journals ≡ n → AreMerges s ts journals
    → Goes (rounds_script s round n ts) (rounds_lines s round ts journals ++ Z s.rounds ∷ []) Ends
rounds-go s round zero ts [] all are = (refl, refl)
rounds-go s round (suc n) ts [] all are = absurd (omega (arith, all))
rounds-go s round zero ts (js ∷ more) all are = absurd (omega (arith, all))
rounds-go s round (suc n) ts (js ∷ more) all are =
    let next : List CabinetState = each_cabinet_state s 1 ts js in
    let cabs : Script = cabinets_script s 1 [] ts (rounds_script s (round + 1) n) in
    let later : List Line = rounds_lines s (round + 1) next more ++ Z s.rounds ∷ [] in
    let on : Goes (rounds_script s (round + 1) n next) later Ends = rounds-go s (round + 1) n next more (omega (arith, all)) are.1 in
    let mine : Goes cabs (each_lines s 1 ts js) (rounds_script s (round + 1) n next) = cabinets-go s 1 [] ts js (rounds_script s (round + 1) n) are.0 in
    let both : Goes cabs (each_lines s 1 ts js ++ later) Ends = goes-append cabs (rounds_script s (round + 1) n next) Ends (each_lines s 1 ts js) later mine on in
    let whole : Goes (say (head_lines s round ts) cabs) (head_lines s round ts ++ (each_lines s 1 ts js ++ later)) Ends =
    goes-append (say (head_lines s round ts) cabs) cabs Ends (head_lines s round ts) (each_lines s 1 ts js ++ later) (goes-say (head_lines s round ts) cabs) both in
    let same : head_lines s round ts ++ (each_lines s 1 ts js ++ later) ≡ ((head_lines s round ts ++ each_lines s 1 ts js) ++ rounds_lines s (round + 1) next more) ++ Z s.rounds ∷ [] =
    sym (append_assoc (head_lines s round ts) (each_lines s 1 ts js) later) ∙ sym (append_assoc (head_lines s round ts ++ each_lines s 1 ts js) (rounds_lines s (round + 1) next more) (Z s.rounds ∷ [])) in
    subst (λ (x : List Line). Goes (say (head_lines s round ts) cabs) x Ends) same whole

-- a run is a whole path
pub run-goes : (s : ScenarioContent) (journals : List (List (List ℕ))) → AreJournals s journals → Goes (script_of s) (rest_lines s journals) Ends
run-goes s journals are =
    let ts : List CabinetState = opened_cabinet_states s s.cabinets in
    let rounds : Script = rounds_script s 1 s.rounds ts in
    let start : List Line = opening_lines 1 ts in
    let lines : List Line = rounds_lines s 1 ts journals in
    subst (λ (x : List Line). Goes (script_of s) x Ends) (sym (append_assoc start lines (Z s.rounds ∷ [])))
    (goes-append (script_of s) rounds Ends start (lines ++ Z s.rounds ∷ []) (goes-say start rounds) (rounds-go s 1 s.rounds ts journals are.all are.merges))

-- the journals of the cabinets in some lines
record CabinetsIn (s : ScenarioContent) (first : ℕ) (gone ts : List CabinetState) (rest : List CabinetState → Script) (lines : List Line) : Type 0 where
  journals : List (List ℕ)
  more : List Line
  merges : EachMerges s first ts journals
  split : lines ≡ each_lines s first ts journals ++ more
  on : Goes (rest (gone ++ each_cabinet_state s first ts journals)) more Ends

cabinets-of : (s : ScenarioContent) (first : ℕ) (gone ts : List CabinetState) (rest : List CabinetState → Script) (lines : List Line) → Goes (cabinets_script s first gone ts rest) lines Ends → CabinetsIn s first gone ts rest lines
cabinets-of s first gone [] rest lines go = record {
  journals = [];
  more = lines;
  merges = tt;
  split = refl;
  on = subst (λ (x : List CabinetState). Goes (rest x) lines Ends) (sym (append-nil gone)) go;
}
cabinets-of s first gone (t ∷ ts) rest [] go =
    absurd (hears-goes-on first (coming_streams s first t) (λ journal. say (acts_lines first t.cabinet_history (round_acts s first t journal)) (cabinets_script s (first + 1) (gone ++ next_cabinet_state s first t journal ∷ []) ts rest)) go)
cabinets-of s first gone (t ∷ ts) rest (x ∷ lines) go =
    let (j, line, merge, said) = go in
    let mine : List Line = acts_lines first t.cabinet_history (round_acts s first t j) in
    let after : Script = cabinets_script s (first + 1) (gone ++ next_cabinet_state s first t j ∷ []) ts rest in
    let (tail, is, on) = unsay mine lines after said in
    let others = cabinets-of s (first + 1) (gone ++ next_cabinet_state s first t j ∷ []) ts rest tail on in
    let same : (gone ++ next_cabinet_state s first t j ∷ []) ++ each_cabinet_state s (first + 1) ts others.journals ≡ gone ++ each_cabinet_state s first (t ∷ ts) (j ∷ others.journals) =
    append_assoc gone (next_cabinet_state s first t j ∷ []) (each_cabinet_state s (first + 1) ts others.journals) in
    record {
      journals = j ∷ others.journals;
      more = others.more;
      merges = (merge, others.merges);
      split = ap (λ (l : Line). l ∷ lines) line ∙ ap (λ (m : List Line). J first (runs_of j) ∷ m) (is ∙ ap (λ (m : List Line). mine ++ m) others.split ∙ sym (append_assoc mine (each_lines s (first + 1) ts others.journals) others.more));
      on = subst (λ (m : List CabinetState). Goes (rest m) others.more Ends) same others.on;
    }

record RoundsIn (s : ScenarioContent) (round n : ℕ) (ts : List CabinetState) (lines : List Line) : Type 0 where
  journals : List (List (List ℕ))
  all : length journals ≡ n
  merges : AreMerges s ts journals
  is : lines ≡ rounds_lines s round ts journals ++ Z s.rounds ∷ []

rounds-of : (s : ScenarioContent) (round n : ℕ) (ts : List CabinetState) (lines : List Line) → Goes (rounds_script s round n ts) lines Ends → RoundsIn s round n ts lines
rounds-of s round zero ts [] go = absurd (says-goes-on (Z s.rounds) Ends go)
rounds-of s round zero ts (x ∷ []) go = record { journals = []; all = refl; merges = tt; is = ap (λ (l : Line). l ∷ []) go.0 }
rounds-of s round zero ts (x ∷ y ∷ more) go = absurd go.1
rounds-of s round (suc n) ts lines go =
    let cabs : Script = cabinets_script s 1 [] ts (rounds_script s (round + 1) n) in
    let (tail, first_is, on) = unsay (head_lines s round ts) lines cabs go in
    let c = cabinets-of s 1 [] ts (rounds_script s (round + 1) n) tail on in
    let next : List CabinetState = each_cabinet_state s 1 ts c.journals in
    let r = rounds-of s (round + 1) n next c.more c.on in
    record {
      journals = c.journals ∷ r.journals;
      all = omega (arith, r.all);
      merges = (c.merges, r.merges);
      is = first_is ∙ ap (λ (m : List Line). head_lines s round ts ++ m) (c.split ∙ ap (λ (m : List Line). each_lines s 1 ts c.journals ++ m) r.is)
          ∙ sym (append_assoc (head_lines s round ts) (each_lines s 1 ts c.journals) (rounds_lines s (round + 1) next r.journals ++ Z s.rounds ∷ []))
          ∙ sym (append_assoc (head_lines s round ts ++ each_lines s 1 ts c.journals) (rounds_lines s (round + 1) next r.journals) (Z s.rounds ∷ []));
    }

-- a whole path is a run
pub path-is-run : (s : ScenarioContent) (lines : List Line) → Goes (script_of s) lines Ends → IsTraceOf s lines
path-is-run s lines go =
    let ts : List CabinetState = opened_cabinet_states s s.cabinets in
    let start : List Line = opening_lines 1 ts in
    let (tail, first_is, on) = unsay start lines (rounds_script s 1 s.rounds ts) go in
    let r = rounds-of s 1 s.rounds ts tail on in (
      r.journals,
      record { all = r.all; merges = r.merges },
      first_is ∙ ap (λ (m : List Line). start ++ m) r.is ∙ sym (append_assoc start (rounds_lines s 1 ts r.journals) (Z s.rounds ∷ [])),
    )

-- and the other way
pub run-path : (s : ScenarioContent) (lines : List Line) → IsTraceOf s lines → Goes (script_of s) lines Ends
run-path s lines is = let (journals, are, same) = is in subst (λ (x : List Line). Goes (script_of s) x Ends) (sym same) (run-goes s journals are)
