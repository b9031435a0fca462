-- The lines of a run tell the numbers of the downloads that each of its cabinets put in force.
use Rattle.std.proofs.Common.{◌≡◌, ◌≢◌, ◌+◌, ◌<◌, ◌≤◌, ◌∙◌, inl, inr, ℕ, List, [], ◌∷◌, ◌++◌, refl, sym, ap, subst, arith, append_assoc, append-nil}
use Rattle.trace_text.specs.declared.lines.Line.{Line}
use Rattle.trace_text.specs.declared.lines.Line.TheVariants.{Z}
use Rattle.safety_laws.specs.CabinetTold.{told_in}
use Rattle.scenario_data.specs.Content.{CabinetContent, ScenarioContent}
use Rattle.cabinet_history.specs.Journals.{Act}
use Rattle.master_rounds.specs.Rounds.{noted}
use Rattle.run_definition.specs.CabinetState.{CabinetState, opened_cabinet_states, round_acts, next_cabinet_state, each_cabinet_state, cabinet_states_after, HasComeTo}
use Rattle.run_definition.specs.Lines.{cabinet_lines, acts_lines, each_lines, notes_lines, head_lines, round_lines, rounds_lines, opening_lines, front_lines, run_lines}
use Rattle.run_definition.proofs.Telling.{other-acts, notes-tell}
use Rattle.judged_runs.proofs.Ids.{ids_told, ids-append, no-ids}
use Rattle.judged_runs.proofs.Brought.{ids_to, acts-ids}

pub come-late : (cab first : ℕ) (t : CabinetState) (ts : List CabinetState) → HasComeTo cab t first ts → first ≤ cab
come-late cab first t [] is = absurd is
come-late cab first t (u ∷ ts) (inl here) = let e : cab ≡ first = here.0 in omega (arith, e)
come-late cab first t (u ∷ ts) (inr later) = let l : first + 1 ≤ cab = come-late cab (first + 1) t ts later in omega (arith, l)

-- what comes before lines that tell none, and after them
ids-behind : (cab : ℕ) (lines more : List Line) → ids_told cab lines ≡ [] → ids_told cab (lines ++ more) ≡ ids_told cab more
ids-behind cab lines more e = ids-append cab lines more ∙ ap (λ (x : List ℕ). x ++ ids_told cab more) e

ids-before : (cab : ℕ) (lines more : List Line) → ids_told cab more ≡ [] → ids_told cab (lines ++ more) ≡ ids_told cab lines
ids-before cab lines more e = ids-append cab lines more ∙ ap (λ (x : List ℕ). ids_told cab lines ++ x) e ∙ append-nil (ids_told cab lines)

other-ids : (s : ScenarioContent) (cab n : ℕ) (t : CabinetState) (j : List ℕ) → n ≢ cab → ids_told cab (cabinet_lines s n t j) ≡ []
other-ids s cab n t j other =
    no-ids cab (acts_lines n t.cabinet_history (round_acts s n t j)) (other-acts cab n t.cabinet_history (round_acts s n t j) other)

each-late : (s : ScenarioContent) (cab first : ℕ) (ts : List CabinetState) (js : List (List ℕ)) → cab < first → ids_told cab (each_lines s first ts js) ≡ []
each-late s cab first [] js low = refl
each-late s cab first (t ∷ ts) [] low = refl
each-late s cab first (t ∷ ts) (j ∷ js) low =
    ids-behind cab (cabinet_lines s first t j) (each_lines s (first + 1) ts js) (other-ids s cab first t j (λ e. absurd (omega (arith, low, e))))
    ∙ each-late s cab (first + 1) ts js (omega (arith, low))

-- a cabinet that has reached a state had reached one before these lines, which tell what was put in force in between
pub record Came (cab first : ℕ) (ts : List CabinetState) (lines : List Line) (u : CabinetState) : Type 0 where
  pub from : CabinetState
  pub come : HasComeTo cab from first ts
  pub ids : ids_to u.cabinet_history ≡ ids_to from.cabinet_history ++ ids_told cab lines

own-round : (s : ScenarioContent) (first : ℕ) (t : CabinetState) (ts : List CabinetState) (j : List ℕ) (js : List (List ℕ))
    → ids_to (next_cabinet_state s first t j).cabinet_history ≡ ids_to t.cabinet_history ++ ids_told first (each_lines s first (t ∷ ts) (j ∷ js))
own-round s first t ts j js =
    let acts : List Act = round_acts s first t j in
    acts-ids first t.cabinet_history acts
    ∙ ap (λ (x : List ℕ). ids_to t.cabinet_history ++ x)
    (sym (ids-before first (cabinet_lines s first t j) (each_lines s (first + 1) ts js) (each-late s first (first + 1) ts js (omega arith))))

pub round-came : (s : ScenarioContent) (cab first : ℕ) (u : CabinetState) (ts : List CabinetState) (js : List (List ℕ)) → HasComeTo cab u first (each_cabinet_state s first ts js)
    → Came cab first ts (each_lines s first ts js) u
round-came s cab first u [] js is = absurd is
round-came s cab first u (t ∷ ts) [] is = absurd is
round-came s cab first u (t ∷ ts) (j ∷ js) (inl here) =
    subst (λ (n : ℕ). Came n first (t ∷ ts) (each_lines s first (t ∷ ts) (j ∷ js)) u) (sym here.0)
    (subst (λ (x : CabinetState). Came first first (t ∷ ts) (each_lines s first (t ∷ ts) (j ∷ js)) x) (sym here.1)
    (record { from = t; come = inl (refl, refl); ids = own-round s first t ts j js }))
round-came s cab first u (t ∷ ts) (j ∷ js) (inr later) =
    let high : first + 1 ≤ cab = come-late cab (first + 1) u (each_cabinet_state s (first + 1) ts js) later in
    let c : Came cab (first + 1) ts (each_lines s (first + 1) ts js) u = round-came s cab (first + 1) u ts js later in
    record {
      from = c.from;
      come = inr c.come;
      ids = c.ids ∙ ap (λ (x : List ℕ). ids_to c.from.cabinet_history ++ x)
          (sym (ids-behind cab (cabinet_lines s first t j) (each_lines s (first + 1) ts js) (other-ids s cab first t j (λ e. absurd (omega (arith, high, e))))));
    }

notes-none : (s : ScenarioContent) (cab first : ℕ) (ts : List CabinetState) → told_in cab (notes_lines s first ts) ≡ []
notes-none s cab first [] = refl
notes-none s cab first (t ∷ ts) =
    notes-tell cab (noted s first t.cabinet t.answered) (notes_lines s (first + 1) ts) ∙ notes-none s cab (first + 1) ts

pub head-none : (s : ScenarioContent) (cab round : ℕ) (ts : List CabinetState) → told_in cab (head_lines s round ts) ≡ []
head-none s cab round ts = notes-none s cab 1 ts

rounds-came : (s : ScenarioContent) (cab round : ℕ) (u : CabinetState) (ts : List CabinetState) (journals : List (List (List ℕ)))
    → HasComeTo cab u 1 (cabinet_states_after s ts journals) → Came cab 1 ts (rounds_lines s round ts journals) u
rounds-came s cab round u ts [] is = record { from = u; come = is; ids = sym (append-nil (ids_to u.cabinet_history)) }
rounds-came s cab round u ts (js ∷ later) is =
    let next : List CabinetState = each_cabinet_state s 1 ts js in
    let rest : List Line = rounds_lines s (round + 1) next later in
    let b : Came cab 1 next rest u = rounds-came s cab (round + 1) u next later is in
    let a : Came cab 1 ts (each_lines s 1 ts js) b.from = round-came s cab 1 b.from ts js b.come in
    record {
      from = a.from;
      come = a.come;
      ids = b.ids ∙ ap (λ (x : List ℕ). x ++ ids_told cab rest) a.ids
          ∙ append_assoc (ids_to a.from.cabinet_history) (ids_told cab (each_lines s 1 ts js)) (ids_told cab rest)
          ∙ ap (λ (x : List ℕ). ids_to a.from.cabinet_history ++ (x ++ ids_told cab rest))
          (sym (ids-behind cab (head_lines s round ts) (each_lines s 1 ts js) (no-ids cab (head_lines s round ts) (head-none s cab round ts))))
          ∙ ap (λ (x : List ℕ). ids_to a.from.cabinet_history ++ x) (sym (ids-append cab (round_lines s round ts js) rest));
    }

opened-none : (s : ScenarioContent) (cab first : ℕ) (t : CabinetState) (cabinets : List CabinetContent) → HasComeTo cab t first (opened_cabinet_states s cabinets)
    → ids_to t.cabinet_history ≡ []
opened-none s cab first t [] is = absurd is
opened-none s cab first t (c ∷ cabinets) (inl here) = ap (λ (x : CabinetState). ids_to x.cabinet_history) here.1
opened-none s cab first t (c ∷ cabinets) (inr later) = opened-none s cab (first + 1) t cabinets later

opening-none : (cab first : ℕ) (ts : List CabinetState) → ids_told cab (opening_lines first ts) ≡ []
opening-none cab first [] = refl
opening-none cab first (t ∷ ts) = opening-none cab (first + 1) ts

pub run-ids : (s : ScenarioContent) (journals : List (List (List ℕ))) (cab : ℕ) (end : CabinetState)
    → HasComeTo cab end 1 (cabinet_states_after s (opened_cabinet_states s s.cabinets) journals)
    → ids_told cab (run_lines s journals) ≡ ids_to end.cabinet_history
run-ids s journals cab end is =
    let ts : List CabinetState = opened_cabinet_states s s.cabinets in
    let rounds : List Line = rounds_lines s 1 ts journals in
    let c : Came cab 1 ts rounds end = rounds-came s cab 1 end ts journals is in
    ids-before cab (front_lines s journals) (Z s.rounds ∷ []) refl
    ∙ ids-behind cab (opening_lines 1 ts) rounds (opening-none cab 1 ts)
    ∙ ap (λ (x : List ℕ). x ++ ids_told cab rounds) (sym (opened-none s cab 1 c.from s.cabinets c.come))
    ∙ sym c.ids
