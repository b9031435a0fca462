-- The lines of a run give the history of each cabinet.
use Rattle.std.proofs.Common.{◌≡◌, ◌+◌, ◌<◌, ◌≤◌, ◌∙◌, ◌==◌, inl, inr, ℕ, true, false, List, [], ◌∷◌, ◌++◌, refl, sym, ap, subst, arith, append_assoc, append-nil}
use Rattle.std.proofs.lemmas.Bool.{ne_eqb, eq-eqb}
use Rattle.sig_tables.specs.Past.{History, first_frame}
use Rattle.sig_tables.specs.Putting.{EachFits}
use Rattle.sig_tables.proofs.Fitting.{cells-fit}
use Rattle.sig_tables.proofs.StandardFits.{std8-fits, max8-fits}
use Rattle.trace_text.specs.declared.lines.Line.{Line}
use Rattle.trace_text.specs.declared.lines.Line.TheVariants.{Z}
use Rattle.plan_facts.specs.Disturbances.{Drift}
use Rattle.safety_laws.specs.Written.{shown_by}
use Rattle.safety_laws.specs.CabinetTold.{CabinetTold, Shows, told_in}
use Rattle.scenario_data.specs.declared.scenario.Base.{Base}
use Rattle.scenario_data.specs.declared.scenario.Base.TheVariants.{Std8, Max8}
use Rattle.scenario_data.specs.Content.{CabinetContent, ScenarioContent}
use Rattle.scenario_data.specs.Opening.{base_tables, opening_tables}
use Rattle.sig_types.specs.Items.{Item}
use Rattle.cabinet_history.specs.CabinetHistory.{CabinetHistory, with_item, after}
use Rattle.cabinet_history.specs.Journals.{Act, items_in}
use Rattle.master_rounds.specs.Rounds.{noted}
use Rattle.cabinet_laws.specs.Openings.{IsOpening}
use Rattle.cabinet_laws.specs.Telling.{cabinet_history_told}
use Rattle.cabinet_laws.proofs.Telling.{acts-tell}
use Rattle.runnable.specs.Cabinets.{IsNumbered, IsCabinet}
use Rattle.run_definition.specs.CabinetState.{CabinetState, opened_cabinet_state, opened_cabinet_states, round_acts, next_cabinet_state, each_cabinet_state, cabinet_states_after, HasComeTo}
use Rattle.run_definition.specs.Lines.{cabinet_lines, acts_lines, each_lines, notes_lines, head_lines, round_lines, rounds_lines, opening_lines, front_lines, run_lines}
use Rattle.run_definition.specs.Orders.{EachMerges, AreMerges, AreJournals}
use Rattle.run_definition.proofs.Telling.{told-append, told-behind, told-before, acts-lines-tell, other-acts, notes-tell}

pub after-opening : (cabinet_history : CabinetHistory) (items : List Item) → (after cabinet_history items).opening ≡ cabinet_history.opening
after-opening cabinet_history [] = refl
after-opening cabinet_history (item ∷ items) = after-opening (with_item cabinet_history item) items

-- from one state of a cabinet to another, while these lines are written
record Tells (cab : ℕ) (lines : List Line) (t u : CabinetState) : Type 0 where
  own : u.cabinet ≡ t.cabinet
  opening : u.cabinet_history.opening ≡ t.cabinet_history.opening
  told : cabinet_history_told u.cabinet_history ≡ cabinet_history_told t.cabinet_history ++ told_in cab lines

tells-on : (cab : ℕ) (lines more : List Line) (t u v : CabinetState) → Tells cab lines t u → Tells cab more u v → Tells cab (lines ++ more) t v
tells-on cab lines more t u v a b = record {
  own = b.own ∙ a.own;
  opening = b.opening ∙ a.opening;
  told = b.told ∙ ap (λ (x : List CabinetTold). x ++ told_in cab more) a.told
      ∙ append_assoc (cabinet_history_told t.cabinet_history) (told_in cab lines) (told_in cab more)
      ∙ ap (λ (x : List CabinetTold). cabinet_history_told t.cabinet_history ++ x) (sym (told-append cab lines more));
}

-- lines that give the same of a cabinet
tells-same : (cab : ℕ) (lines others : List Line) (t u : CabinetState) → told_in cab others ≡ told_in cab lines → Tells cab lines t u → Tells cab others t u
tells-same cab lines others t u e a = record {
  own = a.own;
  opening = a.opening;
  told = a.told ∙ ap (λ (x : List CabinetTold). cabinet_history_told t.cabinet_history ++ x) (sym e);
}

come-late : (cab first : ℕ) (t : CabinetState) (ts : List CabinetState) → HasComeTo cab t first ts → first ≤ cab
come-late cab first t [] is = absurd is
come-late cab first t (u ∷ ts) (inl here) = let e : cab ≡ first = here.0 in omega (arith, e)
come-late cab first t (u ∷ ts) (inr later) = let l : first + 1 ≤ cab = come-late cab (first + 1) t ts later in omega (arith, l)

each-late : (s : ScenarioContent) (cab first : ℕ) (ts : List CabinetState) (js : List (List ℕ)) → cab < first → told_in cab (each_lines s first ts js) ≡ []
each-late s cab first [] js low = refl
each-late s cab first (t ∷ ts) [] low = refl
each-late s cab first (t ∷ ts) (j ∷ js) low =
    told-behind cab (cabinet_lines s first t j) (each_lines s (first + 1) ts js)
    (other-acts cab first t.cabinet_history (round_acts s first t j) (λ e. absurd (omega (arith, low, e))))
    ∙ each-late s cab (first + 1) ts js (omega (arith, low))

-- what a cabinet has reached among these, and what lines reported of it
abbrev Found : ℕ → CabinetState → ℕ → List CabinetState → List Line → Type 0
Found cab t first later lines = (u : CabinetState) × HasComeTo cab u first later × Tells cab lines t u

own-round : (s : ScenarioContent) (first : ℕ) (t : CabinetState) (ts : List CabinetState) (j : List ℕ) (js : List (List ℕ))
    → Tells first (each_lines s first (t ∷ ts) (j ∷ js)) t (next_cabinet_state s first t j)
own-round s first t ts j js =
    let acts : List Act = round_acts s first t j in
    record {
      own = refl;
      opening = after-opening t.cabinet_history (items_in acts);
      told = acts-tell t.cabinet_history acts
          ∙ ap (λ (x : List CabinetTold). cabinet_history_told t.cabinet_history ++ x)
          (sym (told-before first (acts_lines first t.cabinet_history acts) (each_lines s (first + 1) ts js) (each-late s first (first + 1) ts js (omega arith)) ∙ acts-lines-tell first t.cabinet_history acts));
    }

round-found : (s : ScenarioContent) (cab first : ℕ) (t : CabinetState) (ts : List CabinetState) (js : List (List ℕ)) → HasComeTo cab t first ts → EachMerges s first ts js
    → Found cab t first (each_cabinet_state s first ts js) (each_lines s first ts js)
round-found s cab first t [] js is are = absurd is
round-found s cab first t (u ∷ ts) [] is are = absurd are
round-found s cab first t (u ∷ ts) (j ∷ js) (inl here) are =
    subst (λ (n : ℕ). Found n t first (each_cabinet_state s first (u ∷ ts) (j ∷ js)) (each_lines s first (u ∷ ts) (j ∷ js))) (sym here.0)
    (subst (λ (x : CabinetState). Found first x first (each_cabinet_state s first (u ∷ ts) (j ∷ js)) (each_lines s first (u ∷ ts) (j ∷ js))) (sym here.1)
    (next_cabinet_state s first u j, inl (refl, refl), own-round s first u ts j js))
round-found s cab first t (u ∷ ts) (j ∷ js) (inr later) are =
    let high : first + 1 ≤ cab = come-late cab (first + 1) t ts later in
    let (v, come, tells) = round-found s cab (first + 1) t ts js later are.1 in (
      v,
      inr come,
      tells-same cab (each_lines s (first + 1) ts js) (each_lines s first (u ∷ ts) (j ∷ js)) t v
          (told-behind cab (cabinet_lines s first u j) (each_lines s (first + 1) ts js)
          (other-acts cab first u.cabinet_history (round_acts s first u j) (λ e. absurd (omega (arith, high, e))))) tells,
    )

notes-none : (s : ScenarioContent) (cab first : ℕ) (ts : List CabinetState) → told_in cab (notes_lines s first ts) ≡ []
notes-none s cab first [] = refl
notes-none s cab first (t ∷ ts) =
    notes-tell cab (noted s first t.cabinet t.answered) (notes_lines s (first + 1) ts) ∙ notes-none s cab (first + 1) ts

rounds-found : (s : ScenarioContent) (cab round : ℕ) (t : CabinetState) (ts : List CabinetState) (journals : List (List (List ℕ))) → HasComeTo cab t 1 ts → AreMerges s ts journals
    → Found cab t 1 (cabinet_states_after s ts journals) (rounds_lines s round ts journals)
rounds-found s cab round t ts [] is are =
    (t, is, record { own = refl; opening = refl; told = sym (append-nil (cabinet_history_told t.cabinet_history)) })
rounds-found s cab round t ts (js ∷ later) is are =
    let (u, come, tells) = round-found s cab 1 t ts js is are.0 in
    let (v, end, more) = rounds-found s cab (round + 1) u (each_cabinet_state s 1 ts js) later come are.1 in
    let mine : Tells cab (round_lines s round ts js) t u =
    tells-same cab (each_lines s 1 ts js) (round_lines s round ts js) t u
    (told-behind cab (head_lines s round ts) (each_lines s 1 ts js) (notes-none s cab 1 ts)) tells in
    (v, end, tells-on cab (round_lines s round ts js) (rounds_lines s (round + 1) (each_cabinet_state s 1 ts js) later) t u v mine more)

-- ---- the opening

opening-late : (s : ScenarioContent) (cab first : ℕ) (cabinets : List CabinetContent) → cab < first
    → told_in cab (opening_lines first (opened_cabinet_states s cabinets)) ≡ []
opening-late s cab first [] low = refl
opening-late s cab first (c ∷ cabinets) low =
    let e : (first == cab) ≡ false = ne_eqb first cab (λ f. absurd (omega (arith, low, f))) in
    rw e (opening-late s cab (first + 1) cabinets (omega (arith, low)))

opening-own : (s : ScenarioContent) (first : ℕ) (c : CabinetContent) (cabinets : List CabinetContent)
    → told_in first (opening_lines first (opened_cabinet_states s (c ∷ cabinets))) ≡ Shows 0 (shown_by first_frame) ∷ []
opening-own s first c cabinets =
    let e : (first == first) ≡ true = eq-eqb first first refl in
    rw e (ap (λ (x : List CabinetTold). Shows 0 (shown_by first_frame) ∷ x) (opening-late s first (first + 1) cabinets (omega arith)))

abbrev Opened : ScenarioContent → ℕ → CabinetContent → ℕ → List CabinetContent → Type 0
Opened s cab c first cabinets =
    HasComeTo cab (opened_cabinet_state s c) first (opened_cabinet_states s cabinets)
    × (told_in cab (opening_lines first (opened_cabinet_states s cabinets)) ≡ Shows 0 (shown_by first_frame) ∷ [])

opening-found : (s : ScenarioContent) (cab first : ℕ) (c : CabinetContent) (cabinets : List CabinetContent) → IsNumbered cab c first cabinets → Opened s cab c first cabinets
opening-found s cab first c [] is = absurd is
opening-found s cab first c (d ∷ cabinets) (inl here) =
    subst (λ (n : ℕ). Opened s n c first (d ∷ cabinets)) (sym here.0)
    (subst (λ (x : CabinetContent). Opened s first x first (d ∷ cabinets)) (sym here.1) (inl (refl, refl), opening-own s first d cabinets))
opening-found s cab first c (d ∷ cabinets) (inr later) =
    let (come, told) = opening-found s cab (first + 1) c cabinets later in
    let high : first + 1 ≤ cab = come-late cab (first + 1) (opened_cabinet_state s c) (opened_cabinet_states s cabinets) come in
    let e : (first == cab) ≡ false = ne_eqb first cab (λ f. absurd (omega (arith, high, f))) in
    (inr come, rw e told)

-- ---- the whole run

-- how a clock of a cabinet drifts
abbrev pub drift_in : CabinetContent → Drift
drift_in c = record { gain = c.gain; lose = c.lose }

-- what a cabinet has reached by the end, and that the lines of the run give it
pub record Ended (s : ScenarioContent) (journals : List (List (List ℕ))) (cab : ℕ) (c : CabinetContent) : Type 0 where
  pub end : CabinetState
  pub own : end.cabinet ≡ c
  pub come : HasComeTo cab end 1 (cabinet_states_after s (opened_cabinet_states s s.cabinets) journals)
  pub opens : IsOpening (opening_tables c) (drift_in c) end.cabinet_history.opening
  pub told : told_in cab (run_lines s journals) ≡ cabinet_history_told end.cabinet_history

pub run-ended : (s : ScenarioContent) (journals : List (List (List ℕ))) (cab : ℕ) (c : CabinetContent) → AreJournals s journals → IsCabinet s cab c → Ended s journals cab c
run-ended s journals cab c are is =
    let start : List Line = opening_lines 1 (opened_cabinet_states s s.cabinets) in
    let rounds : List Line = rounds_lines s 1 (opened_cabinet_states s s.cabinets) journals in
    let (first, shown) = opening-found s cab 1 c s.cabinets is in
    let (u, come, tells) = rounds-found s cab 1 (opened_cabinet_state s c) (opened_cabinet_states s s.cabinets) journals first are.merges in
    record {
      end = u;
      own = tells.own;
      come = come;
      opens = subst (λ (h : History). IsOpening (opening_tables c) (drift_in c) h) (sym tells.opening) (c.pattern, c.clock, inr refl);
      told = told-before cab (front_lines s journals) (Z s.rounds ∷ []) refl
          ∙ told-append cab start rounds
          ∙ ap (λ (x : List CabinetTold). x ++ told_in cab rounds) shown
          ∙ sym tells.told;
    }

base-fits : (base : Base) → EachFits (base_tables base)
base-fits Std8 = std8-fits
base-fits Max8 = max8-fits

-- the opening tables are in range
pub opening-fits : (c : CabinetContent) → EachFits (opening_tables c)
opening-fits c = cells-fit (base_tables c.base) c.cells (base-fits c.base)
