-- The lines of a run tell nothing of a cabinet that the scenario has not.
use Rattle.std.proofs.Common.{◌≡◌, ◌≢◌, ◌⊎◌, ◌+◌, ◌∙◌, ◌==◌, inl, inr, ℕ, true, false, List, [], ◌∷◌, ◌++◌, length, Ok, refl, sym, ap, arith, length-append}
use Rattle.std.proofs.lemmas.Bool.{ne_eqb, eq-eqb}
use Rattle.std.proofs.lemmas.Bool.Decides.{eqb_tells}
use Rattle.sig_types.specs.declared.frame.Colour.{Colour}
use Rattle.sig_types.specs.declared.frame.Ped.{Ped}
use Rattle.sig_types.specs.declared.frame.Mode.{Mode}
use Rattle.trace_text.specs.declared.lines.Line.{Line}
use Rattle.trace_text.specs.declared.lines.Line.TheVariants.{F, L, Z}
use Rattle.safety_laws.specs.CabinetTold.{CabinetTold, Shows, Loads, told_in}
use Rattle.safety_laws.specs.Whole.{Whole}
use Rattle.scenario_data.specs.Content.{CabinetContent, ScenarioContent}
use Rattle.runnable.specs.Cabinets.{IsNumbered, IsCabinet}
use Rattle.run_definition.specs.CabinetState.{CabinetState, opened_cabinet_states, round_acts, each_cabinet_state, HasComeTo}
use Rattle.run_definition.specs.Lines.{cabinet_lines, each_lines, head_lines, round_lines, rounds_lines, opening_lines, front_lines, run_lines}
use Rattle.run_definition.proofs.Telling.{told-append, told-behind, told-before, other-acts}
use Rattle.judged_runs.proofs.Rounds.{Came, round-came, head-none}

-- a number is that of a cabinet, or of none
numbered : (cab first : ℕ) (cabinets : List CabinetContent) → ((c : CabinetContent) × IsNumbered cab c first cabinets) ⊎ ((c : CabinetContent) → IsNumbered cab c first cabinets → ⊥)
numbered cab first [] = inr (λ c is. is)
numbered cab first (d ∷ cabinets) = elim (eqb_tells cab first) [
  | inl (same, equal) ↦ inl (d, inl (equal, refl))
  | inr (other, unequal) ↦ later unequal (numbered cab (first + 1) cabinets)
]
  where
    later : cab ≢ first → ((c : CabinetContent) × IsNumbered cab c (first + 1) cabinets) ⊎ ((c : CabinetContent) → IsNumbered cab c (first + 1) cabinets → ⊥)
        → ((c : CabinetContent) × IsNumbered cab c first (d ∷ cabinets)) ⊎ ((c : CabinetContent) → IsNumbered cab c first (d ∷ cabinets) → ⊥)
    later other (inl found) = inl (found.0, inr found.1)
    later other (inr none) = inr (λ c is. absurd (neither c is))
      where
        neither : (c : CabinetContent) → IsNumbered cab c first (d ∷ cabinets) → ⊥
        neither c (inl here) = other here.0
        neither c (inr there) = none c there

pub is-cabinet : (s : ScenarioContent) (cab : ℕ) → ((c : CabinetContent) × IsCabinet s cab c) ⊎ ((c : CabinetContent) → IsCabinet s cab c → ⊥)
is-cabinet s cab = numbered cab 1 s.cabinets

-- no cabinet with this number is among these
abbrev Absent : ℕ → ℕ → List CabinetState → Type 0
Absent cab first ts = (u : CabinetState) → HasComeTo cab u first ts → ⊥

opened-absent : (s : ScenarioContent) (cab first : ℕ) (cabinets : List CabinetContent) → ((c : CabinetContent) → IsNumbered cab c first cabinets → ⊥)
    → Absent cab first (opened_cabinet_states s cabinets)
opened-absent s cab first [] none u is = is
opened-absent s cab first (c ∷ cabinets) none u (inl here) = none c (inl (here.0, refl))
opened-absent s cab first (c ∷ cabinets) none u (inr later) = opened-absent s cab (first + 1) cabinets (λ d is. none d (inr is)) u later

next-absent : (s : ScenarioContent) (cab : ℕ) (ts : List CabinetState) (js : List (List ℕ)) → Absent cab 1 ts → Absent cab 1 (each_cabinet_state s 1 ts js)
next-absent s cab ts js none u is = let c : Came cab 1 ts (each_lines s 1 ts js) u = round-came s cab 1 u ts js is in none c.from c.come

not-first : (cab first : ℕ) (t : CabinetState) (ts : List CabinetState) → Absent cab first (t ∷ ts) → first ≢ cab
not-first cab first t ts none e = none t (inl (sym e, refl))

each-none : (s : ScenarioContent) (cab first : ℕ) (ts : List CabinetState) (js : List (List ℕ)) → Absent cab first ts → told_in cab (each_lines s first ts js) ≡ []
each-none s cab first [] js none = refl
each-none s cab first (t ∷ ts) [] none = refl
each-none s cab first (t ∷ ts) (j ∷ js) none =
    told-behind cab (cabinet_lines s first t j) (each_lines s (first + 1) ts js)
    (other-acts cab first t.cabinet_history (round_acts s first t j) (not-first cab first t ts none))
    ∙ each-none s cab (first + 1) ts js (λ u is. none u (inr is))

rounds-none : (s : ScenarioContent) (cab round : ℕ) (ts : List CabinetState) (journals : List (List (List ℕ))) → Absent cab 1 ts → told_in cab (rounds_lines s round ts journals) ≡ []
rounds-none s cab round ts [] none = refl
rounds-none s cab round ts (js ∷ later) none =
    let next : List CabinetState = each_cabinet_state s 1 ts js in
    told-behind cab (round_lines s round ts js) (rounds_lines s (round + 1) next later)
    (told-behind cab (head_lines s round ts) (each_lines s 1 ts js) (head-none s cab round ts) ∙ each-none s cab 1 ts js none)
    ∙ rounds-none s cab (round + 1) next later (next-absent s cab ts js none)

opening-none : (cab first : ℕ) (ts : List CabinetState) → Absent cab first ts → told_in cab (opening_lines first ts) ≡ []
opening-none cab first [] none = refl
opening-none cab first (t ∷ ts) none =
    let e : (first == cab) ≡ false = ne_eqb first cab (not-first cab first t ts none) in
    rw e (opening-none cab (first + 1) ts (λ u is. none u (inr is)))

pub others-none : (s : ScenarioContent) (journals : List (List (List ℕ))) (cab : ℕ) → ((c : CabinetContent) → IsCabinet s cab c → ⊥) → told_in cab (run_lines s journals) ≡ []
others-none s journals cab none =
    let ts : List CabinetState = opened_cabinet_states s s.cabinets in
    let absent : Absent cab 1 ts = opened-absent s cab 1 s.cabinets none in
    told-before cab (front_lines s journals) (Z s.rounds ∷ []) refl
    ∙ told-behind cab (opening_lines 1 ts) (rounds_lines s 1 ts journals) (opening-none cab 1 ts absent)
    ∙ rounds-none s cab 1 ts journals absent

-- ---- lines that tell nothing of a cabinet have whole versions of it

some-among : (xs : List CabinetTold) (x : CabinetTold) (ys : List CabinetTold) → xs ++ x ∷ ys ≡ [] → ⊥
some-among xs x ys e =
    let n : length (xs ++ x ∷ ys) ≡ 0 = ap length e in
    let m : length (xs ++ x ∷ ys) ≡ length xs + length (x ∷ ys) = length-append xs (x ∷ ys) in
    omega (arith, n, m)

own-told : (cab : ℕ) (before : List Line) (line : Line) (after : List Line) (said : CabinetTold) → told_in cab (line ∷ after) ≡ said ∷ told_in cab after
    → told_in cab (before ++ line ∷ after) ≡ [] → ⊥
own-told cab before line after said own e =
    some-among (told_in cab before) said (told_in cab after)
    (ap (λ (x : List CabinetTold). told_in cab before ++ x) (sym own) ∙ sym (told-append cab before (line ∷ after)) ∙ e)

frame-told : (cab tick : ℕ) (veh : List Colour) (ped : List Ped) (mode : Mode) (counter target version : ℕ) (after : List Line)
    → told_in cab (F cab tick veh ped mode counter target version ∷ after)
    ≡ Shows tick (record { colours = veh; signals = ped; mode = mode; version = version }) ∷ told_in cab after
frame-told cab tick veh ped mode counter target version after = let e : (cab == cab) ≡ true = eq-eqb cab cab refl in rw e refl

load-told : (cab id version : ℕ) (after : List Line) → told_in cab (L cab id (Ok version) ∷ after) ≡ Loads version ∷ told_in cab after
load-told cab id version after = let e : (cab == cab) ≡ true = eq-eqb cab cab refl in rw e refl

pub none-whole : (cab : ℕ) (lines : List Line) → told_in cab lines ≡ [] → Whole cab lines
none-whole cab lines none = record {
  frames = λ before after tick veh ped mode counter target version e.
      absurd (own-told cab before (F cab tick veh ped mode counter target version) after _ (frame-told cab tick veh ped mode counter target version after) (ap (told_in cab) (sym e) ∙ none));
  loads = λ before after id version e.
      absurd (own-told cab before (L cab id (Ok version)) after _ (load-told cab id version after) (ap (told_in cab) (sym e) ∙ none));
}
