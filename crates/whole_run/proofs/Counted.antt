-- What the lines of a run come to.
use Rattle.std.proofs.Common.{◌≡◌, ◌≢◌, ◌<◌, ◌+◌, ◌==◌, ◌∙◌, ℕ, zero, suc, false, List, [], ◌∷◌, ◌++◌, replicate, length, drop, get_or, ne_eqb, sym, ap, refl, subst, arith}
use Rattle.std.proofs.lemmas.List.{at_drop_more}
use Rattle.sig_types.specs.declared.frame.Colour.{Colour}
use Rattle.sig_types.specs.declared.frame.Ped.{Ped}
use Rattle.sig_types.specs.declared.frame.Mode.{Mode}
use Rattle.trace_text.specs.declared.lines.Line.{Line}
use Rattle.trace_text.specs.declared.lines.Line.TheVariants.{S, F, Z}
use Rattle.scenario_data.specs.Content.{ScenarioContent}
use Rattle.cabinet_history.specs.Journals.{times, passes_of}
use Rattle.run_definition.specs.Orders.{serial_journals}
use Rattle.run_definition.specs.Lines.{front_lines, run_lines}
use Rattle.whole_run.specs.declared.counts.Counts.{Counts}
use Rattle.whole_run.specs.Counting.{total, is_first, is_round, ticks_in, is_frame, is_reply, is_accepted, is_refused, counts_of}
use Rattle.whole_run.specs.Adding.{Adds, total-append}

-- the ticks of a run of pass 4, and of one of another pass
all_ticks : (n : ℕ) (rest : List ℕ) → times 4 (replicate n 4 ++ rest) ≡ n + times 4 rest
all_ticks zero rest = omega arith
all_ticks (suc n) rest = let more : times 4 (replicate n 4 ++ rest) ≡ n + times 4 rest = all_ticks n rest in omega (arith, more)

pub own_ticks : (q n ticks : ℕ) (rest : List ℕ) → q ≡ 4 → ticks ≡ n → times 4 (replicate n q ++ rest) ≡ ticks + times 4 rest
own_ticks q n ticks rest own same =
    ap (λ (p : ℕ). times 4 (replicate n p ++ rest)) own ∙ all_ticks n rest ∙ ap (λ (k : ℕ). k + times 4 rest) (sym same)

pub no_ticks : (q n : ℕ) (rest : List ℕ) → 4 ≢ q → times 4 (replicate n q ++ rest) ≡ times 4 rest
no_ticks q zero rest other = refl
no_ticks q (suc n) rest other = let e : (4 == q) ≡ false = ne_eqb 4 q other in rw e (no_ticks q n rest other)

-- the next run of a journal
pub next_ticks : (runs : List (ℕ × ℕ)) (i : ℕ) (d : ℕ × ℕ) → i < length runs
    → times 4 (passes_of (drop i runs)) ≡ times 4 (replicate (get_or runs i d).1 (get_or runs i d).0 ++ passes_of (drop (i + 1) runs))
next_ticks runs i d below = at_drop_more (λ (xs : List (ℕ × ℕ)). times 4 (passes_of xs)) runs i d below

-- the first frame of a cabinet is that of tick 0
pub opens : (cab tick counter target version : ℕ) (veh : List Colour) (ped : List Ped) (mode : Mode) → tick ≡ 0
    → is_first (F cab tick veh ped mode counter target version) ≡ 1
opens cab zero counter target version veh ped mode is = refl
opens cab (suc tick) counter target version veh ped mode is = absurd (omega (arith, is))

pub follows : (cab tick counter target version : ℕ) (veh : List Colour) (ped : List Ped) (mode : Mode) → (tick ≡ 0 → ⊥)
    → is_first (F cab tick veh ped mode counter target version) ≡ 0
follows cab zero counter target version veh ped mode other = absurd (other refl)
follows cab (suc tick) counter target version veh ped mode other = refl

-- neither the scenario nor the end of a run is counted
whole : (f : Line → ℕ) (s : ScenarioContent) (js : List (List (List ℕ))) → f (S s.compact) ≡ 0 → f (Z s.rounds) ≡ 0
    → total f (run_lines s js) ≡ total f (front_lines s js)
whole f s js head end = omega (arith, head, end, total-append f (front_lines s js) (Z s.rounds ∷ []))

-- numbers that began at 0
pub counted : (none counts : Counts) (s : ScenarioContent) (js : List (List (List ℕ)))
    → none ≡ record { cabinets = 0; rounds = 0; ticks = 0; frames = 0; replies = 0; accepted = 0; refused = 0 }
    → Adds none counts (front_lines s js) → counts ≡ counts_of (run_lines s js)
counted none counts s js zeros adds =
    let so : Adds (record { cabinets = 0; rounds = 0; ticks = 0; frames = 0; replies = 0; accepted = 0; refused = 0 }) counts (front_lines s js) =
    subst (λ (x : Counts). Adds x counts (front_lines s js)) zeros adds in
    let a : counts.cabinets ≡ total is_first (run_lines s js) = omega (arith, so.cabinets, whole is_first s js refl refl) in
    let b : counts.rounds ≡ total is_round (run_lines s js) = omega (arith, so.rounds, whole is_round s js refl refl) in
    let c : counts.ticks ≡ total ticks_in (run_lines s js) = omega (arith, so.ticks, whole ticks_in s js refl refl) in
    let d : counts.frames ≡ total is_frame (run_lines s js) = omega (arith, so.frames, whole is_frame s js refl refl) in
    let e : counts.replies ≡ total is_reply (run_lines s js) = omega (arith, so.replies, whole is_reply s js refl refl) in
    let g : counts.accepted ≡ total is_accepted (run_lines s js) = omega (arith, so.accepted, whole is_accepted s js refl refl) in
    let h : counts.refused ≡ total is_refused (run_lines s js) = omega (arith, so.refused, whole is_refused s js refl refl) in
    let is : counts ≡ record {
      cabinets = counts.cabinets;
      rounds = counts.rounds;
      ticks = counts.ticks;
      frames = counts.frames;
      replies = counts.replies;
      accepted = counts.accepted;
      refused = counts.refused;
    } = refl in
    cc (is, a, b, c, d, e, g, h)
