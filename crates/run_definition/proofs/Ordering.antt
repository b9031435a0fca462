-- The lines of a round of a session, as they are reported, are those of the round in the order of a trace.
use Rattle.std.proofs.Common.{◌≡◌, ◌≢◌, ◌∙◌, ◌+◌, ◌==◌, ℕ, true, false, List, [], ◌∷◌, ◌++◌, length, map, filter, refl, sym, ap, subst, append-nil, append_assoc, eq-eqb, ne_eqb}
use Rattle.std.specs.List.{AllByRecursion}
use Rattle.sig_tables.specs.Decide.{last_frame_of}
use Rattle.sig_types.specs.declared.notes.MasterNote.{MasterNote}
use Rattle.trace_text.specs.declared.lines.Line.{Line}
use Rattle.trace_text.specs.declared.lines.Line.TheVariants.{R, M, J}
use Rattle.scenario_data.specs.Content.{ScenarioContent}
use Rattle.cabinet_history.specs.CabinetHistory.{CabinetHistory, with_item, after}
use Rattle.cabinet_history.specs.Coming.{history_of}
use Rattle.cabinet_history.specs.Journals.{Act, items_in, runs_of}
use Rattle.cabinet_history.proofs.Growing.{items-more, after-more}
use Rattle.master_rounds.specs.Rounds.{noted}
use Rattle.run_definition.specs.CabinetState.{CabinetState, HasComeTo}
use Rattle.run_definition.specs.Lines.{shown_line, item_lines, acts_lines, notes_lines, head_lines, opening_lines}
use Rattle.run_definition.specs.Session.{Step, step_acts, steps_acts, begin_acts, session_acts, history_by}
use Rattle.run_definition.specs.SessionAnswers.{journal_by, each_begin, each_step, each_journal}
use Rattle.run_definition.specs.SessionRecord.{begins_part, is_of_street, is_journal_of, is_told_of, cabinets_in_order, part_in_order}
use Rattle.run_definition.proofs.SessionLists.{filter-append, filter-all, filter-none}
use Rattle.run_definition.proofs.SessionParts.{InOnePart}
use Rattle.run_definition.proofs.SessionRounds.{each_told, round_told}
use Rattle.run_definition.proofs.SessionCabinets.{IsToldOf, AreToldOf, all-append, all-map, acts-told, told-street, told-journal, told-own, told-other, each, each-all, each-none, each-found, HasOf, cabinets-ordered}

-- ---- acts one after another

lines-append : (cab : ℕ) (h : CabinetHistory) (acts more : List Act)
    → acts_lines cab h (acts ++ more) ≡ acts_lines cab h acts ++ acts_lines cab (after h (items_in acts)) more
lines-append cab h [] more = refl
lines-append cab h (act ∷ acts) more =
    let one : List Line = item_lines cab h act.pass act.item in
    let now : CabinetHistory = with_item h act.item in
    ap (λ (r : List Line). one ++ r) (lines-append cab now acts more)
    ∙ sym (append_assoc one (acts_lines cab now acts) (acts_lines cab (after now (items_in acts)) more))

-- ---- steps one after another

-- the lines of steps after others
abbrev pub steps_lines : ScenarioContent → List CabinetState → List Step → List Step → List Line
steps_lines s ts done [] = []
steps_lines s ts done (step ∷ steps) = each_step s 1 ts done step ++ steps_lines s ts (done ++ step ∷ []) steps

pub steps-more : (s : ScenarioContent) (ts : List CabinetState) (done steps : List Step) (step : Step)
    → steps_lines s ts done (steps ++ step ∷ []) ≡ steps_lines s ts done steps ++ each_step s 1 ts (done ++ steps) step
steps-more s ts done [] step =
    append-nil (each_step s 1 ts done step) ∙ ap (λ (d : List Step). each_step s 1 ts d step) (sym (append-nil done))
steps-more s ts done (x ∷ steps) step =
    let rest : List Line = steps_lines s ts (done ++ x ∷ []) steps in
    ap (λ (r : List Line). each_step s 1 ts done x ++ r) (steps-more s ts (done ++ x ∷ []) steps step)
    ∙ ap (λ (d : List Step). each_step s 1 ts done x ++ (rest ++ each_step s 1 ts d step)) (append_assoc done (x ∷ []) steps)
    ∙ sym (append_assoc (each_step s 1 ts done x) rest (each_step s 1 ts (done ++ (x ∷ steps)) step))

steps-acts-more : (cab : ℕ) (steps : List Step) (step : Step) → steps_acts cab (steps ++ step ∷ []) ≡ steps_acts cab steps ++ step_acts cab step
steps-acts-more cab [] step = append-nil (step_acts cab step)
steps-acts-more cab (x ∷ steps) step =
    ap (λ (r : List Act). step_acts cab x ++ r) (steps-acts-more cab steps step) ∙ sym (append_assoc (step_acts cab x) (steps_acts cab steps) (step_acts cab step))

history-more : (s : ScenarioContent) (cab : ℕ) (t : CabinetState) (done : List Step) (step : Step)
    → history_by s cab t (done ++ step ∷ []) ≡ after (history_by s cab t done) (items_in (step_acts cab step))
history-more s cab t done step =
    let begun : List Act = begin_acts s cab t in
    ap (λ (r : List Act). after t.cabinet_history (items_in (begun ++ r))) (steps-acts-more cab done step)
    ∙ ap (λ (r : List Act). after t.cabinet_history (items_in r)) (sym (append_assoc begun (steps_acts cab done) (step_acts cab step)))
    ∙ ap (after t.cabinet_history) (items-more (session_acts s cab t done) (step_acts cab step))
    ∙ after-more t.cabinet_history (items_in (session_acts s cab t done)) (items_in (step_acts cab step))

-- ---- lines of each cabinet

abbrev begun_of : ScenarioContent → ℕ → CabinetState → List Line
begun_of s n t = acts_lines n t.cabinet_history (begin_acts s n t)

abbrev stepped_of : ScenarioContent → List Step → Step → ℕ → CabinetState → List Line
stepped_of s done step n t = acts_lines n (history_by s n t done) (step_acts n step)

abbrev journal_of : ScenarioContent → List Step → ℕ → CabinetState → List Line
journal_of s steps n t = J n (runs_of (journal_by s n t steps)) ∷ []

abbrev notes_of : ScenarioContent → ℕ → CabinetState → List Line
notes_of s n t = map M (noted s n t.cabinet t.answered)

begin-each : (s : ScenarioContent) (first : ℕ) (ts : List CabinetState) → each_begin s first ts ≡ each (begun_of s) first ts
begin-each s first [] = refl
begin-each s first (t ∷ ts) = ap (λ (r : List Line). begun_of s first t ++ r) (begin-each s (first + 1) ts)

step-each : (s : ScenarioContent) (done : List Step) (step : Step) (first : ℕ) (ts : List CabinetState) → each_step s first ts done step ≡ each (stepped_of s done step) first ts
step-each s done step first [] = refl
step-each s done step first (t ∷ ts) = ap (λ (r : List Line). stepped_of s done step first t ++ r) (step-each s done step (first + 1) ts)

journal-each : (s : ScenarioContent) (steps : List Step) (first : ℕ) (ts : List CabinetState) → each_journal s first ts steps ≡ each (journal_of s steps) first ts
journal-each s steps first [] = refl
journal-each s steps first (t ∷ ts) = ap (λ (r : List Line). J first (runs_of (journal_by s first t steps)) ∷ r) (journal-each s steps (first + 1) ts)

notes-each : (s : ScenarioContent) (first : ℕ) (ts : List CabinetState) → notes_lines s first ts ≡ each (notes_of s) first ts
notes-each s first [] = refl
notes-each s first (t ∷ ts) = ap (λ (r : List Line). notes_of s first t ++ r) (notes-each s (first + 1) ts)

-- ---- what the lines of a round are

-- some lines as a part has them: those of the street, those of a cabinet's journal, and what else is reported of the
-- cabinet
pub record Seen (lines street journal told : List Line) (cab : ℕ) : Type 0 where
  pub of_street : filter is_of_street lines ≡ street
  pub of_journal : filter (is_journal_of cab) lines ≡ journal
  pub of_told : filter (is_told_of cab) lines ≡ told

seen-append : (cab : ℕ) (xs a b c ys d e f : List Line) → Seen xs a b c cab → Seen ys d e f cab → Seen (xs ++ ys) (a ++ d) (b ++ e) (c ++ f) cab
seen-append cab xs a b c ys d e f one two = record {
  of_street = filter-append is_of_street xs ys ∙ ap (λ (x : List Line). x ++ filter is_of_street ys) one.of_street ∙ ap (λ (x : List Line). a ++ x) two.of_street;
  of_journal = filter-append (is_journal_of cab) xs ys ∙ ap (λ (x : List Line). x ++ filter (is_journal_of cab) ys) one.of_journal ∙ ap (λ (x : List Line). b ++ x) two.of_journal;
  of_told = filter-append (is_told_of cab) xs ys ∙ ap (λ (x : List Line). x ++ filter (is_told_of cab) ys) one.of_told ∙ ap (λ (x : List Line). c ++ x) two.of_told;
}

-- lines of each cabinet about itself
told-seen : (lines : ℕ → CabinetState → List Line) → ((n : ℕ) (t : CabinetState) → AreToldOf n (lines n t)) → (cab : ℕ) (t : CabinetState) (ts : List CabinetState)
    → HasComeTo cab t 1 ts → Seen (each lines 1 ts) [] [] (lines cab t) cab
told-seen lines are cab t ts come = record {
  of_street = each-none is_of_street lines (λ n u. told-street n (lines n u) (are n u)) 1 ts;
  of_journal = each-none (is_journal_of cab) lines (λ n u. told-journal n cab (lines n u) (are n u)) 1 ts;
  of_told = each-found (is_told_of cab) lines cab (λ n u other. told-other n cab (lines n u) other (are n u)) t 1 ts come ∙ told-own cab (lines cab t) (are cab t);
}

steps-seen : (s : ScenarioContent) (cab : ℕ) (t : CabinetState) (ts : List CabinetState) (done steps : List Step) → HasComeTo cab t 1 ts
    → Seen (steps_lines s ts done steps) [] [] (acts_lines cab (history_by s cab t done) (steps_acts cab steps)) cab
steps-seen s cab t ts done [] come = record { of_street = refl; of_journal = refl; of_told = refl }
steps-seen s cab t ts done (step ∷ steps) come =
    let lines : ℕ → CabinetState → List Line = stepped_of s done step in
    let same : each_step s 1 ts done step ≡ each lines 1 ts = step-each s done step 1 ts in
    let one : Seen (each lines 1 ts) [] [] (lines cab t) cab =
    told-seen lines (λ n u. acts-told n (history_by s n u done) (step_acts n step)) cab t ts come in
    let rest : List Line = steps_lines s ts (done ++ step ∷ []) steps in
    let later : List Line = acts_lines cab (history_by s cab t (done ++ step ∷ [])) (steps_acts cab steps) in
    let both : Seen (each lines 1 ts ++ rest) [] [] (lines cab t ++ later) cab =
    seen-append cab (each lines 1 ts) [] [] (lines cab t) rest [] [] later one (steps-seen s cab t ts (done ++ step ∷ []) steps come) in
    let joined : lines cab t ++ later ≡ acts_lines cab (history_by s cab t done) (step_acts cab step ++ steps_acts cab steps) =
    ap (λ (h : CabinetHistory). lines cab t ++ acts_lines cab h (steps_acts cab steps)) (history-more s cab t done step)
    ∙ sym (lines-append cab (history_by s cab t done) (step_acts cab step) (steps_acts cab steps)) in
    record {
      of_street = ap (λ (x : List Line). filter is_of_street (x ++ rest)) same ∙ both.of_street;
      of_journal = ap (λ (x : List Line). filter (is_journal_of cab) (x ++ rest)) same ∙ both.of_journal;
      of_told = ap (λ (x : List Line). filter (is_told_of cab) (x ++ rest)) same ∙ both.of_told ∙ joined;
    }

notes-street : (notes : List MasterNote) → AllByRecursion (λ (x : Line). is_of_street x ≡ true) (map M notes)
notes-street [] = tt
notes-street (note ∷ notes) = (refl, notes-street notes)

notes-journal : (cab : ℕ) (notes : List MasterNote) → AllByRecursion (λ (x : Line). is_journal_of cab x ≡ false) (map M notes)
notes-journal cab [] = tt
notes-journal cab (note ∷ notes) = (refl, notes-journal cab notes)

notes-told : (cab : ℕ) (notes : List MasterNote) → AllByRecursion (λ (x : Line). is_told_of cab x ≡ false) (map M notes)
notes-told cab [] = tt
notes-told cab (note ∷ notes) = (refl, notes-told cab notes)

notes-part : (notes : List MasterNote) → InOnePart (map M notes)
notes-part [] = tt
notes-part (note ∷ notes) = (refl, notes-part notes)

notes-seen : (s : ScenarioContent) (cab : ℕ) (ts : List CabinetState) → Seen (each (notes_of s) 1 ts) (each (notes_of s) 1 ts) [] [] cab
notes-seen s cab ts = record {
  of_street = filter-all is_of_street (each (notes_of s) 1 ts)
      (each-all (λ (x : Line). is_of_street x ≡ true) (notes_of s) (λ n t. notes-street (noted s n t.cabinet t.answered)) 1 ts);
  of_journal = each-none (is_journal_of cab) (notes_of s) (λ n t. filter-none (is_journal_of cab) (notes_of s n t) (notes-journal cab (noted s n t.cabinet t.answered))) 1 ts;
  of_told = each-none (is_told_of cab) (notes_of s) (λ n t. filter-none (is_told_of cab) (notes_of s n t) (notes-told cab (noted s n t.cabinet t.answered))) 1 ts;
}

own-journal : (cab n : ℕ) (runs : List (ℕ × ℕ)) → n ≢ cab → filter (is_journal_of cab) (J n runs ∷ []) ≡ []
own-journal cab n runs other = let e : (n == cab) ≡ false = ne_eqb n cab other in rw e refl

journals-seen : (s : ScenarioContent) (steps : List Step) (cab : ℕ) (t : CabinetState) (ts : List CabinetState) → HasComeTo cab t 1 ts
    → Seen (each (journal_of s steps) 1 ts) [] (journal_of s steps cab t) [] cab
journals-seen s steps cab t ts come =
    let own : (cab == cab) ≡ true = eq-eqb cab cab refl in
    let kept : filter (is_journal_of cab) (journal_of s steps cab t) ≡ journal_of s steps cab t = rw own refl in
    record {
      of_street = each-none is_of_street (journal_of s steps) (λ n u. refl) 1 ts;
      of_journal = each-found (is_journal_of cab) (journal_of s steps) cab (λ n u other. own-journal cab n (runs_of (journal_by s n u steps)) other) t 1 ts come ∙ kept;
      of_told = each-none (is_told_of cab) (journal_of s steps) (λ n u. refl) 1 ts;
    }

-- ---- a round

-- what is reported in a round, except its number
abbrev pub body_lines : ScenarioContent → List CabinetState → List Step → List Line
body_lines s ts steps = (notes_lines s 1 ts ++ each_begin s 1 ts) ++ (steps_lines s ts [] steps ++ each_journal s 1 ts steps)

-- the same, cabinet by cabinet
abbrev body_each : ScenarioContent → List CabinetState → List Step → List Line
body_each s ts steps =
    (each (notes_of s) 1 ts ++ each (begun_of s) 1 ts) ++ (steps_lines s ts [] steps ++ each (journal_of s steps) 1 ts)

body-each : (s : ScenarioContent) (ts : List CabinetState) (steps : List Step) → body_lines s ts steps ≡ body_each s ts steps
body-each s ts steps =
    let behind : List Line = steps_lines s ts [] steps ++ each_journal s 1 ts steps in
    ap (λ (x : List Line). (x ++ each_begin s 1 ts) ++ behind) (notes-each s 1 ts)
    ∙ ap (λ (x : List Line). (each (notes_of s) 1 ts ++ x) ++ behind) (begin-each s 1 ts)
    ∙ ap (λ (x : List Line). (each (notes_of s) 1 ts ++ each (begun_of s) 1 ts) ++ (steps_lines s ts [] steps ++ x)) (journal-each s steps 1 ts)

told-by-acts : (s : ScenarioContent) (cab : ℕ) (t : CabinetState) (steps : List Step)
    → begun_of s cab t ++ acts_lines cab (history_by s cab t []) (steps_acts cab steps) ≡ acts_lines cab t.cabinet_history (session_acts s cab t steps)
told-by-acts s cab t steps =
    ap (λ (x : List Act). begun_of s cab t ++ acts_lines cab (after t.cabinet_history (items_in x)) (steps_acts cab steps)) (append-nil (begin_acts s cab t))
    ∙ sym (lines-append cab t.cabinet_history (begin_acts s cab t) (steps_acts cab steps))

-- what a cabinet says in a round
abbrev told_of : ScenarioContent → List Step → ℕ → CabinetState → List Line
told_of s steps n t = acts_lines n t.cabinet_history (session_acts s n t steps)

body-seen : (s : ScenarioContent) (cab : ℕ) (t : CabinetState) (ts : List CabinetState) (steps : List Step) → HasComeTo cab t 1 ts
    → Seen (body_each s ts steps) (each (notes_of s) 1 ts ++ []) (journal_of s steps cab t) (told_of s steps cab t) cab
body-seen s cab t ts steps come =
    let front : Seen (each (notes_of s) 1 ts ++ each (begun_of s) 1 ts) (each (notes_of s) 1 ts ++ []) [] (begun_of s cab t) cab =
    seen-append cab (each (notes_of s) 1 ts) (each (notes_of s) 1 ts) [] [] (each (begun_of s) 1 ts) [] [] (begun_of s cab t) (notes-seen s cab ts)
    (told-seen (begun_of s) (λ n u. acts-told n u.cabinet_history (begin_acts s n u)) cab t ts come) in
    let stepped : List Line = acts_lines cab (history_by s cab t []) (steps_acts cab steps) in
    let back : Seen (steps_lines s ts [] steps ++ each (journal_of s steps) 1 ts) [] (journal_of s steps cab t) (stepped ++ []) cab =
    seen-append cab (steps_lines s ts [] steps) [] [] stepped (each (journal_of s steps) 1 ts) [] (journal_of s steps cab t) [] (steps-seen s cab t ts [] steps come)
    (journals-seen s steps cab t ts come) in
    let both : Seen (body_each s ts steps) ((each (notes_of s) 1 ts ++ []) ++ []) (journal_of s steps cab t) (begun_of s cab t ++ (stepped ++ [])) cab =
    seen-append cab (each (notes_of s) 1 ts ++ each (begun_of s) 1 ts) (each (notes_of s) 1 ts ++ []) [] (begun_of s cab t)
    (steps_lines s ts [] steps ++ each (journal_of s steps) 1 ts) [] (journal_of s steps cab t) (stepped ++ []) front back in
    record {
      of_street = both.of_street ∙ append-nil (each (notes_of s) 1 ts ++ []);
      of_journal = both.of_journal;
      of_told = both.of_told ∙ ap (λ (x : List Line). begun_of s cab t ++ x) (append-nil stepped) ∙ told-by-acts s cab t steps;
    }

-- the lines of a body that are of the street
steps-street : (s : ScenarioContent) (ts : List CabinetState) (done steps : List Step) → filter is_of_street (steps_lines s ts done steps) ≡ []
steps-street s ts done [] = refl
steps-street s ts done (step ∷ steps) =
    let lines : ℕ → CabinetState → List Line = stepped_of s done step in
    filter-append is_of_street (each_step s 1 ts done step) (steps_lines s ts (done ++ step ∷ []) steps)
    ∙ ap (λ (x : List Line). filter is_of_street x ++ filter is_of_street (steps_lines s ts (done ++ step ∷ []) steps)) (step-each s done step 1 ts)
    ∙ ap (λ (x : List Line). x ++ filter is_of_street (steps_lines s ts (done ++ step ∷ []) steps))
    (each-none is_of_street lines (λ n u. told-street n (lines n u) (acts-told n (history_by s n u done) (step_acts n step))) 1 ts)
    ∙ steps-street s ts (done ++ step ∷ []) steps

body-street : (s : ScenarioContent) (ts : List CabinetState) (steps : List Step) → filter is_of_street (body_each s ts steps) ≡ notes_lines s 1 ts
body-street s ts steps =
    let notes : List Line = each (notes_of s) 1 ts in
    let begun : List Line = each (begun_of s) 1 ts in
    let stepped : List Line = steps_lines s ts [] steps in
    let journals : List Line = each (journal_of s steps) 1 ts in
    filter-append is_of_street (notes ++ begun) (stepped ++ journals)
    ∙ ap (λ (x : List Line). x ++ filter is_of_street (stepped ++ journals)) (filter-append is_of_street notes begun)
    ∙ ap (λ (x : List Line). (filter is_of_street notes ++ x) ++ filter is_of_street (stepped ++ journals))
    (each-none is_of_street (begun_of s) (λ n u. told-street n (begun_of s n u) (acts-told n u.cabinet_history (begin_acts s n u))) 1 ts)
    ∙ ap (λ (x : List Line). (filter is_of_street notes ++ []) ++ x) (filter-append is_of_street stepped journals
    ∙ ap (λ (x : List Line). x ++ filter is_of_street journals) (steps-street s ts [] steps)
    ∙ each-none is_of_street (journal_of s steps) (λ n u. refl) 1 ts)
    ∙ append-nil (filter is_of_street notes ++ [])
    ∙ append-nil (filter is_of_street notes)
    ∙ filter-all is_of_street notes (each-all (λ (x : Line). is_of_street x ≡ true) (notes_of s) (λ n t. notes-street (noted s n t.cabinet t.answered)) 1 ts)
    ∙ sym (notes-each s 1 ts)

told-each : (s : ScenarioContent) (steps : List Step) (first : ℕ) (ts : List CabinetState)
    → each (λ n t. journal_of s steps n t ++ told_of s steps n t) first ts ≡ each_told s first ts steps
told-each s steps first [] = refl
told-each s steps first (t ∷ ts) = ap (λ (r : List Line). (journal_of s steps first t ++ told_of s steps first t) ++ r) (told-each s steps (first + 1) ts)

-- a whole round in the order of a trace
pub round-ordered : (s : ScenarioContent) (round : ℕ) (ts : List CabinetState) (steps : List Step)
    → part_in_order (length ts) (R round ∷ body_lines s ts steps) ≡ round_told s round ts steps
round-ordered s round ts steps =
    let part : List Line = R round ∷ body_each s ts steps in
    let has : (cab : ℕ) (t : CabinetState) → HasComeTo cab t 1 ts → HasOf part (journal_of s steps cab t) (told_of s steps cab t) cab =
    λ cab t come. let seen = body-seen s cab t ts steps come in record { of_journal = seen.of_journal; of_told = seen.of_told } in
    ap (λ (x : List Line). part_in_order (length ts) (R round ∷ x)) (body-each s ts steps)
    ∙ ap (λ (x : List Line). (R round ∷ x) ++ cabinets_in_order 1 (length ts) part) (body-street s ts steps)
    ∙ ap (λ (x : List Line). head_lines s round ts ++ x) (cabinets-ordered part (journal_of s steps) (told_of s steps) 1 ts has ∙ told-each s steps 1 ts)

-- ---- one part

told-part : (cab : ℕ) (lines : List Line) → AreToldOf cab lines → InOnePart lines
told-part cab lines are = all-map (IsToldOf cab) (λ (x : Line). begins_part x ≡ false) (λ x is. is.part) lines are

steps-part : (s : ScenarioContent) (ts : List CabinetState) (done steps : List Step) → InOnePart (steps_lines s ts done steps)
steps-part s ts done [] = tt
steps-part s ts done (step ∷ steps) =
    let lines : ℕ → CabinetState → List Line = stepped_of s done step in
    let one : InOnePart (each lines 1 ts) =
    each-all (λ (x : Line). begins_part x ≡ false) lines (λ n u. told-part n (lines n u) (acts-told n (history_by s n u done) (step_acts n step))) 1 ts in
    let own : InOnePart (each_step s 1 ts done step) = subst InOnePart (sym (step-each s done step 1 ts)) one in
    all-append (λ (x : Line). begins_part x ≡ false) (each_step s 1 ts done step) (steps_lines s ts (done ++ step ∷ []) steps) own (steps-part s ts (done ++ step ∷ []) steps)

pub body-part : (s : ScenarioContent) (ts : List CabinetState) (steps : List Step) → InOnePart (body_lines s ts steps)
body-part s ts steps =
    let P : Line → Type 0 = λ x. begins_part x ≡ false in
    let notes : List Line = each (notes_of s) 1 ts in
    let begun : List Line = each (begun_of s) 1 ts in
    let stepped : List Line = steps_lines s ts [] steps in
    let journals : List Line = each (journal_of s steps) 1 ts in
    let all : InOnePart (body_each s ts steps) =
    all-append P (notes ++ begun) (stepped ++ journals)
    (all-append P notes begun (each-all P (notes_of s) (λ n u. notes-part (noted s n u.cabinet u.answered)) 1 ts)
    (each-all P (begun_of s) (λ n u. told-part n (begun_of s n u) (acts-told n u.cabinet_history (begin_acts s n u))) 1 ts))
    (all-append P stepped journals (steps-part s ts [] steps) (each-all P (journal_of s steps) (λ n u. (refl, tt)) 1 ts)) in
    subst InOnePart (sym (body-each s ts steps)) all

-- ---- before the first round

abbrev shown_of : ℕ → CabinetState → List Line
shown_of n t = shown_line n 0 (last_frame_of (history_of t.cabinet_history)) ∷ []

shown-told : (n : ℕ) (t : CabinetState) → AreToldOf n (shown_of n t)
shown-told n t = (record { street = refl; journal = λ m. refl; told = λ m. refl; part = refl }, tt)

shown-each : (first : ℕ) (ts : List CabinetState) → opening_lines first ts ≡ each shown_of first ts
shown-each first [] = refl
shown-each first (t ∷ ts) = ap (λ (r : List Line). shown_of first t ++ r) (shown-each (first + 1) ts)

pub opening-part : (ts : List CabinetState) → InOnePart (opening_lines 1 ts)
opening-part ts =
    subst InOnePart (sym (shown-each 1 ts)) (each-all (λ (x : Line). begins_part x ≡ false) shown_of (λ n u. (refl, tt)) 1 ts)

pub opening-ordered : (ts : List CabinetState) → part_in_order (length ts) (opening_lines 1 ts) ≡ opening_lines 1 ts
opening-ordered ts =
    let part : List Line = each shown_of 1 ts in
    let has : (cab : ℕ) (t : CabinetState) → HasComeTo cab t 1 ts → HasOf part [] (shown_of cab t) cab =
    λ cab t come. let seen = told-seen shown_of shown-told cab t ts come in record { of_journal = seen.of_journal; of_told = seen.of_told } in
    ap (part_in_order (length ts)) (shown-each 1 ts)
    ∙ ap (λ (x : List Line). x ++ cabinets_in_order 1 (length ts) part) (each-none is_of_street shown_of (λ n u. told-street n (shown_of n u) (shown-told n u)) 1 ts)
    ∙ cabinets-ordered part (λ n t. []) shown_of 1 ts has
    ∙ sym (shown-each 1 ts)
