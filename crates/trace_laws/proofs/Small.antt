-- The faults of small texts, by the script of the smallest run.
use Rattle.std.proofs.Common.{◌≡◌, ◌≢◌, ◌<◌, ◌+◌, ◌∙◌, ℕ, zero, suc, List, [], ◌∷◌, ◌++◌, length, replicate, get_or, codes, decimal, lit<, refl, ap, subst, arith}
use Rattle.std.proofs.lemmas.Fmt.{decimal_digit}
use Rattle.sig_types.specs.declared.frame.Colour.{Colour}
use Rattle.sig_types.specs.declared.frame.Colour.TheVariants.{Green, Red}
use Rattle.sig_types.specs.declared.frame.Ped.TheVariants.{Dont}
use Rattle.sig_types.specs.declared.frame.Mode.TheVariants.{Start}
use Rattle.trace_text.specs.declared.lines.Line.{Line}
use Rattle.trace_text.specs.declared.lines.Line.TheVariants.{F, R, J, Z}
use Rattle.trace_text.specs.Line.{line_text}
use Rattle.trace_text.specs.IsLine.{IsLine, FitsRuns}
use Rattle.trace_text.specs.Texts.{colour_letter, colours_text}
use Rattle.trace_text.specs.Words.{Lacks}
use Rattle.trace_text.proofs.Cuts.{held}
use Rattle.safety_laws.specs.TraceText.{lines_text}
use Rattle.scenario_data.specs.declared.scenario.Base.TheVariants.{Std8}
use Rattle.scenario_data.specs.Content.{CabinetContent}
use Rattle.cabinet_history.specs.Journals.{IsMerge, runs_of}
use Rattle.run_definition.specs.Smallest.{smallest}
use Rattle.run_definition.specs.CabinetState.{CabinetState, opened_cabinet_state, opened_cabinet_states, coming_streams}
use Rattle.run_definition.specs.Lines.{head_lines}
use Rattle.run_definition.proofs.Merges.{serial-merge}
use Rattle.trace_laws.proofs.SameLines.{front, front_ended}
use Rattle.trace_laws.specs.Faults.{IsNoLine, FaultOf}
use Rattle.trace_laws.specs.Script.{Script, Ends, Says, say, Goes, Stops, Lacking, Beyond, Unread, Other, cabinets_script, rounds_script, script_of}
use Rattle.trace_laws.specs.Small.{ended, dark, small_lines, IsBehindFirst}
use Rattle.trace_laws.proofs.Journals.{journal-refused}
use Rattle.trace_laws.proofs.Paths.{says-goes-on}
use Rattle.trace_laws.proofs.Runs.{path-is-run}
use Rattle.trace_laws.proofs.Faults.{fault-of}
use Rattle.trace_laws.proofs.Texts.{lines-tell}

-- bytes without a newline are not a line
unended-no-line : (bytes : List ℕ) → Lacks 10 bytes → IsNoLine bytes
unended-no-line bytes lacks line is e =
    held 10 (front line) [] (subst (λ (x : List ℕ). Lacks 10 x) (e ∙ front_ended line) lacks)

-- a number that distinguishes the lines below
abbrev mark : Line → ℕ
mark (F cab tick veh ped mode counter target version) = colour_letter (get_or veh 0 Red)
mark (R round) = 100 + round
mark (J cab runs) = 200 + cab
mark (Z rounds) = 300 + rounds
mark _ = 0

differs : (a b : Line) → mark a ≢ mark b → a ≢ b
differs a b other e = other (ap mark e)

-- the line before any tick, and one with another colour
abbrev first_line : Line
first_line = F 1 0 (replicate 16 Red) (replicate 16 Dont) Start 0 0 0

abbrev green_line : Line
green_line = F 1 0 (Green ∷ replicate 15 Red) (replicate 16 Dont) Start 0 0 0

-- a journal of one run
abbrev journal_line : ℕ → ℕ → ℕ → Line
journal_line cab pass n = J cab ((pass, n) ∷ [])

-- their texts
digit : (n : ℕ) → n < 10 → decimal n ≡ (48 + n) ∷ []
digit n few = decimal_digit n few

frame-text : (veh : List Colour) → line_text (F 1 0 veh (replicate 16 Dont) Start 0 0 0) ≡ codes "F 1 0 " ++ (colours_text veh ++ codes " DDDDDDDDDDDDDDDD S 0 0 0\n")
unfolding line_text
frame-text veh = rw (digit 1 (lit< tt)) (rw (digit 0 (lit< tt)) refl)

round-text : (n : ℕ) → n < 10 → line_text (R n) ≡ codes "R " ++ (48 + n) ∷ 10 ∷ []
unfolding line_text
round-text n few = rw (digit n few) refl

end-text : (n : ℕ) → n < 10 → line_text (Z n) ≡ codes "Z " ++ (48 + n) ∷ 10 ∷ []
unfolding line_text
end-text n few = rw (digit n few) refl

journal-text : (cab pass n : ℕ) → cab < 10 → pass < 10 → n < 10 → line_text (journal_line cab pass n) ≡ codes "J " ++ (48 + cab) ∷ 32 ∷ (48 + pass) ∷ 42 ∷ (48 + n) ∷ 10 ∷ []
unfolding line_text
journal-text cab pass n few low small = rw (digit cab few) (rw (digit pass low) (rw (digit n small) refl))

-- the lines of the run have these texts
first-text : line_text first_line ≡ dark ++ 10 ∷ []
first-text = frame-text (replicate 16 Red)

one-round : line_text (R 1) ≡ codes "R 1\n"
one-round = round-text 1 (lit< tt)

one-journal : line_text (journal_line 1 4 1) ≡ codes "J 1 4*1\n"
one-journal = journal-text 1 4 1 (lit< tt) (lit< tt) (lit< tt)

one-end : line_text (Z 1) ≡ codes "Z 1\n"
one-end = end-text 1 (lit< tt)

-- what the cabinet has reached at first
abbrev came : List CabinetState
came = opened_cabinet_states smallest smallest.cabinets

-- the places of the script after the first line, after the second, and after the journal
abbrev at_round : Script
at_round = say (head_lines smallest 1 came) (cabinets_script smallest 1 [] came (rounds_script smallest 2 0))

abbrev at_journal : Script
at_journal = cabinets_script smallest 1 [] came (rounds_script smallest 2 0)

abbrev at_end : Script
at_end = Says (Z 1) Ends

shown : Goes (script_of smallest) (first_line ∷ []) at_round
unfolding smallest
shown = (refl, refl)

begun : Goes (script_of smallest) (first_line ∷ R 1 ∷ []) at_journal
unfolding smallest
begun = (refl, (refl, refl))

-- the tick is all that arrives at the cabinet
abbrev cabinet : CabinetContent
cabinet = record { base = Std8; cells = []; pattern = 0; clock = 0; section = 0; gain = 0; lose = 0 }

merged : IsMerge (coming_streams smallest 1 (opened_cabinet_state smallest cabinet)) (4 ∷ [])
unfolding smallest
merged = serial-merge (coming_streams smallest 1 (opened_cabinet_state smallest cabinet))

ran : Goes (script_of smallest) (first_line ∷ R 1 ∷ journal_line 1 4 1 ∷ []) at_end
unfolding smallest
ran = (refl, (refl, (4 ∷ [], refl, merged, refl)))

ended_well : Goes (script_of smallest) (first_line ∷ R 1 ∷ journal_line 1 4 1 ∷ Z 1 ∷ []) Ends
unfolding smallest
ended_well = (refl, (refl, (4 ∷ [], refl, merged, (refl, refl))))

-- the lines are lines of a trace
first_is : IsLine first_line
first_is = (tt, (omega arith, omega arith, refl, refl, tt, omega arith, omega arith, omega arith))

green_is : IsLine green_line
green_is = (tt, (omega arith, omega arith, refl, refl, tt, omega arith, omega arith, omega arith))

one-run : (cab pass n : ℕ) → cab < 100 → pass < 100 → 0 < n → n < 100 → IsLine (journal_line cab pass n)
one-run cab pass n few low some small = (
  record { some = omega arith; full = full; apart = λ k less. absurd (omega (arith, less)) },
  (omega (arith, few), fits),
)
  where
    full : (k : ℕ) → k < 1 → 0 < (get_or {A = ℕ × ℕ} ((pass, n) ∷ []) k (0, 0)).1
    full zero less = some
    full (suc k) less = absurd (omega (arith, less))

    fits : FitsRuns ((pass, n) ∷ [])
    fits zero less = (omega (arith, low), omega (arith, small))
    fits (suc k) less = absurd (omega (arith, less))

-- ---- the run, and what departs from it

pub whole : IsBehindFirst smallest (ended (small_lines ++ codes "Z 1" ∷ []))
whole = (first_line ∷ R 1 ∷ journal_line 1 4 1 ∷ Z 1 ∷ [], path-is-run smallest _ ended_well, rw (first-text, one-round, one-journal, one-end) refl)

-- the text leaves the script after some lines
leaves : (text : List ℕ) (before : List Line) (left : List ℕ) (mid : Script) (rule : ℕ) → text ≡ lines_text before ++ left → Goes (script_of smallest) before mid → Stops mid left rule
    → FaultOf smallest text (length before) rule
leaves text before left mid rule is go stops =
    fault-of smallest text (length before) rule (record { before = before; left = left; split = is; place = refl; mid = mid; goes = go; stops = stops })

pub nothing : FaultOf smallest [] 0 10
unfolding smallest
nothing = leaves [] [] [] (script_of smallest) 10 refl refl (Lacking (says-goes-on _ _))

pub colour : FaultOf smallest (ended (codes "F 1 0 GRRRRRRRRRRRRRRR DDDDDDDDDDDDDDDD S 0 0 0" ∷ [])) 0 6
unfolding smallest
colour = leaves _ [] (line_text green_line ++ []) (script_of smallest) 6 (rw (frame-text (Green ∷ replicate 15 Red)) refl) refl (Other green_line [] 6 green_is ((λ e. differs green_line first_line (λ f. omega (arith, f)) e), refl))

pub kind : FaultOf smallest (ended (codes "R 1" ∷ [])) 0 4
unfolding smallest
kind = leaves _ [] (line_text (R 1) ++ []) (script_of smallest) 4 (rw one-round refl) refl (Other (R 1) [] 4 (tt, omega arith) ((λ e. differs (R 1) first_line (λ f. omega (arith, f)) e), refl))

pub round : FaultOf smallest (ended (dark ∷ codes "R 2" ∷ [])) 1 4
unfolding smallest
round = leaves _ (first_line ∷ []) (line_text (R 2) ++ []) at_round 4 (rw (first-text, round-text 2 (lit< tt)) refl) shown (Other (R 2) [] 4 (tt, omega arith) ((λ e. differs (R 2) (R 1) (λ f. omega (arith, f)) e), refl))

pub too-many : FaultOf smallest (ended (dark ∷ codes "R 1" ∷ codes "J 1 4*2" ∷ [])) 2 5
unfolding smallest
too-many = leaves _ (first_line ∷ R 1 ∷ []) (line_text (journal_line 1 4 2) ++ []) at_journal 5
    (rw (first-text, one-round, journal-text 1 4 2 (lit< tt) (lit< tt) (lit< tt)) refl) begun
    (Other (journal_line 1 4 2) [] 5 (one-run 1 4 2 (omega arith) (omega arith) (omega arith) (omega arith)) (journal-refused 1 (coming_streams smallest 1 (opened_cabinet_state smallest cabinet)) (λ (j : List ℕ). Ends) ((4, 2) ∷ []) (λ all. omega (arith, all 4))))

pub no-such-pass : FaultOf smallest (ended (dark ∷ codes "R 1" ∷ codes "J 1 5*1" ∷ [])) 2 5
unfolding smallest
no-such-pass = leaves _ (first_line ∷ R 1 ∷ []) (line_text (journal_line 1 5 1) ++ []) at_journal 5
    (rw (first-text, one-round, journal-text 1 5 1 (lit< tt) (lit< tt) (lit< tt)) refl) begun
    (Other (journal_line 1 5 1) [] 5 (one-run 1 5 1 (omega arith) (omega arith) (omega arith) (omega arith)) (journal-refused 1 (coming_streams smallest 1 (opened_cabinet_state smallest cabinet)) (λ (j : List ℕ). Ends) ((5, 1) ∷ []) (λ all. omega (arith, all 5))))

pub other-cabinet : FaultOf smallest (ended (dark ∷ codes "R 1" ∷ codes "J 2 4*1" ∷ [])) 2 4
unfolding smallest
other-cabinet = leaves _ (first_line ∷ R 1 ∷ []) (line_text (journal_line 2 4 1) ++ []) at_journal 4
    (rw (first-text, one-round, journal-text 2 4 1 (lit< tt) (lit< tt) (lit< tt)) refl) begun
    (Other (journal_line 2 4 1) [] 4 (one-run 2 4 1 (omega arith) (omega arith) (omega arith) (omega arith))
    ((λ journal e merge. differs (journal_line 2 4 1) (J 1 (runs_of journal)) (λ f. omega (arith, f)) e), refl))

-- three bytes without a newline
three-lack : (a b c : ℕ) → a ≢ 10 → b ≢ 10 → c ≢ 10 → Lacks 10 (a ∷ b ∷ c ∷ [])
three-lack a b c first second third zero less = first
three-lack a b c first second third (suc zero) less = second
three-lack a b c first second third (suc (suc zero)) less = third
three-lack a b c first second third (suc (suc (suc k))) less = absurd (omega (arith, less))

pub cut-off : FaultOf smallest (ended small_lines ++ codes "Z 1") 3 2
unfolding smallest
cut-off = leaves _ (first_line ∷ R 1 ∷ journal_line 1 4 1 ∷ []) (codes "Z 1") at_end 2 (rw (first-text, one-round, one-journal) refl) ran
    (Unread (codes "Z 1") (says-goes-on _ _) (λ e. omega (arith, ap length e))
    (unended-no-line (codes "Z 1") (three-lack 90 32 49 (λ e. omega (arith, e)) (λ e. omega (arith, e)) (λ e. omega (arith, e)))))

pub short : FaultOf smallest (ended small_lines) 3 10
unfolding smallest
short = leaves _ (first_line ∷ R 1 ∷ journal_line 1 4 1 ∷ []) [] at_end 10 (rw (first-text, one-round, one-journal) refl) ran (Lacking (says-goes-on _ _))

pub other-end : FaultOf smallest (ended (small_lines ++ codes "Z 2" ∷ [])) 3 4
unfolding smallest
other-end = leaves _ (first_line ∷ R 1 ∷ journal_line 1 4 1 ∷ []) (line_text (Z 2) ++ []) at_end 4 (rw (first-text, one-round, one-journal, end-text 2 (lit< tt)) refl) ran
    (Other (Z 2) [] 4 (tt, omega arith) ((λ e. differs (Z 2) (Z 1) (λ f. omega (arith, f)) e), refl))

pub behind : FaultOf smallest (ended (small_lines ++ codes "Z 1" ∷ codes "Z 1" ∷ [])) 4 11
unfolding smallest
behind = leaves _ (first_line ∷ R 1 ∷ journal_line 1 4 1 ∷ Z 1 ∷ []) (line_text (Z 1) ++ []) Ends 11 (rw (first-text, one-round, one-journal, one-end) refl) ended_well
    (Beyond (line_text (Z 1) ++ []) refl (lines-tell.some (Z 1) [] (tt, omega arith)))
