-- A judge finds nothing in the lines of a run.
use Rattle.std.proofs.Common.{◌≡◌, ◌∙◌, if◌then◌else◌, ℕ, Bool, true, false, List, [], ◌∷◌, ◌++◌, refl, sym, ap, subst, inl, inr, map, reverse, append_assoc, append-nil}
use Rattle.std.proofs.lemmas.List.{reverse-reverse}
use Rattle.trace_text.specs.Line.{line_text}
use Rattle.trace_text.specs.declared.lines.Line.{Line}
use Rattle.trace_text.specs.declared.lines.Line.TheVariants.{S, F, R, M, J, L, A, Z}
use Rattle.safety_laws.specs.Safe.{Indications, told}
use Rattle.safety_laws.specs.TraceText.{AreLines}
use Rattle.scenario_data.specs.Content.{ScenarioContent}
use Rattle.runnable.specs.Runnable.{Runnable}
use Rattle.run_definition.specs.Lines.{rest_lines, run_lines}
use Rattle.run_definition.specs.Orders.{AreJournals}
use Rattle.run_definition.specs.Safe.{AllKept}
use Rattle.judge_laws.specs.Breaches.{exact, line_breaches}
use Rattle.judge_laws.proofs.Tests.{none-append}
use Rattle.judge_laws.proofs.Parts.{AllFine}
use Rattle.judge_laws.proofs.Findings.{fine-none}
use Rattle.judge_session.specs.Told.{is_known, tables_before}
use Rattle.judge_session.specs.Log.{Follow}
use Rattle.judge_session.specs.Report.{line_found, log_found}
use Rattle.trace_laws.specs.Laws.{TellsOfRun}
use Rattle.judged_runs.specs.Faultless.{read_lines, IsAcceptedLog, IsFaultless, TraceIsFaultless}
use Rattle.judged_runs.proofs.Others.{is-cabinet}
use Rattle.judged_runs.proofs.Shown.{whole-back}
use Rattle.judged_runs.proofs.Following.{IsInOrder, cabinet-has, follows, own-frame}
use Rattle.judged_runs.proofs.NoScenario.{rest-none}
use Rattle.judged_runs.proofs.Reading.{AreTaken, is_read, read, lines-judged, known-read, follow-read, found-read, bytes-read, lines-read, lines-reversed, read-same, filter-reverse}
use Rattle.judged_runs.proofs.Judging.{rises, none-back, none-ids, whole-lines, known-fine, knows, shows-none}

-- ---- what each line shows

-- the older lines of each cabinet are fine where its tables are known
abbrev FineBefore : ScenarioContent → List Line → Type 0
FineBefore s back = (cab : ℕ) (newer before : List Line) → newer ++ before ≡ back → is_known s cab before ≡ true → AllFine (tables_before s before cab) (told cab before)

module _ (s : ScenarioContent) (back : List Line) (fine : FineBefore s back) where
  one-more : (line : Line) (before newer : List Line) → newer ++ line ∷ before ≡ back → (newer ++ line ∷ []) ++ before ≡ back
  one-more line before newer e = append_assoc newer (line ∷ []) before ∙ e

  none-found : (before newer : List Line) → newer ++ before ≡ back → log_found s exact before ≡ []
  none-found [] newer e = refl
  none-found (F c tick veh ped mode counter target version ∷ before) newer e =
      none-append (log_found s exact before) (line_found s exact before line) (none-found before (newer ++ line ∷ []) (one-more line before newer e))
      (split (is_known s c before) refl)
    where
      line : Line
      line = F c tick veh ped mode counter target version

      shown : ℕ × Indications
      shown = (tick, record { colours = veh; signals = ped; mode = mode; version = version })

      split : (b : Bool) → is_known s c before ≡ b → (if b then line_breaches exact (tables_before s before) before line else []) ≡ []
      split true known =
          let all : AllFine (tables_before s before c) (shown ∷ told c before)
          = own-frame (AllFine (tables_before s before c)) c shown (told c before) (fine c newer (line ∷ before) e known) in
          fine-none (tables_before s before c) c (told c before) shown all.1
      split false unknown = refl
  none-found (L c id result ∷ before) newer e =
      none-append (log_found s exact before) [] (none-found before (newer ++ L c id result ∷ []) (one-more (L c id result) before newer e)) refl
  none-found (S json ∷ before) newer e = none-append (log_found s exact before) [] (none-found before (newer ++ S json ∷ []) (one-more (S json) before newer e)) refl
  none-found (R round ∷ before) newer e = none-append (log_found s exact before) [] (none-found before (newer ++ R round ∷ []) (one-more (R round) before newer e)) refl
  none-found (M note ∷ before) newer e = none-append (log_found s exact before) [] (none-found before (newer ++ M note ∷ []) (one-more (M note) before newer e)) refl
  none-found (J c runs ∷ before) newer e = none-append (log_found s exact before) [] (none-found before (newer ++ J c runs ∷ []) (one-more (J c runs) before newer e)) refl
  none-found (A c pass reply ∷ before) newer e =
      none-append (log_found s exact before) [] (none-found before (newer ++ A c pass reply ∷ []) (one-more (A c pass reply) before newer e)) refl
  none-found (Z rounds ∷ before) newer e = none-append (log_found s exact before) [] (none-found before (newer ++ Z rounds ∷ []) (one-more (Z rounds) before newer e)) refl

-- ---- the run

in-order : (s : ScenarioContent) (journals : List (List (List ℕ))) → AreJournals s journals → AllKept s journals (run_lines s journals)
    → IsInOrder s (reverse (run_lines s journals))
in-order s journals are kept = record {
  falls = rises s journals are;
  whole = λ cab. whole-back cab (run_lines s journals) (whole-lines s journals are kept cab) (reverse (run_lines s journals)) []
      (append-nil (reverse (reverse (run_lines s journals))) ∙ reverse-reverse (run_lines s journals));
  shown = λ cab some. elim (is-cabinet s cab) [
    | inl found ↦ cabinet-has s cab found.0 found.1
    | inr none ↦ absurd (some (none-back s journals are cab none))
  ];
  loaded = λ cab some. elim (is-cabinet s cab) [
    | inl found ↦ cabinet-has s cab found.0 found.1
    | inr none ↦ absurd (some (none-ids s journals are cab none))
  ];
}

-- what is read of the lines with the newest first
read-back : (s : ScenarioContent) (journals : List (List (List ℕ))) → read (reverse (run_lines s journals)) ≡ reverse (read_lines (rest_lines s journals))
read-back s journals = filter-reverse is_read (run_lines s journals) ∙ ap reverse (read-same (rest_lines s journals) (rest-none s journals))

accepted : (s : ScenarioContent) (journals : List (List (List ℕ))) → AreJournals s journals → AllKept s journals (run_lines s journals) → AreLines (run_lines s journals)
    → IsAcceptedLog s journals (rest_lines s journals)
accepted s journals are kept proper =
    let back : List Line = reverse (run_lines s journals) in
    let rest : List Line = rest_lines s journals in
    let judged : AreTaken back = lines-judged back (lines-reversed (run_lines s journals) proper) in
    let is : read back ≡ reverse (read_lines rest) = read-back s journals in
    record {
      log = λ bytes e. record {
        texts = bytes-read bytes rest e ∙ ap (map line_text) (sym (reverse-reverse (read_lines rest)));
        are = lines-reversed (read_lines rest) (lines-read rest proper.1);
        follow = subst (Follow s) is (follow-read s back judged (follows s back (in-order s journals are kept)));
      };
      none = λ own. ap (log_found s exact) (sym is) ∙ found-read s exact back judged ∙ none-found s back (known-fine s journals are kept own) back [] refl;
      known = λ all cab. ap (is_known s cab) (sym is) ∙ known-read s cab back judged ∙ knows s journals are kept all cab;
    }

pub faultless : (s : ScenarioContent) (journals : List (List (List ℕ))) → AreJournals s journals → AllKept s journals (run_lines s journals) → AreLines (run_lines s journals)
    → IsFaultless s journals (run_lines s journals)
faultless s journals are kept proper = record {
  rest = rest_lines s journals;
  first = refl;
  log = accepted s journals are kept proper;
  rising = rises s journals are;
  whole = whole-lines s journals are kept;
  all = shows-none s journals are kept;
}

pub trace-faultless : (text : List ℕ) → TellsOfRun text
    → ((s : ScenarioContent) → Runnable s → (journals : List (List (List ℕ))) → AreJournals s journals → IsFaultless s journals (run_lines s journals))
    → ((s : ScenarioContent) → Runnable s → (journals : List (List (List ℕ))) → AreJournals s journals → AreLines (run_lines s journals))
    → TraceIsFaultless text
trace-faultless text t found proper =
    let same : run_lines t.scenario t.journals ≡ t.kept.lines
    = t.kept.its.only (run_lines t.scenario t.journals) (proper t.scenario t.runs t.journals t.are) t.text_is in
    record {
      scenario = t.scenario;
      journals = t.journals;
      told = t.told;
      are = t.are;
      text_is = t.text_is;
      lines = t.kept.lines;
      its = t.kept.its;
      faultless = subst (IsFaultless t.scenario t.journals) same (found t.scenario t.runs t.journals t.are);
    }
