-- The text of a run has one list of lines, by which all is kept.
use Rattle.std.proofs.Common.{◌≡◌, ℕ, List, refl, sym, subst}
use Rattle.trace_text.specs.declared.lines.Line.{Line}
use Rattle.safety_laws.specs.TraceText.{AreLines, lines_text}
use Rattle.scenario_data.specs.Content.{ScenarioContent}
use Rattle.run_definition.specs.Lines.{run_lines, run_text}
use Rattle.run_definition.specs.Safe.{AllKept}
use Rattle.trace_laws.specs.Text.{TellsAllKept}
use Rattle.trace_laws.proofs.SameTexts.{same_lines}

pub text_tells : (s : ScenarioContent) (journals : List (List (List ℕ))) → AreLines (run_lines s journals) → AllKept s journals (run_lines s journals)
    → TellsAllKept s journals (run_text s journals)
text_tells s journals proper kept = record {
  lines = run_lines s journals;
  its = record {
    proper = proper;
    written = refl;
    only = λ others are e. same_lines others (run_lines s journals) are proper (sym e);
  };
  kept = kept;
}

pub any_tell : (s : ScenarioContent) (journals : List (List (List ℕ))) → AreLines (run_lines s journals) → AllKept s journals (run_lines s journals)
    → (lines : List Line) → AreLines lines → lines_text lines ≡ run_text s journals → AllKept s journals lines
any_tell s journals proper kept lines are e =
    subst (AllKept s journals) (sym (same_lines lines (run_lines s journals) are proper e)) kept
