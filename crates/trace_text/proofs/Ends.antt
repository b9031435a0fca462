-- A line's text with its newline, and the line that a scenario's text makes.
use Rattle.std.proofs.Common.{◌≡◌, ◌≢◌, ℕ, List, [], ◌∷◌, ◌++◌, length, get_or, drop, Option, Some, None, refl, sym, ap, ◌∙◌, arith, append-nil, length-append, subst}
use Rattle.std.proofs.lemmas.List.{append_cancel_right}
use Rattle.trace_text.specs.declared.lines.Line.{Line}
use Rattle.trace_text.specs.declared.lines.Line.TheVariants.{S, F, R, M, J, L, A, Z}
use Rattle.trace_text.specs.IsLine.{IsLine, IsWorded}
use Rattle.trace_text.specs.Line.{line_words, line_text}
use Rattle.trace_text.specs.Reads.{Reads}
use Rattle.trace_text.specs.Words.{unended, Lacks}
use Rattle.trace_text.proofs.Endings.{unended-ended}
use Rattle.trace_text.proofs.FirstWords.{kind, first_letter}
use Rattle.trace_text.proofs.Reading.{reads_none, reads_some, none_reads}

-- the text without its newline
abbrev pub ReadsUnended : (Line → Type 0) → List ℕ → Option Line → Type 0
ReadsUnended IsOne bytes found = Reads IsOne (λ line. unended (line_words line)) bytes found

ended_text : (l : Line) → line_text l ≡ unended (line_words l) ++ 10 ∷ []
unfolding line_text
ended_text l = sym (unended-ended (line_words l))

-- a text is never empty, since it has its newline
pub some_text : (l : Line) → line_text l ≢ []
some_text l none = absurd (omega (arith, ap length (sym (ended_text l) ∙ none), length-append (unended (line_words l)) (10 ∷ [])))

pub none_ended : (bytes : List ℕ) → ((front : List ℕ) → bytes ≡ front ++ 10 ∷ [] → ⊥) → Reads IsLine line_text bytes None
none_ended bytes h = reads_none (λ l is e. h (unended (line_words l)) (e ∙ ended_text l))

module _ (bytes front : List ℕ) (cut : bytes ≡ front ++ 10 ∷ []) where
  same_front : (l : Line) → bytes ≡ line_text l → front ≡ unended (line_words l)
  same_front l e = append_cancel_right front (unended (line_words l)) (10 ∷ []) (sym cut ∙ e ∙ ended_text l)

  pub reads_ended : (found : Option Line) → ReadsUnended IsLine front found → Reads IsLine line_text bytes found
  reads_ended None h = reads_none (λ l is e. none_reads h l is (same_front l e))
  reads_ended (Some line) h = record {
    value = (h.value.0, cut ∙ ap (λ text. text ++ 10 ∷ []) h.value.1 ∙ sym (ended_text line));
    only = λ l is e. h.only l is (same_front l e);
  }

pub worded_is_line : (l : Line) → IsWorded l → IsLine l
worded_is_line (S json) is = absurd is
worded_is_line (F cab tick veh ped mode counter target version) is = is
worded_is_line (R round) is = is
worded_is_line (M note) is = is
worded_is_line (J cab runs) is = is
worded_is_line (L cab id outcome) is = is
worded_is_line (A cab pass reply) is = is
worded_is_line (Z rounds) is = is

module _ (bytes : List ℕ) (unlike : (rest : List ℕ) → bytes ≡ 83 ∷ 32 ∷ rest → ⊥) where
  line_is_worded : (l : Line) → IsLine l → bytes ≡ unended (line_words l) → IsWorded l
  line_is_worded (S json) is e = absurd (unlike _ e)
  line_is_worded (F cab tick veh ped mode counter target version) is e = is
  line_is_worded (R round) is e = is
  line_is_worded (M note) is e = is
  line_is_worded (J cab runs) is e = is
  line_is_worded (L cab id outcome) is e = is
  line_is_worded (A cab pass reply) is e = is
  line_is_worded (Z rounds) is e = is

  pub reads_worded : (found : Option Line) → ReadsUnended IsWorded bytes found → ReadsUnended IsLine bytes found
  reads_worded None h = reads_none (λ l is e. none_reads h l (line_is_worded l is e) e)
  reads_worded (Some line) h = record {
    value = (worded_is_line line h.value.0, h.value.1);
    only = λ l is e. h.only l (line_is_worded l is e) e;
  }

module _ (json : List ℕ) where
  -- a line with this text is the scenario's
  scenario_only : (P : Line → Type 0) → (Lacks 10 json → P (S json)) → (l : Line) → IsLine l → 83 ∷ 32 ∷ json ≡ unended (line_words l) → P l
  scenario_only P h (S other) is e =
      let same : json ≡ other = ap (drop 2) e ∙ append-nil other in
      subst (λ text. P (S text)) same (h (subst (Lacks 10) (sym same) is.0))
  scenario_only P h l is e = absurd (let told : 83 ≡ kind l = ap (λ text. get_or text 0 0) e ∙ first_letter l in omega (arith, told))

  pub none_scenario : (Lacks 10 json → ⊥) → ReadsUnended IsLine (83 ∷ 32 ∷ json) None
  none_scenario h = reads_none (scenario_only (λ _. ⊥) h)

  pub some_scenario : Lacks 10 json → ReadsUnended IsLine (83 ∷ 32 ∷ json) (Some (S json))
  some_scenario h = reads_some (h, tt) (rw append-nil refl) (scenario_only (λ l. S json ≡ l) (λ _. refl))
