-- A cabinet's round: its journal's line, and the lines that come of it.
use Rattle.std.proofs.Common.{◌≡◌, ◌<◌, ◌≤◌, ◌+◌, ◌∙◌, ℕ, inl, inr, List, [], ◌∷◌, ◌++◌, Result, Ok, Err, length, drop, get_or, append-nil, refl, sym, ap, subst, arith}
use Rattle.std.proofs.lemmas.Bool.{cases_lt}
use Rattle.std.proofs.lemmas.List.{at_drop_more}
use Rattle.sig_types.specs.declared.frame.Frame.{Frame}
use Rattle.trace_text.specs.declared.lines.Line.{Line}
use Rattle.trace_text.specs.declared.lines.Line.TheVariants.{J, A}
use Rattle.trace_text.specs.IsLine.{AreLongest}
use Rattle.trace_text.specs.Line.{line_text}
use Rattle.scenario_data.specs.Content.{ScenarioContent}
use Rattle.sig_types.specs.Items.{Item}
use Rattle.cabinet_history.specs.declared.Reply.{Reply}
use Rattle.cabinet_history.specs.CabinetHistory.{CabinetHistory}
use Rattle.cabinet_history.specs.Journals.{times, passes_of, runs_of, IsMerge}
use Rattle.cab_book.specs.declared.book.Book.{Book}
use Rattle.cab_book.specs.declared.happened.Answered.{Answered}
use Rattle.cab_book.specs.Books.{BookStands, IsOnePart, streams_in, journal_of, left_of, written_in, answered_in}
use Rattle.cab_book.specs.Happenings.{AreInOrder}
use Rattle.cab_book.proofs.OnePart.{one-tally}
use Rattle.cab_book.proofs.Bringing.{pass-within}
use Rattle.run_definition.specs.CabinetState.{CabinetState, coming_streams, round_acts}
use Rattle.run_definition.specs.Lines.{shown_line, frame_lines, load_lines, acts_lines, cabinet_lines}
use Rattle.round_run.specs.Lines.{frames_between, answer_lines, told_lines, book_lines}
use Rattle.round_run.specs.CabinetStates.{HasRun}
use Rattle.trace_laws.specs.Runs.{events_in}
use Rattle.safety_laws.specs.TraceText.{lines_text}
use Rattle.trace_laws.specs.Script.{Script, Ends, Says, Hears, say, cabinet_script}
use Rattle.trace_laws.proofs.Journals.{added, journal-goes}
use Rattle.trace_laws.proofs.Longest.{longest-told}
use Rattle.trace_check.specs.declared.faults.CheckFail.{CheckFail}
use Rattle.trace_check.specs.declared.places.Place.{Place}
use Rattle.trace_check.specs.Reading.{Leads, ReadsOn}
use Rattle.trace_check.specs.Cabinets.{AreLeft, ReadsCabinet}
use Rattle.trace_check.specs.Expecting.{fails-on}
use Rattle.trace_check.proofs.Walking.{leads-on}
use Rattle.trace_check.proofs.Taking.{said-text, texts-on}

-- all items of a round that has just begun are left
pub all-left : (s : ScenarioContent) (cab : ℕ) (t : CabinetState) (b : Book) → HasRun s cab t [] b → AreLeft b (coming_streams s cab t)
all-left s cab t b run = λ p.
    let none : times p (journal_of b) ≡ 0 = ap (times p) run.journal_is in
    let same : length (get_or (streams_in b) p []) ≡ length (get_or (coming_streams s cab t) p []) =
    ap (λ (streams : List (List Item)). length (get_or streams p [])) run.streams in
    omega (arith, one-tally b run.one p, none, same)

-- a journal that names each pass as often as it had items brings all, and no pass above the fifth
brought-one : (s : ScenarioContent) (cab : ℕ) (t : CabinetState) (runs : List (ℕ × ℕ)) (old new : Book) → HasRun s cab t [] old
    → ((p : ℕ) → events_in p runs ≡ left_of old p) → streams_in new ≡ streams_in old → journal_of new ≡ passes_of runs → IsOnePart new
brought-one s cab t runs old new run all streams journal p high =
    let none : (q : ℕ) → times q (journal_of old) ≡ 0 = λ q. ap (times q) run.journal_is in
    let each : (q : ℕ) → times q (journal_of new) ≡ left_of old q = λ q. ap (times q) journal ∙ added q runs ∙ all q in
    let same : length (get_or (streams_in new) 4 []) ≡ length (get_or (streams_in old) 4 []) =
    ap (λ (x : List (List Item)). length (get_or x 4 [])) streams in
    let ticks : times 4 (journal_of new) ≡ length (get_or (streams_in new) 4 []) = omega (arith, each 4, none 4, one-tally old run.one 4, same) in
    let own : times p (journal_of new) ≡ 0 = omega (arith, each p, run.one p high) in
    elim (cases_lt p 8) [
      | inl less ↦ omega (arith, own, pass-within new.left p (omega (arith, high)) (omega (arith, less)), new.tallied.ticks, ticks)
      | inr most ↦ new.tallied.others p most
    ]

-- the book has run the journal of some runs
pub has-brought : (s : ScenarioContent) (cab : ℕ) (t : CabinetState) (runs : List (ℕ × ℕ)) (old new : Book) → HasRun s cab t [] old
    → ((p : ℕ) → events_in p runs ≡ left_of old p) → ((cabinet_history : CabinetHistory) → BookStands old cabinet_history → BookStands new cabinet_history) → streams_in new ≡ streams_in old
    → journal_of new ≡ journal_of old ++ passes_of runs → HasRun s cab t (passes_of runs) new
has-brought s cab t runs old new run all stands streams journal =
    let only : journal_of new ≡ passes_of runs = journal ∙ ap (λ (x : List ℕ). x ++ passes_of runs) run.journal_is in
    record {
      stands = stands t.cabinet_history run.stands;
      streams = streams ∙ run.streams;
      journal_is = only;
      one = brought-one s cab t runs old new run all streams only;
    }

-- the passes of its runs are a merge of the streams
pub is-merge : (s : ScenarioContent) (cab : ℕ) (t : CabinetState) (runs : List (ℕ × ℕ)) (b : Book) → HasRun s cab t [] b → ((p : ℕ) → events_in p runs ≡ left_of b p)
    → IsMerge (coming_streams s cab t) (passes_of runs)
is-merge s cab t runs b run all = λ p. added p runs ∙ all p ∙ all-left s cab t b run p

-- the journal's line leads on by the passes of its runs
pub journal-leads : (cab : ℕ) (streams : List (List Item)) (next : List ℕ → Script) (runs : List (ℕ × ℕ)) (at then : Place) → AreLongest runs
    → ((p : ℕ) → events_in p runs ≡ length (get_or streams p [])) → at.left.now ≡ line_text (J cab runs) ++ then.left.now → then.line ≡ at.line + 1
    → Leads (Hears cab streams next) at (next (passes_of runs)) then
journal-leads cab streams next runs at then longest all is number = record {
  taken = J cab runs ∷ [];
  split = is ∙ ap (λ (x : List ℕ). x ++ then.left.now) (sym (append-nil (line_text (J cab runs))));
  place = number;
  goes = journal-goes cab streams next runs longest all;
}

-- the lines of its acts are those that the book has written
book-acts : (s : ScenarioContent) (cab : ℕ) (t : CabinetState) (runs : List (ℕ × ℕ)) (b : Book) → HasRun s cab t (passes_of runs) b
    → ((journal : List ℕ) (x : Book) → HasRun s cab t journal x → cabinet_lines s cab t journal ≡ book_lines cab x)
    → acts_lines cab t.cabinet_history (round_acts s cab t (passes_of runs)) ≡ told_lines cab 0 (written_in b) (answered_in b)
book-acts s cab t runs b run lines =
    let same : cabinet_lines s cab t (passes_of runs) ≡ book_lines cab b = lines (passes_of runs) b run in
    cc same

-- what the book has written is expected after it
pub book-said : (s : ScenarioContent) (cab : ℕ) (t : CabinetState) (runs : List (ℕ × ℕ)) (b : Book) (rest : Script) → HasRun s cab t (passes_of runs) b
    → ((journal : List ℕ) (x : Book) → HasRun s cab t journal x → cabinet_lines s cab t journal ≡ book_lines cab x)
    → say (acts_lines cab t.cabinet_history (round_acts s cab t (passes_of runs))) rest ≡ say (told_lines cab 0 (written_in b) (answered_in b)) rest
book-said s cab t runs b rest run lines = ap (λ (xs : List Line). say xs rest) (book-acts s cab t runs b run lines)

-- the cabinet's round is read
module _ (s : ScenarioContent) (cab : ℕ) (t : CabinetState) (runs : List (ℕ × ℕ)) (old new : Book) (at then : Place) (begun : HasRun s cab t [] old) (longest : AreLongest runs)
    (all : (p : ℕ) → events_in p runs ≡ left_of old p) (is : at.left.now ≡ line_text (J cab runs) ++ then.left.now) (number : then.line ≡ at.line + 1)
    (run : HasRun s cab t (passes_of runs) new)
    (lines : (journal : List ℕ) (x : Book) → HasRun s cab t journal x → cabinet_lines s cab t journal ≡ book_lines cab x) where
  first-leads : (rest : List ℕ → Script) → Leads (cabinet_script s cab t rest) at (say (told_lines cab 0 (written_in new) (answered_in new)) (rest (passes_of runs))) then
  first-leads rest =
      subst (λ (due : Script). Leads (cabinet_script s cab t rest) at due then) (book-said s cab t runs new (rest (passes_of runs)) run lines)
      (journal-leads cab (coming_streams s cab t) (λ journal. say (acts_lines cab t.cabinet_history (round_acts s cab t journal)) (rest journal)) runs at then longest
      (λ p. all p ∙ all-left s cab t old begun p) is number)

  -- by just these lines
  first-text : (next : Place) → Leads (say (told_lines cab 0 (written_in new) (answered_in new)) Ends) then Ends next
      → at.left.now ≡ lines_text (cabinet_lines s cab t (passes_of runs)) ++ next.left.now
  first-text next w =
      let told : List Line = told_lines cab 0 (written_in new) (answered_in new) in
      let head : at.left.now ≡ lines_text (J cab runs ∷ []) ++ then.left.now =
      is ∙ ap (λ (x : List ℕ). x ++ then.left.now) (sym (append-nil (line_text (J cab runs)))) in
      texts-on (J cab runs ∷ []) told at.left.now then.left.now next.left.now head (said-text told then next w)
      ∙ ap (λ (x : List (ℕ × ℕ)). lines_text (J cab x ∷ told) ++ next.left.now) (sym (longest-told runs longest))
      ∙ ap (λ (x : List Line). lines_text (J cab (runs_of (passes_of runs)) ∷ x) ++ next.left.now) (sym (book-acts s cab t runs new run lines))

  pub cabinet-reads : (result : Result Place CheckFail)
      → ((rest : Script) → ReadsOn (say (told_lines cab 0 (written_in new) (answered_in new)) rest) then rest result)
      → ReadsCabinet s cab t at new result
  cabinet-reads (Ok next) reads = record {
    journal = passes_of runs;
    merge = is-merge s cab t runs old begun all;
    run = run;
    text_is = first-text next (reads Ends);
    leads = λ rest. leads-on _ _ _ at then next (first-leads rest) (reads (rest (passes_of runs)));
  }
  cabinet-reads (Err fail) reads = λ rest. fails-on _ _ at then fail (first-leads rest) (reads (rest (passes_of runs)))
