-- The lines of a cabinet's round are those that are written of its book.
use Rattle.std.proofs.Common.{◌≡◌, ◌≤◌, ◌+◌, ◌-◌, ◌∙◌, ℕ, List, [], ◌∷◌, ◌++◌, length, map, drop, refl, sym, ap, append_assoc, arith}
use Rattle.std.proofs.lemmas.List.{drop-drop}
use Rattle.sig_types.specs.declared.frame.Frame.{Frame}
use Rattle.trace_text.specs.declared.lines.Line.{Line}
use Rattle.trace_text.specs.declared.lines.Line.TheVariants.{J, A}
use Rattle.scenario_data.specs.Content.{ScenarioContent}
use Rattle.sig_types.specs.Items.{Item}
use Rattle.cabinet_history.specs.declared.Reply.{Reply}
use Rattle.cabinet_history.specs.CabinetHistory.{CabinetHistory, with_item}
use Rattle.cabinet_history.specs.Journals.{Act, runs_of}
use Rattle.cabinet_history.specs.CabinetAnswers.{item_written, item_replies}
use Rattle.run_definition.specs.CabinetState.{CabinetState, round_acts}
use Rattle.run_definition.specs.Lines.{frame_lines, load_lines, reply_lines, item_lines, acts_lines, cabinet_lines}
use Rattle.cab_book.specs.declared.book.Book.{Book}
use Rattle.cab_book.specs.declared.happened.Answered.{Answered}
use Rattle.cab_book.specs.Happenings.{Happening, Wrote, Replied, item_happenings, acts_happenings, interleaved, AreInOrder}
use Rattle.cab_book.specs.Books.{acts_in, journal_of, written_in, answered_in}
use Rattle.round_run.specs.CabinetStates.{HasRun}
use Rattle.round_run.specs.Lines.{frames_between, answer_lines, told_lines, book_lines}
use Rattle.round_run.proofs.Following.{acts-run}

-- the lines of frames and replies in the order in which they came
abbrev pub happening_lines : ℕ → List Happening → List Line
happening_lines cab [] = []
happening_lines cab (Wrote f ∷ more) = frame_lines cab (f ∷ []) ++ happening_lines cab more
happening_lines cab (Replied r ∷ more) = answer_lines cab r ++ happening_lines cab more

lines-append : (cab : ℕ) (first more : List Happening) → happening_lines cab (first ++ more) ≡ happening_lines cab first ++ happening_lines cab more
lines-append cab [] more = refl
lines-append cab (Wrote f ∷ first) more = ap (λ (lines : List Line). frame_lines cab (f ∷ []) ++ lines) (lines-append cab first more)
lines-append cab (Replied r ∷ first) more =
    ap (λ (lines : List Line). answer_lines cab r ++ lines) (lines-append cab first more)
    ∙ sym (append_assoc (answer_lines cab r) (happening_lines cab first) (happening_lines cab more))

wrote-lines : (cab : ℕ) (frames : List (ℕ × Frame)) → happening_lines cab (map Wrote frames) ≡ frame_lines cab frames
wrote-lines cab [] = refl
wrote-lines cab (f ∷ frames) = ap (λ (lines : List Line). frame_lines cab (f ∷ []) ++ lines) (wrote-lines cab frames)

replied-lines : (cab : ℕ) (replies : List Reply) → happening_lines cab (map Replied replies) ≡ reply_lines cab replies
replied-lines cab [] = refl
replied-lines cab (r ∷ replies) =
    ap (λ (lines : List Line). answer_lines cab r ++ lines) (replied-lines cab replies)
    ∙ append_assoc (load_lines cab r.load) (A cab r.pass r.text ∷ []) (reply_lines cab replies)

item-lines : (cab : ℕ) (cabinet_history : CabinetHistory) (pass : ℕ) (item : Item) → happening_lines cab (item_happenings cabinet_history pass item) ≡ item_lines cab cabinet_history pass item
item-lines cab cabinet_history pass item =
    lines-append cab (map Wrote (item_written cabinet_history item)) (map Replied (item_replies cabinet_history pass item))
    ∙ ap (λ (lines : List Line). lines ++ happening_lines cab (map Replied (item_replies cabinet_history pass item))) (wrote-lines cab (item_written cabinet_history item))
    ∙ ap (λ (lines : List Line). frame_lines cab (item_written cabinet_history item) ++ lines) (replied-lines cab (item_replies cabinet_history pass item))

-- the lines of acts are those of what they give
acts-told : (cab : ℕ) (cabinet_history : CabinetHistory) (acts : List Act) → happening_lines cab (acts_happenings cabinet_history acts) ≡ acts_lines cab cabinet_history acts
acts-told cab cabinet_history [] = refl
acts-told cab cabinet_history (act ∷ acts) =
    let later : CabinetHistory = with_item cabinet_history act.item in
    lines-append cab (item_happenings cabinet_history act.pass act.item) (acts_happenings later acts)
    ∙ ap (λ (lines : List Line). lines ++ happening_lines cab (acts_happenings later acts)) (item-lines cab cabinet_history act.pass act.item)
    ∙ ap (λ (lines : List Line). item_lines cab cabinet_history act.pass act.item ++ lines) (acts-told cab later acts)

-- replies and frames, each reply after as many frames as it says, have the lines that are written of them
told-same : (cab first : ℕ) (written : List (ℕ × Frame)) (answered : List Answered) → AreInOrder first answered (length written)
    → happening_lines cab (interleaved first (drop first written) answered) ≡ told_lines cab first written answered
told-same cab first written [] order = wrote-lines cab (drop first written)
told-same cab first written (a ∷ answered) order =
    let before : List (ℕ × Frame) = frames_between first a.behind written in
    let left : List (ℕ × Frame) = drop (a.behind - first) (drop first written) in
    let place : first + (a.behind - first) ≡ a.behind = omega (arith, order.0) in
    let same : left ≡ drop a.behind written = drop-drop (a.behind - first) first written ∙ ap (λ (n : ℕ). drop n written) place in
    lines-append cab (map Wrote before) (Replied a.reply ∷ interleaved a.behind left answered)
    ∙ ap (λ (lines : List Line). lines ++ (answer_lines cab a.reply ++ happening_lines cab (interleaved a.behind left answered))) (wrote-lines cab before)
    ∙ ap (λ (rest : List (ℕ × Frame)). frame_lines cab before ++ (answer_lines cab a.reply ++ happening_lines cab (interleaved a.behind rest answered))) same
    ∙ ap (λ (lines : List Line). frame_lines cab before ++ (answer_lines cab a.reply ++ lines)) (told-same cab a.behind written answered order.1)

pub book-told : (s : ScenarioContent) (cab : ℕ) (t : CabinetState) (journal : List ℕ) (b : Book) → HasRun s cab t journal b
    → cabinet_lines s cab t journal ≡ book_lines cab b
book-told s cab t journal b run =
    ap (λ (passes : List ℕ). J cab (runs_of passes) ∷ acts_lines cab t.cabinet_history (round_acts s cab t journal)) (sym run.journal_is)
    ∙ ap (λ (lines : List Line). J cab (runs_of (journal_of b)) ∷ lines)
    (ap (λ (acts : List Act). acts_lines cab t.cabinet_history acts) (sym (acts-run s cab t journal b run))
    ∙ sym (acts-told cab t.cabinet_history (acts_in b))
    ∙ ap (λ (all : List Happening). happening_lines cab all) (sym run.stands.written.order)
    ∙ told-same cab 0 (written_in b) (answered_in b) run.stands.written.counts)

-- the next reply follows no fewer frames than the place so far, and after no more than there are
pub order-ends : (first : ℕ) (answered : List Answered) (most : ℕ) → AreInOrder first answered most → first ≤ most
order-ends first [] most order = order
order-ends first (a ∷ answered) most order = omega (arith, order.0, order-ends a.behind answered most order.1)
