-- What has reached a book in a round: the state of its cabinet by it, its replies, and the lines of what came after.
use Rattle.std.proofs.Common.{◌≡◌, ◌∙◌, ℕ, List, [], ◌∷◌, ◌++◌, length, drop, refl, sym, ap, append_assoc, append-nil}
use Rattle.std.proofs.lemmas.List.{drop-map, length-map}
use Rattle.std.proofs.lemmas.List.Elements.{All-head, All-tail}
use Rattle.std.proofs.Math.Seq.{drop-append_seam}
use Rattle.sig_types.specs.declared.frame.Frame.{Frame}
use Rattle.sig_types.specs.declared.streams.Stream.{Stream}
use Rattle.sig_types.specs.Passes.{number_of}
use Rattle.sig_types.specs.Items.{Item, InputTold, Came, Ticked}
use Rattle.trace_text.specs.declared.lines.Line.{Line}
use Rattle.trace_text.specs.declared.lines.Line.TheVariants.{A}
use Rattle.scenario_data.specs.Content.{ScenarioContent}
use Rattle.cabinet_history.specs.declared.Reply.{Reply}
use Rattle.cabinet_history.specs.CabinetHistory.{CabinetHistory, with_item, after}
use Rattle.cabinet_history.specs.Journals.{Act, items_in}
use Rattle.cabinet_history.specs.CabinetAnswers.{item_replies, item_written, acts_replies, acts_written}
use Rattle.run_definition.specs.CabinetState.{CabinetState, answers_in, round_acts}
use Rattle.run_definition.specs.Lines.{frame_lines, load_lines, reply_lines, item_lines, acts_lines, shown_line}
use Rattle.cab_book.specs.declared.book.Book.{Book}
use Rattle.cab_book.specs.declared.happened.Answered.{Answered}
use Rattle.cab_book.specs.Happenings.{replies_in}
use Rattle.cab_book.specs.Books.{IsBroughtAtEnd, written_in, answered_in}
use Rattle.round_run.specs.CabinetStates.{IsAt, HasRun, HasCome, AreTicks, HaveNoTicks, state_by_acts}
use Rattle.round_run.specs.Replied.{replied_in}
use Rattle.round_run.specs.Lines.{new_frame_lines, new_reply_lines}
use Rattle.round_run.proofs.Following.{acts-run}

pub come-run : (s : ScenarioContent) (cab : ℕ) (t : CabinetState) (journal : List ℕ) (b : Book) → HasRun s cab t journal b
    → HasCome t (round_acts s cab t journal) b
come-run s cab t journal b run = record { stands = run.stands; acts_are = acts-run s cab t journal b run; one = run.one }

pub come-at : (t : CabinetState) (acts : List Act) (b : Book) → HasCome t acts b → IsAt b (state_by_acts t acts)
come-at t acts b come = record {
  began = t.cabinet_history;
  stands = come.stands;
  now = ap (λ (x : List Act). after t.cabinet_history (items_in x)) come.acts_are;
}

replies-are : (t : CabinetState) (acts : List Act) (b : Book) → HasCome t acts b → replies_in (answered_in b) ≡ acts_replies t.cabinet_history acts
replies-are t acts b come = come.stands.written.replies ∙ ap (acts_replies t.cabinet_history) come.acts_are

frames-are : (t : CabinetState) (acts : List Act) (b : Book) → HasCome t acts b → written_in b ≡ acts_written t.cabinet_history acts
frames-are t acts b come = come.stands.written.frames ∙ ap (acts_written t.cabinet_history) come.acts_are

pub come-replied : (t : CabinetState) (acts : List Act) (b : Book) → HasCome t acts b → replied_in b ≡ answers_in (acts_replies t.cabinet_history acts)
come-replied t acts b come = ap answers_in (replies-are t acts b come)

pub come-brought : (t : CabinetState) (acts : List Act) (old new : Book) (stream : Stream) (item : Item) → HasCome t acts old → IsBroughtAtEnd old new stream item
    → HasCome t (acts ++ record { pass = number_of stream; item = item } ∷ []) new
come-brought t acts old new stream item come brought = record {
  stands = brought.stands t.cabinet_history come.stands;
  acts_are = brought.acts ∙ ap (λ (x : List Act). x ++ act (number_of stream) item ∷ []) come.acts_are;
  one = brought.one come.one;
}
  where
    act : ℕ → Item → Act
    act p i = record { pass = p; item = i }

-- what acts give, and then others
both-written : (cabinet_history : CabinetHistory) (acts more : List Act)
    → acts_written cabinet_history (acts ++ more) ≡ acts_written cabinet_history acts ++ acts_written (after cabinet_history (items_in acts)) more
both-written cabinet_history [] more = refl
both-written cabinet_history (act ∷ acts) more =
    let later = with_item cabinet_history act.item in
    ap (λ (x : List (ℕ × Frame)). item_written cabinet_history act.item ++ x) (both-written later acts more)
    ∙ sym (append_assoc (item_written cabinet_history act.item) (acts_written later acts) (acts_written (after later (items_in acts)) more))

both-replies : (cabinet_history : CabinetHistory) (acts more : List Act)
    → acts_replies cabinet_history (acts ++ more) ≡ acts_replies cabinet_history acts ++ acts_replies (after cabinet_history (items_in acts)) more
both-replies cabinet_history [] more = refl
both-replies cabinet_history (act ∷ acts) more =
    let later = with_item cabinet_history act.item in
    ap (λ (x : List Reply). item_replies cabinet_history act.pass act.item ++ x) (both-replies later acts more)
    ∙ sym (append_assoc (item_replies cabinet_history act.pass act.item) (acts_replies later acts) (acts_replies (after later (items_in acts)) more))

frame-lines : (cab : ℕ) (first more : List (ℕ × Frame)) → frame_lines cab (first ++ more) ≡ frame_lines cab first ++ frame_lines cab more
frame-lines cab [] more = refl
frame-lines cab (f ∷ first) more = ap (λ (lines : List Line). shown_line cab f.0 f.1 ∷ lines) (frame-lines cab first more)

reply-lines : (cab : ℕ) (first more : List Reply) → reply_lines cab (first ++ more) ≡ reply_lines cab first ++ reply_lines cab more
reply-lines cab [] more = refl
reply-lines cab (r ∷ first) more =
    ap (λ (lines : List Line). load_lines cab r.load ++ A cab r.pass r.text ∷ lines) (reply-lines cab first more)
    ∙ sym (append_assoc (load_lines cab r.load) (A cab r.pass r.text ∷ reply_lines cab first) (reply_lines cab more))

-- a tick has only the line of its frame, and any other item the lines of its reply
tick-line : (cab : ℕ) (cabinet_history : CabinetHistory) (pass : ℕ) (item : Item) → item ≡ Ticked
    → item_lines cab cabinet_history pass item ≡ frame_lines cab (item_written cabinet_history item)
tick-line cab cabinet_history pass item tick =
    let quiet : item_replies cabinet_history pass item ≡ [] = ap (λ (i : Item). item_replies cabinet_history pass i) tick in
    ap (λ (replies : List Reply). frame_lines cab (item_written cabinet_history item) ++ reply_lines cab replies) quiet
    ∙ append-nil (frame_lines cab (item_written cabinet_history item))

other-line : (cab : ℕ) (cabinet_history : CabinetHistory) (pass : ℕ) (item : Item) → (item ≡ Ticked → ⊥)
    → item_lines cab cabinet_history pass item ≡ reply_lines cab (item_replies cabinet_history pass item)
other-line cab cabinet_history pass (InputTold field) other = refl
other-line cab cabinet_history pass (Came octets) other = refl
other-line cab cabinet_history pass Ticked other = absurd (other refl)

ticks-lines : (cab : ℕ) (cabinet_history : CabinetHistory) (acts : List Act) → AreTicks acts
    → acts_lines cab cabinet_history acts ≡ frame_lines cab (acts_written cabinet_history acts)
ticks-lines cab cabinet_history [] ticks = refl
ticks-lines cab cabinet_history (act ∷ acts) ticks =
    let P : Act → Type 0 = λ a. a.item ≡ Ticked in
    let later = with_item cabinet_history act.item in
    ap (λ (lines : List Line). lines ++ acts_lines cab later acts) (tick-line cab cabinet_history act.pass act.item (All-head P act acts ticks))
    ∙ ap (λ (lines : List Line). frame_lines cab (item_written cabinet_history act.item) ++ lines) (ticks-lines cab later acts (All-tail P act acts ticks))
    ∙ sym (frame-lines cab (item_written cabinet_history act.item) (acts_written later acts))

others-lines : (cab : ℕ) (cabinet_history : CabinetHistory) (acts : List Act) → HaveNoTicks acts
    → acts_lines cab cabinet_history acts ≡ reply_lines cab (acts_replies cabinet_history acts)
others-lines cab cabinet_history [] others = refl
others-lines cab cabinet_history (act ∷ acts) others =
    let P : Act → Type 0 = λ a. a.item ≡ Ticked → ⊥ in
    let later = with_item cabinet_history act.item in
    ap (λ (lines : List Line). lines ++ acts_lines cab later acts) (other-line cab cabinet_history act.pass act.item (All-head P act acts others))
    ∙ ap (λ (lines : List Line). reply_lines cab (item_replies cabinet_history act.pass act.item) ++ lines) (others-lines cab later acts (All-tail P act acts others))
    ∙ sym (reply-lines cab (item_replies cabinet_history act.pass act.item) (acts_replies later acts))

-- what a book has after what it had
module _ (t : CabinetState) (acts more : List Act) (old new : Book) (was : HasCome t acts old) (now : HasCome t (acts ++ more) new) where
  new-frames : drop (length (written_in old)) (written_in new) ≡ acts_written (after t.cabinet_history (items_in acts)) more
  new-frames =
      let before = acts_written t.cabinet_history acts in
      let later = acts_written (after t.cabinet_history (items_in acts)) more in
      ap (λ (x : List (ℕ × Frame)). drop (length x) (written_in new)) (frames-are t acts old was)
      ∙ ap (λ (x : List (ℕ × Frame)). drop (length before) x) (frames-are t (acts ++ more) new now ∙ both-written t.cabinet_history acts more)
      ∙ drop-append_seam before later

  new-replies : replies_in (drop (length (answered_in old)) (answered_in new)) ≡ acts_replies (after t.cabinet_history (items_in acts)) more
  new-replies =
      let before = acts_replies t.cabinet_history acts in
      let later = acts_replies (after t.cabinet_history (items_in acts)) more in
      let many : length (answered_in old) ≡ length before =
      sym (length-map (answered_in old) (λ (a : Answered). a.reply)) ∙ ap (λ (x : List Reply). length x) (replies-are t acts old was) in
      sym (drop-map (λ (a : Answered). a.reply) (length (answered_in old)) (answered_in new))
      ∙ ap (λ (n : ℕ). drop n (replies_in (answered_in new))) many
      ∙ ap (λ (x : List Reply). drop (length before) x) (replies-are t (acts ++ more) new now ∙ both-replies t.cabinet_history acts more)
      ∙ drop-append_seam before later

  pub come-ticks : (cab : ℕ) → AreTicks more → acts_lines cab (after t.cabinet_history (items_in acts)) more ≡ new_frame_lines cab old new
  come-ticks cab ticks =
      ticks-lines cab (after t.cabinet_history (items_in acts)) more ticks ∙ ap (λ (x : List (ℕ × Frame)). frame_lines cab x) (sym new-frames)

  pub come-others : (cab : ℕ) → HaveNoTicks more → acts_lines cab (after t.cabinet_history (items_in acts)) more ≡ new_reply_lines cab old new
  come-others cab others =
      others-lines cab (after t.cabinet_history (items_in acts)) more others ∙ ap (λ (x : List Reply). reply_lines cab x) (sym new-replies)
