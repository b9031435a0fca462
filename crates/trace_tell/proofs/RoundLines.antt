-- The lines of a round at a cabinet, one after another.
use Rattle.std.proofs.Common.{◌≡◌, ◌<◌, ◌≤◌, ◌+◌, ◌∙◌, ℕ, List, [], ◌∷◌, ◌++◌, length, map, drop, get_or, sym, ap, arith, append_assoc}
use Rattle.std.proofs.lemmas.List.{at_drop_more}
use Rattle.sig_types.specs.declared.frame.Frame.{Frame}
use Rattle.sig_types.specs.declared.notes.MasterNote.{MasterNote}
use Rattle.trace_text.specs.declared.lines.Line.TheVariants.{M, A}
use Rattle.cab_book.specs.declared.happened.Answered.{Answered}
use Rattle.cab_book.specs.Happenings.{AreInOrder, replies_in}
use Rattle.run_definition.specs.Lines.{shown_line, frame_lines, load_lines, reply_lines}
use Rattle.round_run.specs.Lines.{frames_between, answer_lines, told_lines}
use Rattle.round_run.proofs.Places.{next_item}

-- the line of the next frame, and those after it
pub next_frame : (cab : ℕ) (frames : List (ℕ × Frame)) (i : ℕ) (d : ℕ × Frame) → i < length frames
    → frame_lines cab (drop i frames) ≡ shown_line cab (get_or frames i d).0 (get_or frames i d).1 ∷ [] ++ frame_lines cab (drop (i + 1) frames)
next_frame cab frames i d below = at_drop_more (λ (xs : List (ℕ × Frame)). frame_lines cab xs) frames i d below

-- the line of the next note, and those after it
pub next_note : (notes : List MasterNote) (i : ℕ) (d : MasterNote) → i < length notes
    → map M (drop i notes) ≡ M (get_or notes i d) ∷ [] ++ map M (drop (i + 1) notes)
next_note notes i d below = at_drop_more (λ (xs : List MasterNote). map M xs) notes i d below

-- the frames before the next reply, the reply, and what comes after it
pub next_reply : (cab next : ℕ) (frames : List (ℕ × Frame)) (replies : List Answered) (i : ℕ) (a : Answered) → i < length replies → a ≡ get_or replies i a
    → told_lines cab next frames (drop i replies)
    ≡ frame_lines cab (frames_between next a.behind frames) ++ (answer_lines cab a.reply ++ told_lines cab a.behind frames (drop (i + 1) replies))
next_reply cab next frames replies i a below is = ap (λ (xs : List Answered). told_lines cab next frames xs) (next_item replies i a below is)

-- replies in order come after no more frames than there are
pub in_order_most : (before most : ℕ) (answered : List Answered) → AreInOrder before answered most → before ≤ most
in_order_most before most [] order = order
in_order_most before most (a ∷ answered) order =
    let more : a.behind ≤ most = in_order_most a.behind most answered order.1 in
    omega (arith, more, order.0)

-- the next reply is in order
pub order_next : (next most : ℕ) (replies : List Answered) (i : ℕ) (a : Answered) → i < length replies → a ≡ get_or replies i a
    → AreInOrder next (drop i replies) most → (next ≤ a.behind) × AreInOrder a.behind (drop (i + 1) replies) most
order_next next most replies i a below is order = rw (next_item replies i a below is) at order

-- the lines of the next reply without frames, and those after it
pub next_alone : (cab : ℕ) (replies : List Answered) (i : ℕ) (a : Answered) → i < length replies → a ≡ get_or replies i a
    → reply_lines cab (replies_in (drop i replies)) ≡ answer_lines cab a.reply ++ reply_lines cab (replies_in (drop (i + 1) replies))
next_alone cab replies i a below is = ap (λ (xs : List Answered). reply_lines cab (replies_in xs)) (next_item replies i a below is)
    ∙ sym (append_assoc (load_lines cab a.reply.load) (A cab a.reply.pass a.reply.text ∷ []) (reply_lines cab (replies_in (drop (i + 1) replies))))
