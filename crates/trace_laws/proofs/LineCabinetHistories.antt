-- The lines of what arrives at a cabinet: its frames, replies and ends of loads have the numbers of a line.
use Rattle.std.proofs.Common.{◌≡◌, ◌<◌, ◌≤◌, ◌+◌, ◌^◌, ◌++◌, ◌∷◌, [], inl, inr, ℕ, zero, suc, Bool, true, false, if◌then◌else◌, List, length, Option, Some, None, ap, arith}
use Rattle.std.specs.Prelude.{IfSome}
use Rattle.std.specs.List.{AllByRecursion}
use Rattle.hex.specs.Hex.{IsBytes}
use Rattle.sig_types.specs.declared.frame.Frame.{Frame}
use Rattle.sig_tables.specs.declared.tables.Tables.{Tables}
use Rattle.sig_tables.specs.Past.{History}
use Rattle.sig_tables.specs.Putting.{EachFits}
use Rattle.sig_tables.specs.Decide.{decide, frames, last_frame_of, past_at, since_opening}
use Rattle.sig_tables.proofs.Ranges.{in-range}
use Rattle.snmp_msg.specs.Shortest.{AreOctets}
use Rattle.trace_text.specs.declared.lines.Line.{Line}
use Rattle.trace_text.specs.declared.lines.Line.TheVariants.{A}
use Rattle.trace_text.specs.IsLine.{IsLine, IsReply, FitsReply}
use Rattle.safety_laws.specs.TraceText.{AreLines}
use Rattle.rule_book.specs.Rules.{Consistent}
use Rattle.rule_facts.specs.Admitted.{Admitted}
use Rattle.rule_facts.proofs.Admitted.{lawful}
use Rattle.plan_facts.specs.Disturbances.{Drift}
use Rattle.sig_types.specs.Items.{Item, InputTold, Came, Ticked}
use Rattle.sig_types.specs.Replies.{Reply as Answer}
use Rattle.cabinet_history.specs.declared.Load.{Load}
use Rattle.cabinet_history.specs.declared.Reply.{Reply}
use Rattle.cabinet_history.specs.CabinetHistory.{CabinetHistory, with_item}
use Rattle.cabinet_history.specs.Journals.{Act, items_in}
use Rattle.cabinet_history.specs.Frames.{has_line}
use Rattle.cabinet_history.specs.Coming.{past_of, in_force, coming, history_of}
use Rattle.cabinet_history.specs.CabinetAnswers.{in_frame, reply_to, load_end, item_replies, item_written, acts_replies}
use Rattle.cabinet_laws.specs.Judging.{IsVerdict}
use Rattle.cabinet_laws.specs.Openings.{IsOpening}
use Rattle.run_definition.specs.CabinetState.{answer_of, answers_in}
use Rattle.run_definition.specs.Lines.{shown_line, frame_lines, load_lines, item_lines, acts_lines}
use Rattle.trace_laws.specs.Messages.{IsFrame}
use Rattle.trace_laws.specs.Tables.{EachHolds}
use Rattle.trace_laws.specs.Items.{IsOctetItem, AreOctetItems}
use Rattle.trace_laws.proofs.OctetCabinetHistories.{cabinet_history-holds}
use Rattle.trace_laws.proofs.Replies.{reply-frame}
use Rattle.trace_laws.proofs.FrameFits.{FrameFits, next-fits}
use Rattle.trace_laws.proofs.Few.{LoadFits, load-fits, version-few}
use Rattle.trace_laws.proofs.Ticks.{tick_of, ticks_in, frames-counted}

-- the laws of cabinet histories on which the lines rest
pub record CabinetHistoryLaws : Type 0 where
  pub admitted : (cabinet_history : CabinetHistory) (t : Tables) (d : Drift) → IsOpening t d cabinet_history.opening → Consistent t
      → Admitted (history_of cabinet_history).tables (since_opening (history_of cabinet_history))
  pub now : (cabinet_history : CabinetHistory) (t : Tables) (d : Drift) → IsOpening t d cabinet_history.opening → EachFits t → EachFits (in_force (coming cabinet_history))
  pub judged : (cabinet_history : CabinetHistory) (octets : List ℕ)
      → IfSome (load_end cabinet_history octets) (λ load. IsVerdict (coming cabinet_history) (coming (with_item cabinet_history (Came octets))) load.result)

-- a cabinet history of octets, of a cabinet that opened with tables that pass the rules
pub record IsTold (t : Tables) (d : Drift) (cabinet_history : CabinetHistory) : Type 0 where
  pub opens : IsOpening t d cabinet_history.opening
  pub consistent : Consistent t
  pub fits : EachFits t
  pub holds : EachHolds t
  pub items : AreOctetItems cabinet_history.items

pub told-more : (t : Tables) (d : Drift) (cabinet_history : CabinetHistory) (item : Item) → IsTold t d cabinet_history → IsOctetItem item → IsTold t d (with_item cabinet_history item)
told-more t d cabinet_history item is own = record {
  opens = is.opens;
  consistent = is.consistent;
  fits = is.fits;
  holds = is.holds;
  items = (own, is.items);
}

opening-version : (t : Tables) (d : Drift) (h : History) → IsOpening t d h → (past_at h).version ≡ 0
opening-version t d h (command, clock, inl (e, same)) = ap (λ (x : History). (past_at x).version) e
opening-version t d h (command, clock, inr e) = ap (λ (x : History). (past_at x).version) e

opening-frames : (t : Tables) (d : Drift) (h : History) → IsOpening t d h → length (frames h) ≡ 1
opening-frames t d h (command, clock, inl (e, same)) = ap (λ (x : History). length (frames x)) e
opening-frames t d h (command, clock, inr e) = ap (λ (x : History). length (frames x)) e

pub all-lines : (xs ys : List Line) → AreLines xs → AreLines ys → AreLines (xs ++ ys)
all-lines [] ys a b = b
all-lines (x ∷ xs) ys a b = (a.0, all-lines xs ys a.1 b)

-- ---- frames

pub frame-line : (cab tick : ℕ) (f : Frame) → cab < 2 ^ 32 → tick < 2 ^ 32 → FrameFits f → f.version < 2 ^ 32 → IsLine (shown_line cab tick f)
frame-line cab tick f small low fits few = (tt, (small, low, fits.veh, fits.ped, fits.mode, fits.counter, fits.target, few))

tick-lines : (laws : CabinetHistoryLaws) (cab : ℕ) (t : Tables) (d : Drift) (cabinet_history : CabinetHistory) → cab < 2 ^ 32 → IsTold t d cabinet_history → ticks_in cabinet_history.items < 55296000
    → AreLines (frame_lines cab (item_written cabinet_history Ticked))
tick-lines laws cab t d cabinet_history small is few = split (has_line (last_frame_of h) (decide h))
  where
    h : History
    h = history_of cabinet_history

    fits : FrameFits (decide h)
    fits =
        next-fits h.tables (since_opening h) (lawful h.tables (since_opening h) (laws.admitted cabinet_history t d is.opens is.consistent))
        (in-range (in_force (coming cabinet_history)) (laws.now cabinet_history t d is.opens is.fits))

    number : length (frames h) < 2 ^ 32
    number = let e = frames-counted cabinet_history (opening-frames t d cabinet_history.opening is.opens) in omega (arith, e, few)

    version : (decide h).version < 2 ^ 32
    version = let v : (past_of (coming cabinet_history)).version ≤ 2147483647 = version-few cabinet_history (opening-version t d cabinet_history.opening is.opens) in omega (arith, v)

    split : (b : Bool) → AreLines (frame_lines cab (if b then (length (frames h), decide h) ∷ [] else []))
    split true = (frame-line cab (length (frames h)) (decide h) small number fits version, tt)
    split false = tt

-- ---- replies

octets-bytes : (xs : List ℕ) → AreOctets xs → IsBytes xs
octets-bytes [] all i = omega arith
octets-bytes (x ∷ xs) all zero = all.0
octets-bytes (x ∷ xs) all (suc i) = octets-bytes xs all.1 i

reply-fits : (o : Option (List ℕ)) → IfSome o IsFrame → IsReply (in_frame o) × FitsReply (in_frame o)
reply-fits None is = (tt, tt)
reply-fits (Some octets) is = let some : 1 ≤ length octets = is.some in ((omega (arith, some), is.fits), octets-bytes octets is.octets)

end-lines : (cab : ℕ) (o : Option Load) → cab < 2 ^ 32 → IfSome o LoadFits → AreLines (load_lines cab o)
end-lines cab None small is = tt
end-lines cab (Some load) small is = ((tt, (small, is.id, is.result)), tt)

reply-is : (t : Tables) (d : Drift) (cabinet_history : CabinetHistory) (octets : List ℕ) → IsTold t d cabinet_history → AreOctets octets → IfSome (reply_to cabinet_history octets) IsFrame
reply-is t d cabinet_history octets is own = reply-frame cabinet_history octets (cabinet_history-holds cabinet_history t d is.opens is.holds is.items) own

came-lines : (laws : CabinetHistoryLaws) (cab : ℕ) (t : Tables) (d : Drift) (cabinet_history : CabinetHistory) (pass : ℕ) (octets : List ℕ) → cab < 2 ^ 32 → pass ≤ 4 → IsTold t d cabinet_history
    → AreOctets octets → AreLines (item_lines cab cabinet_history pass (Came octets))
came-lines laws cab t d cabinet_history pass octets small low is own =
    let fits = reply-fits (reply_to cabinet_history octets) (reply-is t d cabinet_history octets is own) in
    all-lines (load_lines cab (load_end cabinet_history octets)) (A cab pass (in_frame (reply_to cabinet_history octets)) ∷ [])
    (end-lines cab (load_end cabinet_history octets) small (load-fits cabinet_history octets (opening-version t d cabinet_history.opening is.opens) (laws.judged cabinet_history octets)))
    ((fits.0, (small, omega (arith, low), fits.1)), tt)

-- ---- acts

-- an act of octets, of one of the five passes
pub record ActFits (act : Act) : Type 0 where
  pub pass : act.pass ≤ 4
  pub item : IsOctetItem act.item

item-lines : (laws : CabinetHistoryLaws) (cab : ℕ) (t : Tables) (d : Drift) (cabinet_history : CabinetHistory) (pass : ℕ) (item : Item) → cab < 2 ^ 32 → pass ≤ 4 → IsTold t d cabinet_history
    → IsOctetItem item → ticks_in cabinet_history.items + tick_of item ≤ 55296000 → AreLines (item_lines cab cabinet_history pass item)
item-lines laws cab t d cabinet_history pass (InputTold field) small low is own few = tt
item-lines laws cab t d cabinet_history pass (Came octets) small low is own few = came-lines laws cab t d cabinet_history pass octets small low is own
item-lines laws cab t d cabinet_history pass Ticked small low is own few =
    all-lines (frame_lines cab (item_written cabinet_history Ticked)) [] (tick-lines laws cab t d cabinet_history small is (omega (arith, few))) tt

pub acts-are-lines : (laws : CabinetHistoryLaws) (cab : ℕ) (t : Tables) (d : Drift) (cabinet_history : CabinetHistory) (acts : List Act) → cab < 2 ^ 32 → IsTold t d cabinet_history
    → AllByRecursion ActFits acts → ticks_in cabinet_history.items + ticks_in (items_in acts) ≤ 55296000 → AreLines (acts_lines cab cabinet_history acts)
acts-are-lines laws cab t d cabinet_history [] small is all few = tt
acts-are-lines laws cab t d cabinet_history (act ∷ acts) small is all few =
    all-lines (item_lines cab cabinet_history act.pass act.item) (acts_lines cab (with_item cabinet_history act.item) acts)
    (item-lines laws cab t d cabinet_history act.pass act.item small all.0.pass is all.0.item (omega (arith, few)))
    (acts-are-lines laws cab t d (with_item cabinet_history act.item) acts small (told-more t d cabinet_history act.item is all.0.item) all.1 (omega (arith, few)))

-- ---- answers

one-answer : (pass : ℕ) (o : Option (List ℕ)) → IfSome o IsFrame → AllByRecursion (λ r. AreOctets r.octets) (answer_of pass (in_frame o))
one-answer pass None is = tt
one-answer pass (Some octets) is = (is.octets, tt)

both-answers : (xs ys : List Answer) → AllByRecursion (λ r. AreOctets r.octets) xs → AllByRecursion (λ r. AreOctets r.octets) ys
    → AllByRecursion (λ r. AreOctets r.octets) (xs ++ ys)
both-answers [] ys a b = b
both-answers (x ∷ xs) ys a b = (a.0, both-answers xs ys a.1 b)

-- an answer before others
behind-answer : (first more others : List Answer) → (AllByRecursion (λ r. AreOctets r.octets) more → AllByRecursion (λ r. AreOctets r.octets) others)
    → AllByRecursion (λ r. AreOctets r.octets) (first ++ more) → AllByRecursion (λ r. AreOctets r.octets) (first ++ others)
behind-answer [] more others f all = f all
behind-answer (q ∷ first) more others f all = (all.0, behind-answer first more others f all.1)

answers-append : (xs ys : List Reply) → AllByRecursion (λ r. AreOctets r.octets) (answers_in xs) → AllByRecursion (λ r. AreOctets r.octets) (answers_in ys)
    → AllByRecursion (λ r. AreOctets r.octets) (answers_in (xs ++ ys))
answers-append [] ys a b = b
answers-append (r ∷ xs) ys a b =
    behind-answer (answer_of r.pass r.text) (answers_in xs) (answers_in (xs ++ ys)) (λ all. answers-append xs ys all b) a

item-answers : (t : Tables) (d : Drift) (cabinet_history : CabinetHistory) (pass : ℕ) (item : Item) → IsTold t d cabinet_history → IsOctetItem item
    → AllByRecursion (λ r. AreOctets r.octets) (answers_in (item_replies cabinet_history pass item))
item-answers t d cabinet_history pass (InputTold field) is own = tt
item-answers t d cabinet_history pass (Came octets) is own =
    both-answers (answer_of pass (in_frame (reply_to cabinet_history octets))) [] (one-answer pass (reply_to cabinet_history octets) (reply-is t d cabinet_history octets is own)) tt
item-answers t d cabinet_history pass Ticked is own = tt

pub acts-answers : (t : Tables) (d : Drift) (cabinet_history : CabinetHistory) (acts : List Act) → IsTold t d cabinet_history → AllByRecursion ActFits acts
    → AllByRecursion (λ r. AreOctets r.octets) (answers_in (acts_replies cabinet_history acts))
acts-answers t d cabinet_history [] is all = tt
acts-answers t d cabinet_history (act ∷ acts) is all =
    answers-append (item_replies cabinet_history act.pass act.item) (acts_replies (with_item cabinet_history act.item) acts)
    (item-answers t d cabinet_history act.pass act.item is all.0.item)
    (acts-answers t d (with_item cabinet_history act.item) acts (told-more t d cabinet_history act.item is all.0.item) all.1)
