-- What is kept of a round, with one act more, or with that many ticks.
use Rattle.std.proofs.Common.{◌≡◌, ℕ, zero, suc, ◌+◌, ◌∙◌, List, [], ◌∷◌, ◌++◌, length, map, refl, sym, ap, subst, append-nil, append_assoc, length-append, arith}
use Rattle.std.proofs.lemmas.List.{map-append}
use Rattle.sig_types.specs.declared.frame.Frame.{Frame}
use Rattle.sig_types.specs.Items.{Item, InputTold, Came, Ticked}
use Rattle.cabinet_history.specs.declared.Reply.{Reply}
use Rattle.cabinet_history.specs.CabinetHistory.{CabinetHistory, with_item, after}
use Rattle.cabinet_history.specs.Journals.{Act, items_in}
use Rattle.cabinet_history.specs.CabinetAnswers.{item_replies, item_written, acts_replies, acts_written}
use Rattle.cabinet_history.specs.Coming.{history_of}
use Rattle.cabinet_history.specs.Frames.{tick_written}
use Rattle.cabinet_history.proofs.Growing.{told-more, cabinet_history-more}
use Rattle.cab_book.specs.declared.happened.Answered.{Answered}
use Rattle.cab_book.specs.declared.happened.Happened.{Happened}
use Rattle.cab_book.specs.Happenings.{Happening, Wrote, item_happenings, acts_happenings, interleaved, replies_in, AreInOrder}
use Rattle.cab_book.specs.Happened.{written_of, answered_of, behind, IsWritten, HappenedGoesOn, TicksOn}
use Rattle.cab_book.specs.Ticks.{ticks_on, ticks_written}
use Rattle.cab_book.proofs.Interleaving.{interleaved-frames, interleaved-reply, in-order-frames, in-order-reply}

written-more : (cabinet_history : CabinetHistory) (acts : List Act) (act : Act)
    → acts_written cabinet_history (acts ++ act ∷ []) ≡ acts_written cabinet_history acts ++ item_written (after cabinet_history (items_in acts)) act.item
written-more = told-more (λ (s : CabinetHistory) (a : Act). item_written s a.item) acts_written (λ s. refl) (λ s a acts. refl)

replies-more : (cabinet_history : CabinetHistory) (acts : List Act) (act : Act)
    → acts_replies cabinet_history (acts ++ act ∷ []) ≡ acts_replies cabinet_history acts ++ item_replies (after cabinet_history (items_in acts)) act.pass act.item
replies-more = told-more (λ (s : CabinetHistory) (a : Act). item_replies s a.pass a.item) acts_replies (λ s. refl) (λ s a acts. refl)

happenings-more : (cabinet_history : CabinetHistory) (acts : List Act) (act : Act)
    → acts_happenings cabinet_history (acts ++ act ∷ []) ≡ acts_happenings cabinet_history acts ++ item_happenings (after cabinet_history (items_in acts)) act.pass act.item
happenings-more = told-more (λ (s : CabinetHistory) (a : Act). item_happenings s a.pass a.item) acts_happenings (λ s. refl) (λ s a acts. refl)

replies_behind : (many : ℕ) (replies : List Reply) → replies_in (behind many replies) ≡ replies
replies_behind many [] = refl
replies_behind many (r ∷ replies) = ap (λ (rest : List Reply). r ∷ rest) (replies_behind many replies)

-- an item gives frames or one reply, and those are where they came
record Ordered (frames : List (ℕ × Frame)) (answered : List Answered) (now : CabinetHistory) (pass : ℕ) (item : Item) : Type 0 where
  order : interleaved 0 (frames ++ item_written now item) (answered ++ behind (length frames) (item_replies now pass item))
      ≡ interleaved 0 frames answered ++ item_happenings now pass item
  counts : AreInOrder 0 (answered ++ behind (length frames) (item_replies now pass item)) (length (frames ++ item_written now item))

-- an item without a reply
quiet : (frames : List (ℕ × Frame)) (answered : List Answered) (more : List (ℕ × Frame)) → AreInOrder 0 answered (length frames)
    → (interleaved 0 (frames ++ more) (answered ++ []) ≡ interleaved 0 frames answered ++ (map Wrote more ++ [])) × AreInOrder 0 (answered ++ []) (length (frames ++ more))
quiet frames answered more is =
    let is_from : AreInOrder 0 answered (0 + length frames) = subst (AreInOrder 0 answered) (omega arith) is in (
      ap (interleaved 0 (frames ++ more)) (append-nil answered)
          ∙ interleaved-frames 0 frames answered more is_from
          ∙ ap (λ (x : List Happening). interleaved 0 frames answered ++ x) (sym (append-nil (map Wrote more))),
      subst (λ (x : List Answered). AreInOrder 0 x (length (frames ++ more))) (sym (append-nil answered))
          (in-order-frames 0 answered (length frames) (length (frames ++ more)) (omega (arith, length-append frames more)) is),
    )

ordered : (frames : List (ℕ × Frame)) (answered : List Answered) (now : CabinetHistory) (pass : ℕ) (item : Item) → AreInOrder 0 answered (length frames)
    → Ordered frames answered now pass item
ordered frames answered now pass (InputTold field) is =
    let q = quiet frames answered [] is in
    record { order = q.0; counts = q.1 }
ordered frames answered now pass Ticked is =
    let q = quiet frames answered (item_written now Ticked) is in
    record { order = q.0; counts = q.1 }
ordered frames answered now pass (Came octets) is =
    let is_from : AreInOrder 0 answered (0 + length frames) = subst (AreInOrder 0 answered) (omega arith) is in
    let all = answered ++ behind (length frames) (item_replies now pass (Came octets)) in
    record {
      order = ap (λ (x : List (ℕ × Frame)). interleaved 0 x all) (append-nil frames) ∙ interleaved-reply 0 frames answered _ is_from (omega arith);
      counts = subst (λ (x : List (ℕ × Frame)). AreInOrder 0 all (length x)) (sym (append-nil frames)) (in-order-reply 0 answered _ (length frames) refl is);
    }

-- what is kept continues with what an act gives
pub kept-more : (old new : Happened) (cabinet_history : CabinetHistory) (acts : List Act) (act : Act) → IsWritten old cabinet_history acts
    → HappenedGoesOn old new act.pass (item_written (after cabinet_history (items_in acts)) act.item) (item_replies (after cabinet_history (items_in acts)) act.pass act.item)
    → IsWritten new cabinet_history (acts ++ act ∷ [])
kept-more old new cabinet_history acts act is goes =
    let now = after cabinet_history (items_in acts) in
    let replies = item_replies now act.pass act.item in
    let o = ordered (written_of old) (answered_of old) now act.pass act.item is.counts in
    record {
      frames = goes.written ∙ ap (λ (x : List (ℕ × Frame)). x ++ item_written now act.item) is.frames ∙ sym (written-more cabinet_history acts act);
      replies = ap replies_in goes.replies
          ∙ map-append (λ (a : Answered). a.reply) (answered_of old) (behind (length (written_of old)) replies)
          ∙ ap (λ (x : List Reply). replies_in (answered_of old) ++ x) (replies_behind (length (written_of old)) replies)
          ∙ ap (λ (x : List Reply). x ++ replies) is.replies
          ∙ sym (replies-more cabinet_history acts act);
      order = ap (λ (x : List (ℕ × Frame)). interleaved 0 x (answered_of new)) goes.written
          ∙ ap (interleaved 0 (written_of old ++ item_written now act.item)) goes.replies
          ∙ o.order
          ∙ ap (λ (x : List Happening). x ++ item_happenings now act.pass act.item) is.order
          ∙ sym (happenings-more cabinet_history acts act);
      counts = subst (λ (x : List (ℕ × Frame)). AreInOrder 0 (answered_of new) (length x)) (sym goes.written)
          (subst (λ (x : List Answered). AreInOrder 0 x (length (written_of old ++ item_written now act.item))) (sym goes.replies) o.counts);
    }

-- a pass brings a tick, and that many ticks
abbrev pub tick_act : ℕ → Act
tick_act pass = record { pass = pass; item = Ticked }

abbrev pub tick_acts : ℕ → ℕ → List Act
tick_acts pass zero = []
tick_acts pass (suc many) = tick_acts pass many ++ tick_act pass ∷ []

more-ticks : (acts : List Act) (pass many : ℕ) → acts ++ tick_acts pass (suc many) ≡ (acts ++ tick_acts pass many) ++ tick_act pass ∷ []
more-ticks acts pass many = sym (append_assoc acts (tick_acts pass many) (tick_act pass ∷ []))

pub cabinet_history-ticks : (cabinet_history : CabinetHistory) (acts : List Act) (pass many : ℕ)
    → after cabinet_history (items_in (acts ++ tick_acts pass many)) ≡ ticks_on many (after cabinet_history (items_in acts))
cabinet_history-ticks cabinet_history acts pass zero = ap (λ (x : List Act). after cabinet_history (items_in x)) (append-nil acts)
cabinet_history-ticks cabinet_history acts pass (suc many) =
    ap (λ (x : List Act). after cabinet_history (items_in x)) (more-ticks acts pass many)
    ∙ cabinet_history-more cabinet_history (acts ++ tick_acts pass many) (tick_act pass)
    ∙ ap (λ (s : CabinetHistory). with_item s Ticked) (cabinet_history-ticks cabinet_history acts pass many)

written-ticks : (cabinet_history : CabinetHistory) (acts : List Act) (pass many : ℕ)
    → acts_written cabinet_history (acts ++ tick_acts pass many) ≡ acts_written cabinet_history acts ++ ticks_written many (after cabinet_history (items_in acts))
written-ticks cabinet_history acts pass zero = ap (acts_written cabinet_history) (append-nil acts) ∙ sym (append-nil (acts_written cabinet_history acts))
written-ticks cabinet_history acts pass (suc many) =
    let now = after cabinet_history (items_in acts) in
    ap (acts_written cabinet_history) (more-ticks acts pass many)
    ∙ written-more cabinet_history (acts ++ tick_acts pass many) (tick_act pass)
    ∙ ap (λ (x : List (ℕ × Frame)). x ++ tick_written (history_of (after cabinet_history (items_in (acts ++ tick_acts pass many))))) (written-ticks cabinet_history acts pass many)
    ∙ ap (λ (s : CabinetHistory). (acts_written cabinet_history acts ++ ticks_written many now) ++ tick_written (history_of s)) (cabinet_history-ticks cabinet_history acts pass many)
    ∙ append_assoc (acts_written cabinet_history acts) (ticks_written many now) (tick_written (history_of (ticks_on many now)))

replies-ticks : (cabinet_history : CabinetHistory) (acts : List Act) (pass many : ℕ) → acts_replies cabinet_history (acts ++ tick_acts pass many) ≡ acts_replies cabinet_history acts
replies-ticks cabinet_history acts pass zero = ap (acts_replies cabinet_history) (append-nil acts)
replies-ticks cabinet_history acts pass (suc many) =
    ap (acts_replies cabinet_history) (more-ticks acts pass many)
    ∙ replies-more cabinet_history (acts ++ tick_acts pass many) (tick_act pass)
    ∙ append-nil (acts_replies cabinet_history (acts ++ tick_acts pass many))
    ∙ replies-ticks cabinet_history acts pass many

happenings-ticks : (cabinet_history : CabinetHistory) (acts : List Act) (pass many : ℕ)
    → acts_happenings cabinet_history (acts ++ tick_acts pass many) ≡ acts_happenings cabinet_history acts ++ map Wrote (ticks_written many (after cabinet_history (items_in acts)))
happenings-ticks cabinet_history acts pass zero = ap (acts_happenings cabinet_history) (append-nil acts) ∙ sym (append-nil (acts_happenings cabinet_history acts))
happenings-ticks cabinet_history acts pass (suc many) =
    let now = after cabinet_history (items_in acts) in
    let before = acts_happenings cabinet_history acts in
    let given = ticks_written many now in
    ap (acts_happenings cabinet_history) (more-ticks acts pass many)
    ∙ happenings-more cabinet_history (acts ++ tick_acts pass many) (tick_act pass)
    ∙ ap (λ (x : List Happening). acts_happenings cabinet_history (acts ++ tick_acts pass many) ++ x)
    (append-nil (map Wrote (tick_written (history_of (after cabinet_history (items_in (acts ++ tick_acts pass many)))))))
    ∙ ap (λ (s : CabinetHistory). acts_happenings cabinet_history (acts ++ tick_acts pass many) ++ map Wrote (tick_written (history_of s))) (cabinet_history-ticks cabinet_history acts pass many)
    ∙ ap (λ (x : List Happening). x ++ map Wrote (tick_written (history_of (ticks_on many now)))) (happenings-ticks cabinet_history acts pass many)
    ∙ append_assoc before (map Wrote given) (map Wrote (tick_written (history_of (ticks_on many now))))
    ∙ ap (λ (x : List Happening). before ++ x) (sym (map-append Wrote given (tick_written (history_of (ticks_on many now)))))

-- what is kept continues with what that many ticks give
pub kept-ticks : (old new : Happened) (cabinet_history : CabinetHistory) (acts : List Act) (pass many : ℕ) → IsWritten old cabinet_history acts
    → TicksOn old new pass many (ticks_written many (after cabinet_history (items_in acts))) → IsWritten new cabinet_history (acts ++ tick_acts pass many)
kept-ticks old new cabinet_history acts pass many is goes =
    let given = ticks_written many (after cabinet_history (items_in acts)) in
    let none : answered_of new ≡ answered_of old ++ [] = goes.replies ∙ sym (append-nil (answered_of old)) in
    let q = quiet (written_of old) (answered_of old) given is.counts in
    record {
      frames = goes.written ∙ ap (λ (x : List (ℕ × Frame)). x ++ given) is.frames ∙ sym (written-ticks cabinet_history acts pass many);
      replies = ap replies_in goes.replies ∙ is.replies ∙ sym (replies-ticks cabinet_history acts pass many);
      order = ap (λ (x : List (ℕ × Frame)). interleaved 0 x (answered_of new)) goes.written
          ∙ ap (interleaved 0 (written_of old ++ given)) none
          ∙ q.0
          ∙ ap (λ (x : List Happening). interleaved 0 (written_of old) (answered_of old) ++ x) (append-nil (map Wrote given))
          ∙ ap (λ (x : List Happening). x ++ map Wrote given) is.order
          ∙ sym (happenings-ticks cabinet_history acts pass many);
      counts = subst (λ (x : List (ℕ × Frame)). AreInOrder 0 (answered_of new) (length x)) (sym goes.written)
          (subst (λ (x : List Answered). AreInOrder 0 x (length (written_of old ++ given))) (sym none) q.1);
    }
