-- A pass brings the next item of its stream: what is left, what the journal says, the room, and the cabinet history.
use Rattle.std.proofs.Common.{◌≡◌, ◌≢◌, ◌≤◌, ◌<◌, ℕ, zero, suc, ◌+◌, ◌∙◌, inl, inr, append_assoc, append-nil, List, [], ◌∷◌, ◌++◌, length, replicate, get_or, slice_set, refl, sym, ap, subst, arith}
use Rattle.std.proofs.lemmas.List.{get_or-set_same, get_or-set_other}
use Rattle.std.proofs.lemmas.Bool.{cases_lt}
use Rattle.std.proofs.lemmas.Bool.Decides.{eqb_tells}
use Rattle.sig_types.specs.declared.streams.Streams.{Streams}
use Rattle.sig_types.specs.Items.{Item, Ticked, items_of}
use Rattle.cabinet_history.specs.CabinetHistory.{CabinetHistory, with_item, after}
use Rattle.cabinet_history.specs.Journals.{Act, times, acts_of, items_in}
use Rattle.cabinet_history.specs.CabinetAnswers.{item_replies, item_written}
use Rattle.cabinet_history.proofs.Growing.{act_at, acts-more, cabinet_history-more}
use Rattle.cab_book.specs.declared.cabinet.Cabinet.{Cabinet}
use Rattle.cab_book.specs.declared.happened.Happened.{Happened}
use Rattle.cab_book.specs.CabinetStands.{CabinetStands}
use Rattle.cab_book.specs.Happened.{HasRoom, IsWritten, HappenedGoesOn, TicksOn, journal_in}
use Rattle.cab_book.specs.Ticks.{ticks_on, ticks_written}
use Rattle.cab_book.specs.Shares.{read_journal, ticks_left, ticks_brought}
use Rattle.cab_book.specs.Rounds.{AreShort, AreTallied, frames_left, items_left, acts_so_far, cabinet_history_after, RoundStands}
use Rattle.cab_book.proofs.Parts.{joined_left, shared_left, joined-low, joined-high, shared-low, past_end, read-ticks, read-none, read-others}
use Rattle.cab_book.proofs.Runs.{times_both, times_run, times_other, last-more}
use Rattle.cab_book.proofs.Keeping.{kept-more, tick_acts, tick_act, cabinet_history-ticks, kept-ticks}

-- that many items of a pass were taken
pub record Taken (old new : List ℕ) (pass many : ℕ) : Type 0 where
  pub own : get_or new pass 0 + many ≡ get_or old pass 0
  pub others : (p : ℕ) → p ≢ pass → get_or new p 0 ≡ get_or old p 0

-- what is left is left of a stream that there is
below-length : (left : List ℕ) (pass : ℕ) → 0 < get_or left pass 0 → pass < length left
below-length [] pass some = absurd (omega (arith, some))
below-length (x ∷ left) zero some = omega arith
below-length (x ∷ left) (suc pass) some = omega (arith, below-length left pass some)

pub taken : (left : List ℕ) (pass many rest : ℕ) → 1 ≤ many → rest + many ≡ get_or left pass 0 → Taken left (slice_set left pass rest) pass many
taken left pass many rest some e = record {
  own = ap (λ (n : ℕ). n + many) (get_or-set_same left pass rest 0 (below-length left pass (omega (arith, e, some)))) ∙ e;
  others = λ p ne. get_or-set_other left pass p rest 0 ne;
}

pub tallied-more : (streams : Streams) (left rest : List ℕ) (old new : Happened) (pass many : ℕ) → Taken left rest pass many
    → journal_in new ≡ journal_in old ++ replicate many pass → AreTallied streams left old → AreTallied streams rest new
tallied-more streams left rest old new pass many o goes tallied =
    let both : (q : ℕ) → get_or rest q 0 + times q (journal_in new) ≡ get_or left q 0 + times q (journal_in old) = λ q.
    let more : times q (journal_in new) ≡ times q (journal_in old) + times q (replicate many pass) =
    ap (times q) goes ∙ times_both q (journal_in old) (replicate many pass) in
    elim (eqb_tells q pass) [
      | inl (t, e) ↦
          let all : times q (replicate many pass) ≡ many = subst (λ (p : ℕ). times q (replicate many p) ≡ many) e (times_run q many) in
          let own : get_or rest q 0 + many ≡ get_or left q 0 = subst (λ (p : ℕ). get_or rest p 0 + many ≡ get_or left p 0) (sym e) o.own in
          omega (arith, more, all, own)
      | inr (t, ne) ↦ omega (arith, more, times_other q pass many ne, o.others q ne)
    ] in
    record {
      each = λ q low. both q ∙ tallied.each q low;
      ticks = omega (arith, both 4, both 5, both 6, both 7, tallied.ticks);
      others = λ q high. both q ∙ tallied.others q high;
    }

-- what is left of a pass of ticks is no more than all that are left
pub pass-within : (left : List ℕ) (p : ℕ) → 4 ≤ p → p ≤ 7 → get_or left p 0 ≤ ticks_left left
pass-within left zero above below = absurd (omega (arith, above))
pass-within left (suc zero) above below = absurd (omega (arith, above))
pass-within left (suc (suc zero)) above below = absurd (omega (arith, above))
pass-within left (suc (suc (suc zero))) above below = absurd (omega (arith, above))
pass-within left (suc (suc (suc (suc zero)))) above below = omega arith
pass-within left (suc (suc (suc (suc (suc zero))))) above below = omega arith
pass-within left (suc (suc (suc (suc (suc (suc zero)))))) above below = omega arith
pass-within left (suc (suc (suc (suc (suc (suc (suc zero))))))) above below = omega arith
pass-within left (suc (suc (suc (suc (suc (suc (suc (suc p)))))))) above below = absurd (omega (arith, below))

-- no pass has brought, or will, more items than can be counted
pub few-brought : (streams : Streams) (left : List ℕ) (h : Happened) (p : ℕ) → AreTallied streams left h → AreShort streams → p < 4
    → times p (journal_in h) < 4294967295
few-brought streams left h p tallied short low = omega (arith, tallied.each p low, short p)

few-ticks : (streams : Streams) (left : List ℕ) (h : Happened) → AreTallied streams left h → AreShort streams
    → ticks_left left + ticks_brought (journal_in h) ≤ 4294967294
few-ticks streams left h tallied short = omega (arith, tallied.ticks, short 4)

pub few-shared : (streams : Streams) (left : List ℕ) (h : Happened) (p : ℕ) → AreTallied streams left h → AreShort streams → 4 ≤ p → p ≤ 7
    → get_or left p 0 + times p (journal_in h) ≤ 4294967294
few-shared streams left h zero tallied short above below = absurd (omega (arith, above))
few-shared streams left h (suc zero) tallied short above below = absurd (omega (arith, above))
few-shared streams left h (suc (suc zero)) tallied short above below = absurd (omega (arith, above))
few-shared streams left h (suc (suc (suc zero))) tallied short above below = absurd (omega (arith, above))
few-shared streams left h (suc (suc (suc (suc zero)))) tallied short above below = omega (arith, few-ticks streams left h tallied short)
few-shared streams left h (suc (suc (suc (suc (suc zero))))) tallied short above below = omega (arith, few-ticks streams left h tallied short)
few-shared streams left h (suc (suc (suc (suc (suc (suc zero)))))) tallied short above below = omega (arith, few-ticks streams left h tallied short)
few-shared streams left h (suc (suc (suc (suc (suc (suc (suc zero))))))) tallied short above below = omega (arith, few-ticks streams left h tallied short)
few-shared streams left h (suc (suc (suc (suc (suc (suc (suc (suc p)))))))) tallied short above below = absurd (omega (arith, below))

-- nor does a journal that reads passes of ticks as one
pub few-read : (streams : Streams) (left : List ℕ) (h : Happened) (p : ℕ) → AreTallied streams left h → AreShort streams
    → times p (read_journal (journal_in h)) ≤ 4294967295
few-read streams left h p tallied short = elim (cases_lt p 4) [
  | inl low ↦
      let same = read-others p (λ above below. omega (arith, above, low)) (journal_in h) in
      omega (arith, same, few-brought streams left h p tallied short low)
  | inr above ↦ elim (eqb_tells p 4) [
    | inl (t, e) ↦
        let four : times p (read_journal (journal_in h)) ≡ times 4 (read_journal (journal_in h)) = ap (λ (q : ℕ). times q (read_journal (journal_in h))) e in
        omega (arith, four, read-ticks (journal_in h), few-ticks streams left h tallied short)
    | inr (t, ne) ↦ elim (cases_lt p 8) [
      | inl less ↦ omega (arith, read-none p (omega (arith, above, ne)) (omega (arith, less)) (journal_in h))
      | inr high ↦ omega (arith, read-others p (λ from to. omega (arith, to, high)) (journal_in h), tallied.others p high)
    ]
  ]
]

-- all items are still given where the ticks are all pass 4's
pub joined-tallied : (streams : Streams) (left : List ℕ) (ticks : ℕ) (old new : Happened) → ticks ≡ ticks_left left → AreTallied streams left old
    → journal_in new ≡ read_journal (journal_in old) → AreTallied streams (joined_left left ticks) new
joined-tallied streams left ticks old new all tallied goes =
    let same : (p : ℕ) → times p (journal_in new) ≡ times p (read_journal (journal_in old)) = λ p. ap (times p) goes in
    record {
      each = λ p low. omega (arith, same p, read-others p (λ above below. omega (arith, above, low)) (journal_in old), joined-low left ticks p low, tallied.each p low);
      ticks = omega (
        arith,
        all,
        same 4,
        same 5,
        same 6,
        same 7,
        read-ticks (journal_in old),
        read-none 5 (omega arith) (omega arith) (journal_in old),
        read-none 6 (omega arith) (omega arith) (journal_in old),
        read-none 7 (omega arith) (omega arith) (journal_in old),
        tallied.ticks,
      );
      others = λ p high. omega (
        arith,
        same p,
        read-others p (λ above below. omega (arith, below, high)) (journal_in old),
        joined-high left ticks p (omega (arith, high)),
        tallied.others p high,
      );
    }

-- no pass above has any then
pub joined-one : (streams : Streams) (left : List ℕ) (ticks : ℕ) (old new : Happened) (p : ℕ) → AreTallied streams left old
    → journal_in new ≡ read_journal (journal_in old) → 5 ≤ p → get_or (joined_left left ticks) p 0 + times p (journal_in new) ≡ 0
joined-one streams left ticks old new p tallied goes from =
    let same : times p (journal_in new) ≡ times p (read_journal (journal_in old)) = ap (times p) goes in
    elim (cases_lt p 8) [
      | inl less ↦ omega (arith, same, read-none p from (omega (arith, less)) (journal_in old), joined-high left ticks p from)
      | inr high ↦ omega (arith, same, read-others p (λ above below. omega (arith, below, high)) (journal_in old), joined-high left ticks p from, tallied.others p high)
    ]

-- and where they are shared
pub shared-tallied : (streams : Streams) (left parts : List ℕ) (h : Happened)
    → get_or parts 0 0 + get_or parts 1 0 + get_or parts 2 0 + get_or parts 3 0 ≡ ticks_left left → AreTallied streams left h
    → AreTallied streams (shared_left left parts) h
shared-tallied streams left parts h sum tallied = record {
  each = λ p low. omega (arith, shared-low left parts p low, tallied.each p low);
  ticks = omega (arith, sum, tallied.ticks);
  others = λ p high. omega (arith, past_end (shared_left left parts) p high, tallied.others p high);
}

pub room-less : (h : Happened) (t f i u g j : ℕ) → u ≤ t → g ≤ f → j ≤ i → HasRoom h t f i → HasRoom h u g j
room-less h t f i u g j a b d is =
    record { written = omega (arith, is.written, a); replies = omega (arith, is.replies, b); journal = omega (arith, is.journal, d) }

-- what is left after an input, ticks and a frame
pub record LeavesOf (left rest : List ℕ) (ticks frames items : ℕ) : Type 0 where
  pub ticks_are : ticks_left rest + ticks ≡ ticks_left left
  pub frames_are : frames_left rest + frames ≡ frames_left left
  pub items_are : items_left rest + items ≡ items_left left

pub input-taken : (left rest : List ℕ) → Taken left rest 0 1 → LeavesOf left rest 0 0 1
input-taken left rest o =
    let one = o.others 1 (omega arith) in
    let two = o.others 2 (omega arith) in
    let three = o.others 3 (omega arith) in
    let four = o.others 4 (omega arith) in
    let five = o.others 5 (omega arith) in
    let six = o.others 6 (omega arith) in
    let seven = o.others 7 (omega arith) in
    record {
      ticks_are = omega (arith, four, five, six, seven);
      frames_are = omega (arith, one, two, three);
      items_are = omega (arith, o.own, one, two, three, four, five, six, seven);
    }

-- the ticks of one pass of four
pub ticks-taken : (left rest : List ℕ) (pass many : ℕ) → 4 ≤ pass → pass ≤ 7 → Taken left rest pass many → LeavesOf left rest many 0 many
ticks-taken left rest pass many above below o =
    let none = o.others 0 (omega (arith, above)) in
    let one = o.others 1 (omega (arith, above)) in
    let two = o.others 2 (omega (arith, above)) in
    let three = o.others 3 (omega (arith, above)) in
    let ticks = one-of-four left rest pass many above below o in
    record {
      ticks_are = ticks;
      frames_are = omega (arith, one, two, three);
      items_are = omega (arith, ticks, none, one, two, three);
    }
  where
    one-of-four : (left rest : List ℕ) (pass many : ℕ) → 4 ≤ pass → pass ≤ 7 → Taken left rest pass many → ticks_left rest + many ≡ ticks_left left
    one-of-four left rest zero many above below o = absurd (omega (arith, above))
    one-of-four left rest (suc zero) many above below o = absurd (omega (arith, above))
    one-of-four left rest (suc (suc zero)) many above below o = absurd (omega (arith, above))
    one-of-four left rest (suc (suc (suc zero))) many above below o = absurd (omega (arith, above))
    one-of-four left rest (suc (suc (suc (suc zero)))) many above below o = omega (arith, o.own, o.others 5 (omega arith), o.others 6 (omega arith), o.others 7 (omega arith))
    one-of-four left rest (suc (suc (suc (suc (suc zero))))) many above below o = omega (arith, o.own, o.others 4 (omega arith), o.others 6 (omega arith), o.others 7 (omega arith))
    one-of-four left rest (suc (suc (suc (suc (suc (suc zero)))))) many above below o = omega (arith, o.own, o.others 4 (omega arith), o.others 5 (omega arith), o.others 7 (omega arith))
    one-of-four left rest (suc (suc (suc (suc (suc (suc (suc zero))))))) many above below o = omega (arith, o.own, o.others 4 (omega arith), o.others 5 (omega arith), o.others 6 (omega arith))
    one-of-four left rest (suc (suc (suc (suc (suc (suc (suc (suc pass)))))))) many above below o = absurd (omega (arith, below))

pub frame-taken : (left rest : List ℕ) (pass : ℕ) → 1 ≤ pass → pass ≤ 3 → Taken left rest pass 1 → LeavesOf left rest 0 1 1
frame-taken left rest pass above within o =
    let none = o.others 0 (omega (arith, above)) in
    let four = o.others 4 (omega (arith, within)) in
    let five = o.others 5 (omega (arith, within)) in
    let six = o.others 6 (omega (arith, within)) in
    let seven = o.others 7 (omega (arith, within)) in
    let frames = one-of-three left rest pass above within o in
    record {
      ticks_are = omega (arith, four, five, six, seven);
      frames_are = frames;
      items_are = omega (arith, frames, none, four, five, six, seven);
    }
  where
    one-of-three : (left rest : List ℕ) (pass : ℕ) → 1 ≤ pass → pass ≤ 3 → Taken left rest pass 1 → frames_left rest + 1 ≡ frames_left left
    one-of-three left rest zero above within o = absurd (omega (arith, above))
    one-of-three left rest (suc zero) above within o = omega (arith, o.own, o.others 2 (omega arith), o.others 3 (omega arith))
    one-of-three left rest (suc (suc zero)) above within o = omega (arith, o.own, o.others 1 (omega arith), o.others 3 (omega arith))
    one-of-three left rest (suc (suc (suc zero))) above within o = omega (arith, o.own, o.others 1 (omega arith), o.others 2 (omega arith))
    one-of-three left rest (suc (suc (suc (suc pass)))) above within o = absurd (omega (arith, within))

-- a cabinet to which the next item has come, and what is kept of it, represent the round with one pass more
pub round-more : (cabinet next : Cabinet) (streams : Streams) (old new : Happened) (cabinet_history : CabinetHistory) (pass : ℕ) (item : Item)
    → item ≡ get_or (get_or (items_of streams) pass []) (times pass (journal_in old)) Ticked
    → RoundStands cabinet streams old cabinet_history → CabinetStands next (with_item (cabinet_history_after streams old cabinet_history) item)
    → HappenedGoesOn old new pass (item_written (cabinet_history_after streams old cabinet_history) item) (item_replies (cabinet_history_after streams old cabinet_history) pass item)
    → RoundStands next streams new cabinet_history
round-more cabinet next streams old new cabinet_history pass item e is stands goes =
    let acts = acts_so_far streams old in
    let now = cabinet_history_after streams old cabinet_history in
    let act = act_at (items_of streams) pass (times pass (journal_in old)) in
    let more : acts_so_far streams new ≡ acts ++ act ∷ [] =
    ap (acts_of (items_of streams)) goes.journal ∙ acts-more (items_of streams) (journal_in old) pass (times pass (journal_in old)) refl in
    let come : CabinetStands next (with_item now act.item) = subst (λ (i : Item). CabinetStands next (with_item now i)) e stands in
    let gone : HappenedGoesOn old new act.pass (item_written now act.item) (item_replies now act.pass act.item) =
    subst (λ (i : Item). HappenedGoesOn old new pass (item_written now i) (item_replies now pass i)) e goes in
    record {
      cabinet = subst (CabinetStands next) (sym (ap (λ (x : List Act). after cabinet_history (items_in x)) more ∙ cabinet_history-more cabinet_history acts act)) come;
      written = subst (IsWritten new cabinet_history) (sym more) (kept-more old new cabinet_history acts act is.written gone);
    }

-- a pass whose stream has only ticks brings ticks
pub acts-ticks : (streams : List (List Item)) (journal : List ℕ) (pass many : ℕ)
    → ((place : ℕ) → get_or (get_or streams pass []) place Ticked ≡ Ticked)
    → acts_of streams (journal ++ replicate many pass) ≡ acts_of streams journal ++ tick_acts pass many
acts-ticks streams journal pass zero ticks = ap (acts_of streams) (append-nil journal) ∙ sym (append-nil (acts_of streams journal))
acts-ticks streams journal pass (suc many) ticks =
    let before = journal ++ replicate many pass in
    ap (λ (x : List ℕ). acts_of streams (journal ++ x)) (last-more many pass)
    ∙ ap (acts_of streams) (sym (append_assoc journal (replicate many pass) (pass ∷ [])))
    ∙ acts-more streams before pass (times pass before) refl
    ∙ ap (λ (i : Item). acts_of streams before ++ record { pass = pass; item = i } ∷ []) (ticks (times pass before))
    ∙ ap (λ (x : List Act). x ++ tick_act pass ∷ []) (acts-ticks streams journal pass many ticks)
    ∙ append_assoc (acts_of streams journal) (tick_acts pass many) (tick_act pass ∷ [])

-- so does the round of a cabinet to which that many ticks have come
pub round-ticks : (cabinet next : Cabinet) (streams : Streams) (old new : Happened) (cabinet_history : CabinetHistory) (pass many : ℕ)
    → ((place : ℕ) → get_or (get_or (items_of streams) pass []) place Ticked ≡ Ticked)
    → RoundStands cabinet streams old cabinet_history → CabinetStands next (ticks_on many (cabinet_history_after streams old cabinet_history))
    → TicksOn old new pass many (ticks_written many (cabinet_history_after streams old cabinet_history)) → RoundStands next streams new cabinet_history
round-ticks cabinet next streams old new cabinet_history pass many ticks is stands goes =
    let acts = acts_so_far streams old in
    let more : acts_so_far streams new ≡ acts ++ tick_acts pass many =
    ap (acts_of (items_of streams)) goes.journal ∙ acts-ticks (items_of streams) (journal_in old) pass many ticks in
    record {
      cabinet = subst (CabinetStands next) (sym (ap (λ (x : List Act). after cabinet_history (items_in x)) more ∙ cabinet_history-ticks cabinet_history acts pass many)) stands;
      written = subst (IsWritten new cabinet_history) (sym more) (kept-ticks old new cabinet_history acts pass many is.written goes);
    }
