-- A journal whose passes of ticks are read as one brings the same.
use Rattle.std.proofs.Common.{◌≡◌, ◌≤◌, ◌<◌, ◌+◌, ℕ, inl, inr, ◌⊎◌, List, [], ◌∷◌, ◌++◌, length, get_or, refl, sym, ap, ◌∙◌, subst, arith}
use Rattle.std.proofs.lemmas.Bool.{cases_lt}
use Rattle.std.proofs.lemmas.Bool.Decides.{eqb_tells}
use Rattle.sig_types.specs.declared.frame.Frame.{Frame}
use Rattle.sig_types.specs.declared.streams.Streams.{Streams}
use Rattle.sig_types.specs.Items.{Item, Ticked, items_of}
use Rattle.cabinet_history.specs.declared.Reply.{Reply}
use Rattle.cabinet_history.specs.CabinetHistory.{CabinetHistory, with_item, after}
use Rattle.cabinet_history.specs.Journals.{Act, act_of, acts_from, acts_of, items_in, times}
use Rattle.cabinet_history.specs.CabinetAnswers.{item_replies, item_written, acts_replies, acts_written}
use Rattle.cab_book.specs.declared.cabinet.Cabinet.{Cabinet}
use Rattle.cab_book.specs.declared.happened.Answered.{Answered}
use Rattle.cab_book.specs.declared.happened.Happened.{Happened}
use Rattle.cab_book.specs.CabinetStands.{CabinetStands}
use Rattle.cab_book.specs.Happenings.{Happening, item_happenings, acts_happenings, interleaved, replies_in, AreInOrder}
use Rattle.cab_book.specs.Happened.{IsWritten, journal_in, written_of, answered_of}
use Rattle.cab_book.specs.Rounds.{RoundStands, acts_so_far}
use Rattle.cab_book.specs.Shares.{read_pass, read_journal}
use Rattle.cab_book.proofs.Parts.{AsFour, AsItself, read-is, count-here, count-else}
use Rattle.cab_book.proofs.Coming.{tick_item}

-- acts that bring the same: a tick may be another pass's
record Alike (a b : Act) : Type 0 where
  item : a.item ≡ b.item
  pass : (a.pass ≡ b.pass) ⊎ (b.item ≡ Ticked)

abbrev AreAlike : List Act → List Act → Type 0
AreAlike [] [] = Unit {0}
AreAlike (a ∷ acts) (b ∷ others) = Alike a b × AreAlike acts others
AreAlike _ _ = ⊥

-- then they give the same
module _ {A : Type 0} (tells : CabinetHistory → ℕ → Item → List A) (plain : (cabinet_history : CabinetHistory) (p q : ℕ) → tells cabinet_history p Ticked ≡ tells cabinet_history q Ticked) where
  one-same : (cabinet_history : CabinetHistory) (a b : Act) → Alike a b → tells cabinet_history a.pass a.item ≡ tells cabinet_history b.pass b.item
  one-same cabinet_history a b like = elim like.pass [
    | inl same ↦ ap (λ (i : Item). tells cabinet_history a.pass i) like.item ∙ ap (λ (p : ℕ). tells cabinet_history p b.item) same
    | inr tick ↦
        ap (λ (i : Item). tells cabinet_history a.pass i) (like.item ∙ tick) ∙ plain cabinet_history a.pass b.pass ∙ ap (λ (i : Item). tells cabinet_history b.pass i) (sym tick)
  ]

written-alike : (cabinet_history : CabinetHistory) (acts others : List Act) → AreAlike acts others → acts_written cabinet_history acts ≡ acts_written cabinet_history others
written-alike cabinet_history [] [] like = refl
written-alike cabinet_history [] (b ∷ others) like = absurd like
written-alike cabinet_history (a ∷ acts) [] like = absurd like
written-alike cabinet_history (a ∷ acts) (b ∷ others) like =
    ap (λ (i : Item). item_written cabinet_history i ++ acts_written (with_item cabinet_history i) acts) like.0.item
    ∙ ap (λ (x : List (ℕ × Frame)). item_written cabinet_history b.item ++ x) (written-alike (with_item cabinet_history b.item) acts others like.1)

replies-alike : (cabinet_history : CabinetHistory) (acts others : List Act) → AreAlike acts others → acts_replies cabinet_history acts ≡ acts_replies cabinet_history others
replies-alike cabinet_history [] [] like = refl
replies-alike cabinet_history [] (b ∷ others) like = absurd like
replies-alike cabinet_history (a ∷ acts) [] like = absurd like
replies-alike cabinet_history (a ∷ acts) (b ∷ others) like =
    ap (λ (x : List Reply). x ++ acts_replies (with_item cabinet_history a.item) acts) (one-same item_replies (λ s p q. refl) cabinet_history a b like.0)
    ∙ ap (λ (i : Item). item_replies cabinet_history b.pass b.item ++ acts_replies (with_item cabinet_history i) acts) like.0.item
    ∙ ap (λ (x : List Reply). item_replies cabinet_history b.pass b.item ++ x) (replies-alike (with_item cabinet_history b.item) acts others like.1)

happenings-alike : (cabinet_history : CabinetHistory) (acts others : List Act) → AreAlike acts others → acts_happenings cabinet_history acts ≡ acts_happenings cabinet_history others
happenings-alike cabinet_history [] [] like = refl
happenings-alike cabinet_history [] (b ∷ others) like = absurd like
happenings-alike cabinet_history (a ∷ acts) [] like = absurd like
happenings-alike cabinet_history (a ∷ acts) (b ∷ others) like =
    ap (λ (x : List Happening). x ++ acts_happenings (with_item cabinet_history a.item) acts) (one-same item_happenings (λ s p q. refl) cabinet_history a b like.0)
    ∙ ap (λ (i : Item). item_happenings cabinet_history b.pass b.item ++ acts_happenings (with_item cabinet_history i) acts) like.0.item
    ∙ ap (λ (x : List Happening). item_happenings cabinet_history b.pass b.item ++ x) (happenings-alike (with_item cabinet_history b.item) acts others like.1)

items-alike : (acts others : List Act) → AreAlike acts others → items_in acts ≡ items_in others
items-alike [] [] like = refl
items-alike [] (b ∷ others) like = absurd like
items-alike (a ∷ acts) [] like = absurd like
items-alike (a ∷ acts) (b ∷ others) like =
    ap (λ (i : Item). i ∷ items_in acts) like.0.item ∙ ap (λ (x : List Item). b.item ∷ x) (items-alike acts others like.1)

-- the passes before count the same below the passes of ticks
abbrev SameBelow : List ℕ → List ℕ → Type 0
SameBelow read before = (p : ℕ) → p < 4 → times p read ≡ times p before

-- a pass and what it is read as: a low one is itself, and one of ticks stays one
abbrev How : ℕ → ℕ → Type 0
How q r = ((q ≡ r) × (q < 4)) ⊎ ((4 ≤ q) × (4 ≤ r))

how-read : (q : ℕ) → How q (read_pass q)
how-read q = elim (read-is q) [
  | AsFour from to is ↦ inr (omega (arith, from), omega (arith, is))
  | AsItself apart is ↦ elim (cases_lt q 4) [ inl less ↦ inl (sym is, less) | inr more ↦ inr (more, omega (arith, is, more)) ]
]

below-more : (read before : List ℕ) (q r : ℕ) → How q r → SameBelow read before → SameBelow (r ∷ read) (q ∷ before)
below-more read before q r (inl low) so p less = subst (λ (x : ℕ). times p (x ∷ read) ≡ times p (q ∷ before)) low.0 one
  where
    one : times p (q ∷ read) ≡ times p (q ∷ before)
    one = elim (eqb_tells p q) [
      | inl (t, e) ↦ count-here p q read e ∙ ap (λ (n : ℕ). n + 1) (so p less) ∙ sym (count-here p q before e)
      | inr (t, ne) ↦ count-else p q read ne ∙ so p less ∙ sym (count-else p q before ne)
    ]
below-more read before q r (inr high) so p less =
    count-else p r read (λ z. omega (arith, z, less, high.1)) ∙ so p less ∙ sym (count-else p q before (λ z. omega (arith, z, less, high.0)))

-- a low pass brings the same item, and each pass of ticks a tick
same-act : (streams : Streams) (read before : List ℕ) (q r : ℕ) → How q r → SameBelow read before
    → Alike (act_of (items_of streams) read r) (act_of (items_of streams) before q)
same-act streams read before q r (inl low) so = record {
  item = ap (λ (p : ℕ). get_or (get_or (items_of streams) p []) (times p read) Ticked) (sym low.0)
      ∙ ap (λ (n : ℕ). get_or (get_or (items_of streams) q []) n Ticked) (so q low.1);
  pass = inl (sym low.0);
}
same-act streams read before q r (inr high) so = record {
  item = tick_item streams r (times r read) high.1 ∙ sym (tick_item streams q (times q before) high.0);
  pass = inr (tick_item streams q (times q before) high.0);
}

alike-from : (streams : Streams) (read before journal : List ℕ) → SameBelow read before
    → AreAlike (acts_from (items_of streams) read (read_journal journal)) (acts_from (items_of streams) before journal)
alike-from streams read before [] so = tt
alike-from streams read before (q ∷ journal) so = (
  same-act streams read before q (read_pass q) (how-read q) so,
  alike-from streams (read_pass q ∷ read) (q ∷ before) journal (below-more read before q (read_pass q) (how-read q) so),
)

-- the round of a cabinet is as before
pub round-reread : (c : Cabinet) (streams : Streams) (old new : Happened) (cabinet_history : CabinetHistory) → journal_in new ≡ read_journal (journal_in old)
    → written_of new ≡ written_of old → answered_of new ≡ answered_of old → RoundStands c streams old cabinet_history → RoundStands c streams new cabinet_history
round-reread c streams old new cabinet_history journal written replies so =
    let acts = acts_so_far streams old in
    let read : List Act = acts_of (items_of streams) (read_journal (journal_in old)) in
    let same : acts_so_far streams new ≡ read = ap (acts_of (items_of streams)) journal in
    let alike : AreAlike read acts = alike-from streams [] [] (journal_in old) (λ p less. refl) in
    record {
      cabinet = subst (λ (x : List Act). CabinetStands c (after cabinet_history (items_in x))) (sym same)
          (subst (λ (x : List Item). CabinetStands c (after cabinet_history x)) (sym (items-alike read acts alike)) so.cabinet);
      written = subst (IsWritten new cabinet_history) (sym same) (record {
        frames = written ∙ so.written.frames ∙ sym (written-alike cabinet_history read acts alike);
        replies = ap replies_in replies ∙ so.written.replies ∙ sym (replies-alike cabinet_history read acts alike);
        order = ap (λ (x : List (ℕ × Frame)). interleaved 0 x (answered_of new)) written
            ∙ ap (interleaved 0 (written_of old)) replies
            ∙ so.written.order
            ∙ sym (happenings-alike cabinet_history read acts alike);
        counts = subst (λ (x : List (ℕ × Frame)). AreInOrder 0 (answered_of new) (length x)) (sym written)
            (subst (λ (x : List Answered). AreInOrder 0 x (length (written_of old))) (sym replies) so.written.counts);
      });
    }
