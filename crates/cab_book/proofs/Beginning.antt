-- A round at its start: nothing was brought, and all items are left.
use Rattle.std.proofs.Common.{◌≡◌, ◌≤◌, ◌<◌, ℕ, zero, suc, ◌+◌, ◌∙◌, List, [], ◌∷◌, length, get_or, replicate, refl, sym, ap, subst, arith}
use Rattle.std.proofs.lemmas.List.{length-map, length-replicate}
use Rattle.sig_types.specs.declared.frame.Frame.{Frame}
use Rattle.sig_types.specs.declared.streams.Streams.{Streams}
use Rattle.sig_types.specs.Items.{Item, InputTold, Ticked, items_of}
use Rattle.cabinet_history.specs.CabinetHistory.{CabinetHistory, after}
use Rattle.cabinet_history.specs.Journals.{Act, times, acts_of, items_in}
use Rattle.cab_book.specs.declared.cabinet.Cabinet.{Cabinet}
use Rattle.cab_book.specs.declared.happened.Answered.{Answered}
use Rattle.cab_book.specs.declared.happened.Happened.{Happened}
use Rattle.cab_book.specs.CabinetStands.{CabinetStands}
use Rattle.cab_book.specs.Happenings.{interleaved, replies_in, AreInOrder}
use Rattle.cab_book.specs.Happened.{IsWritten, journal_in, written_of, answered_of}
use Rattle.cab_book.proofs.Coming.{frames-many}
use Rattle.cab_book.proofs.Parts.{past_end}
use Rattle.cab_book.specs.Rounds.{CanBeTaken, ArePlaced, AreShort, AreTallied, acts_so_far, RoundStands}

-- the round begins at the cabinet history that the cabinet represents
pub round-begins : (c : Cabinet) (streams : Streams) (h : Happened) (cabinet_history : CabinetHistory) → journal_in h ≡ [] → written_of h ≡ [] → answered_of h ≡ []
    → CabinetStands c cabinet_history → RoundStands c streams h cabinet_history
round-begins c streams h cabinet_history journal written answered is =
    let acts : acts_so_far streams h ≡ [] = ap (acts_of (items_of streams)) journal in
    record {
      cabinet = subst (λ (x : List Act). CabinetStands c (after cabinet_history (items_in x))) (sym acts) is;
      written = subst (IsWritten h cabinet_history) (sym acts) (record {
        frames = written;
        replies = ap replies_in answered;
        order = ap (λ (x : List (ℕ × Frame)). interleaved 0 x (answered_of h)) written ∙ ap (interleaved 0 []) answered;
        counts = subst (λ (x : List Answered). AreInOrder 0 x (length (written_of h))) (sym answered) (omega arith);
      });
    }

-- no stream of a round that can be accepted has more items than the longest list, or its ticks
pub taken-small : (streams : Streams) → CanBeTaken streams → streams.ticks ≤ 2147483648 → (p : ℕ) → length (get_or (items_of streams) p []) ≤ 2147483648
taken-small streams can few zero = omega (arith, can.few_fields, length-map streams.fields.items InputTold)
taken-small streams can few (suc zero) = omega (arith, can.few_polls, frames-many streams.polls.items)
taken-small streams can few (suc (suc zero)) = omega (arith, can.few_loads, frames-many streams.loads.items)
taken-small streams can few (suc (suc (suc zero))) = omega (arith, can.few_prios, frames-many streams.prios.items)
taken-small streams can few (suc (suc (suc (suc zero)))) = omega (arith, few, length-replicate streams.ticks Ticked)
taken-small streams can few (suc (suc (suc (suc (suc p))))) = omega arith

-- the streams of a round that can be accepted are short
pub taken-short : (streams : Streams) → CanBeTaken streams → streams.ticks ≤ 4294967294 → AreShort streams
taken-short streams can few zero = omega (arith, can.few_fields, length-map streams.fields.items InputTold)
taken-short streams can few (suc zero) = omega (arith, can.few_polls, frames-many streams.polls.items)
taken-short streams can few (suc (suc zero)) = omega (arith, can.few_loads, frames-many streams.loads.items)
taken-short streams can few (suc (suc (suc zero))) = omega (arith, can.few_prios, frames-many streams.prios.items)
taken-short streams can few (suc (suc (suc (suc zero)))) = omega (arith, few, length-replicate streams.ticks Ticked)
taken-short streams can few (suc (suc (suc (suc (suc p))))) = omega arith

-- all items are left
pub all-left : (streams : Streams) (fields polls loads prios : ℕ) (h : Happened) → fields ≡ length streams.fields.items → polls ≡ length streams.polls.items
    → loads ≡ length streams.loads.items → prios ≡ length streams.prios.items → journal_in h ≡ []
    → AreTallied streams (fields ∷ polls ∷ loads ∷ prios ∷ streams.ticks ∷ 0 ∷ 0 ∷ 0 ∷ []) h
all-left streams fields polls loads prios h a b d e journal = record {
  each = each;
  ticks = omega (arith, none 4, none 5, none 6, none 7, length-replicate streams.ticks Ticked);
  others = others;
}
  where
    none : (p : ℕ) → times p (journal_in h) ≡ 0
    none p = ap (times p) journal

    left : List ℕ
    left = fields ∷ polls ∷ loads ∷ prios ∷ streams.ticks ∷ 0 ∷ 0 ∷ 0 ∷ []

    each : (p : ℕ) → p < 4 → get_or left p 0 + times p (journal_in h) ≡ length (get_or (items_of streams) p [])
    each zero low = omega (arith, none 0, a, length-map streams.fields.items InputTold)
    each (suc zero) low = omega (arith, none 1, b, frames-many streams.polls.items)
    each (suc (suc zero)) low = omega (arith, none 2, d, frames-many streams.loads.items)
    each (suc (suc (suc zero))) low = omega (arith, none 3, e, frames-many streams.prios.items)
    each (suc (suc (suc (suc p)))) low = absurd (omega (arith, low))

    others : (p : ℕ) → 8 ≤ p → get_or left p 0 + times p (journal_in h) ≡ 0
    others p high = omega (arith, none p, past_end left p high)

-- streams of no items
abbrev no_items : List Item
no_items = []

none_at : (p : ℕ) → get_or (replicate 5 no_items) p no_items ≡ no_items
none_at zero = refl
none_at (suc zero) = refl
none_at (suc (suc zero)) = refl
none_at (suc (suc (suc zero))) = refl
none_at (suc (suc (suc (suc zero)))) = refl
none_at (suc (suc (suc (suc (suc p))))) = refl

pub no-items : (streams : Streams) → items_of streams ≡ replicate 5 [] → (p : ℕ) → length (get_or (items_of streams) p []) ≡ 0
no-items streams none p =
    ap (λ (x : List (List Item)). length (get_or x p [])) none ∙ ap (λ (x : List Item). length x) (none_at p)

pub no-fields : (streams : Streams) → items_of streams ≡ replicate 5 [] → ArePlaced streams
no-fields streams none k field less = absurd (omega (arith, less, no-items streams none 0, length-map streams.fields.items InputTold))

-- nothing of any pass
abbrev zeros : List ℕ
zeros = replicate 8 0

zeros-at : (p : ℕ) → get_or zeros p 0 ≡ 0
zeros-at p = each 8 p
  where
    each : (many p : ℕ) → get_or {A = ℕ} (replicate many 0) p 0 ≡ 0
    each zero p = refl
    each (suc many) zero = refl
    each (suc many) (suc p) = each many p

pub none-left : (streams : Streams) (h : Happened) → items_of streams ≡ replicate 5 [] → journal_in h ≡ [] → AreTallied streams zeros h
none-left streams h none journal = record {
  each = λ p low. omega (arith, zeros-at p, never p, no-items streams none p);
  ticks = omega (arith, never 4, never 5, never 6, never 7, no-items streams none 4);
  others = λ p high. omega (arith, zeros-at p, never p);
}
  where
    never : (p : ℕ) → times p (journal_in h) ≡ 0
    never p = ap (times p) journal
