-- All that arrives at a cabinet is brought, pass after pass; and so to one cabinet after another.
use Rattle.std.proofs.Common.{◌≡◌, ◌≢◌, ◌<◌, ◌≤◌, ◌+◌, ◌∙◌, ℕ, zero, suc, inl, inr, List, [], ◌∷◌, ◌++◌, length, take, drop, replicate, get_or, slice_set, refl, sym, ap, subst, append_assoc, append-nil, drop-cons, add-one, arith}
use Rattle.std.proofs.lemmas.List.{append_cancel_right, get_or_default, get_or-map, length-set, replicate-append-replicate}
use Rattle.std.proofs.lemmas.Bool.{cases_lt}
use Rattle.std.proofs.lemmas.Bool.Decides.{eqb_tells}
use Rattle.sig_types.proofs.InTurn.{InTurn, InTurn-start, InTurn-set}
use Rattle.scenario_data.specs.Content.{ScenarioContent}
use Rattle.sig_types.specs.Items.{Item}
use Rattle.cabinet_history.specs.CabinetHistory.{CabinetHistory}
use Rattle.cabinet_history.specs.Journals.{times, serial_from, serial}
use Rattle.run_definition.specs.CabinetState.{CabinetState, coming_streams}
use Rattle.run_definition.specs.Orders.{serial_round}
use Rattle.cab_book.specs.declared.book.Book.{Book}
use Rattle.cab_book.specs.Books.{BookStands, IsOnePart, streams_in, journal_of, left_of, ticks_by_end}
use Rattle.cab_book.specs.Shares.{read_journal}
use Rattle.cab_book.proofs.OnePart.{one-tally, one-stays}
use Rattle.round_run.specs.CabinetStates.{HasRun, HaveRun, no_journals, TicksWithin}
use Rattle.round_run.specs.Joined.{Finishes}

-- that many items more of those of a pass: what is left of them comes after these
pub journal-more : (pass left many rest : ℕ) (before now whole : List ℕ) → now ≡ before ++ replicate many pass → rest + many ≡ left
    → before ++ replicate left pass ≡ whole → now ++ replicate rest pass ≡ whole
journal-more pass left many rest before now whole is count so =
    let all : many + rest ≡ left = omega (arith, count) in
    ap (λ (x : List ℕ). x ++ replicate rest pass) is
    ∙ append_assoc before (replicate many pass) (replicate rest pass)
    ∙ ap (λ (x : List ℕ). before ++ x) (replicate-append-replicate many rest pass)
    ∙ ap (λ (n : ℕ). before ++ replicate n pass) all
    ∙ so

-- what all passes before this one bring was brought
pub record BroughtTo (s : ScenarioContent) (cab : ℕ) (t : CabinetState) (pass : ℕ) (b : Book) : Type 0 where
  pub stands : BookStands b t.cabinet_history
  pub streams : streams_in b ≡ coming_streams s cab t
  pub journal : journal_of b ++ serial_from pass (drop pass (coming_streams s cab t)) ≡ serial (coming_streams s cab t)
  pub left : (p : ℕ) → pass ≤ p → left_of b p ≡ length (get_or (coming_streams s cab t) p [])
  pub one : IsOnePart b

pub brought-none : (s : ScenarioContent) (cab : ℕ) (t : CabinetState) (b : Book) → HasRun s cab t [] b → BroughtTo s cab t 0 b
brought-none s cab t b run = record {
  stands = run.stands;
  streams = run.streams;
  journal = ap (λ (passes : List ℕ). passes ++ serial (coming_streams s cab t)) run.journal_is;
  left = λ p any.
      let none : times p (journal_of b) ≡ 0 = ap (times p) run.journal_is in
      let length_is : length (get_or (streams_in b) p []) ≡ length (get_or (coming_streams s cab t) p []) =
      ap (λ (streams : List (List Item)). length (get_or streams p [])) run.streams in
      omega (arith, one-tally b run.one p, none, length_is);
  one = run.one;
}

-- what a pass does where it brings all that is left of its stream
pub record BringsAll (old new : Book) (pass : ℕ) : Type 0 where
  pub stands : (cabinet_history : CabinetHistory) → BookStands old cabinet_history → BookStands new cabinet_history
  pub streams : streams_in new ≡ streams_in old
  pub journal : journal_of new ≡ journal_of old ++ replicate (left_of old pass) pass
  pub own : left_of new pass ≡ 0
  pub others : (p : ℕ) → p ≢ pass → left_of new p ≡ left_of old p

pub brought-more : (s : ScenarioContent) (cab : ℕ) (t : CabinetState) (pass : ℕ) (old new : Book) → pass < 5 → BringsAll old new pass
    → BroughtTo s cab t pass old → BroughtTo s cab t (pass + 1) new
brought-more s cab t pass old new below brings so =
    let streams : List (List Item) = coming_streams s cab t in
    let next : drop pass streams ≡ get_or streams pass [] ∷ drop (suc pass) streams = drop-cons streams pass [] below in
    record {
      stands = brings.stands t.cabinet_history so.stands;
      streams = brings.streams ∙ so.streams;
      journal =
          ap (λ (passes : List ℕ). passes ++ serial_from (pass + 1) (drop (pass + 1) streams)) brings.journal
          ∙ append_assoc (journal_of old) (replicate (left_of old pass) pass) (serial_from (pass + 1) (drop (pass + 1) streams))
          ∙ ap (λ (n : ℕ). journal_of old ++ (replicate n pass ++ serial_from (pass + 1) (drop (pass + 1) streams))) (so.left pass (omega arith))
          ∙ ap (λ (n : ℕ). journal_of old ++ (replicate (length (get_or streams pass [])) pass ++ serial_from (pass + 1) (drop n streams))) (add-one pass)
          ∙ ap (λ (rest : List (List Item)). journal_of old ++ serial_from pass rest) (sym next)
          ∙ so.journal;
      left = λ p above.
          let other : p ≢ pass = omega (arith, above) in
          brings.others p other ∙ so.left p (omega (arith, above));
      one = one-stays old new pass (left_of old pass) below brings.journal brings.others so.one;
    }

pub brought-whole : (s : ScenarioContent) (cab : ℕ) (t : CabinetState) (pass : ℕ) (b : Book) → pass ≡ 5 → BroughtTo s cab t pass b
    → HasRun s cab t (serial (coming_streams s cab t)) b
brought-whole s cab t pass b last so = record {
  stands = so.stands;
  streams = so.streams;
  journal_is =
      sym (append-nil (journal_of b))
      ∙ ap (λ (n : ℕ). journal_of b ++ serial_from pass (drop n (coming_streams s cab t))) (sym last)
      ∙ so.journal;
  one = so.one;
}

-- the serial journal of some first streams, and then that of the others
serial-split : (first n : ℕ) (streams : List (List Item)) → serial_from first streams ≡ serial_from first (take n streams) ++ serial_from (first + n) (drop n streams)
serial-split first zero streams = let same : first ≡ first + 0 = omega arith in ap (λ (k : ℕ). serial_from k streams) same
serial-split first (suc n) [] = refl
serial-split first (suc n) (items ∷ others) =
    let own = replicate (length items) first in
    let number : first + 1 + n ≡ first + suc n = omega arith in
    ap (λ (passes : List ℕ). own ++ passes) (serial-split (first + 1) n others)
    ∙ ap (λ (k : ℕ). own ++ (serial_from (first + 1) (take n others) ++ serial_from k (drop n others))) number
    ∙ sym (append_assoc own (serial_from (first + 1) (take n others)) (serial_from (first + suc n) (drop n others)))

-- passes 0 to 3 have brought all of theirs
pub brought-beginning : (s : ScenarioContent) (cab : ℕ) (t : CabinetState) (pass : ℕ) (b : Book) → pass ≡ 4 → BroughtTo s cab t pass b
    → HasRun s cab t (serial (take 4 (coming_streams s cab t))) b
brought-beginning s cab t pass b last so =
    let streams : List (List Item) = coming_streams s cab t in
    let all : journal_of b ++ serial_from 4 (drop 4 streams) ≡ serial streams =
    subst (λ (n : ℕ). journal_of b ++ serial_from n (drop n streams) ≡ serial streams) last so.journal in
    record {
      stands = so.stands;
      streams = so.streams;
      journal_is = append_cancel_right (journal_of b) (serial (take 4 streams)) (serial_from 4 (drop 4 streams)) (all ∙ serial-split 0 4 streams);
      one = so.one;
    }

-- so far the passes below this one have nothing left, and the others what they had
pub record BegunTo (old new : Book) (pass : ℕ) : Type 0 where
  pub streams : streams_in new ≡ streams_in old
  pub none : (p : ℕ) → p < pass → left_of new p ≡ 0
  pub others : (p : ℕ) → pass ≤ p → left_of new p ≡ left_of old p
  pub ticks : ticks_by_end new ≡ ticks_by_end old

pub begun-more : (old now new : Book) (pass : ℕ) → BringsAll now new pass → ticks_by_end new ≡ ticks_by_end now → BegunTo old now pass → BegunTo old new (pass + 1)
begun-more old now new pass brings ticks so = record {
  streams = brings.streams ∙ so.streams;
  none = λ p below. elim (eqb_tells p pass) [
    | inl (t, same) ↦ subst (λ (q : ℕ). left_of new q ≡ 0) (sym same) brings.own
    | inr (t, other) ↦ brings.others p other ∙ so.none p (omega (arith, below, other))
  ];
  others = λ p above.
      let other : p ≢ pass = omega (arith, above) in
      brings.others p other ∙ so.others p (omega (arith, above));
  ticks = ticks ∙ so.ticks;
}

-- a book whose shares of ticks were joined has run what it had
pub joined-first : (s : ScenarioContent) (cab : ℕ) (t : CabinetState) (old new : Book) → ((cabinet_history : CabinetHistory) → BookStands old cabinet_history → BookStands new cabinet_history)
    → streams_in new ≡ streams_in old → journal_of new ≡ read_journal (journal_of old) → IsOnePart new → HasRun s cab t [] old → HasRun s cab t [] new
joined-first s cab t old new stands streams journal one run = record {
  stands = stands t.cabinet_history run.stands;
  streams = streams ∙ run.streams;
  journal_is = journal ∙ ap read_journal run.journal_is;
  one = one;
}

-- the passes before this one have brought all that was left of their streams
pub record FinishedTo (old new : Book) (pass : ℕ) : Type 0 where
  pub stands : (cabinet_history : CabinetHistory) → BookStands old cabinet_history → BookStands new cabinet_history
  pub streams : streams_in new ≡ streams_in old
  pub none : (p : ℕ) → p < pass → left_of new p ≡ 0
  pub one : IsOnePart new

pub finished-none : (old new : Book) → ((cabinet_history : CabinetHistory) → BookStands old cabinet_history → BookStands new cabinet_history) → streams_in new ≡ streams_in old → IsOnePart new
    → FinishedTo old new 0
finished-none old new stands streams one = record { stands = stands; streams = streams; none = λ p below. absurd (omega (arith, below)); one = one }

pub finished-more : (old now new : Book) (pass : ℕ) → pass < 5 → BringsAll now new pass → FinishedTo old now pass → FinishedTo old new (pass + 1)
finished-more old now new pass low brings so = record {
  stands = λ cabinet_history stood. brings.stands cabinet_history (so.stands cabinet_history stood);
  streams = brings.streams ∙ so.streams;
  none = λ p below. elim (eqb_tells p pass) [
    | inl (t, same) ↦ subst (λ (q : ℕ). left_of new q ≡ 0) (sym same) brings.own
    | inr (t, other) ↦ brings.others p other ∙ so.none p (omega (arith, below, other))
  ];
  one = one-stays now new pass (left_of now pass) low brings.journal brings.others so.one;
}

pub finished-whole : (old new : Book) (pass : ℕ) → pass ≡ 5 → ticks_by_end new ≡ ticks_by_end old → FinishedTo old new pass → Finishes old new
finished-whole old new pass last ticks so = record {
  stands = so.stands;
  streams = so.streams;
  merges = λ p. elim (cases_lt p 5) [
    | inl less ↦ omega (arith, one-tally new so.one p, so.none p (omega (arith, less, last)))
    | inr most ↦ omega (arith, one-tally new so.one p, so.one p most)
  ];
  one = so.one;
  ticks = ticks;
}

-- a book has run what was left of its round in the serial order
pub record BringsRound (old new : Book) : Type 0 where
  pub run : (s : ScenarioContent) (cab : ℕ) (t : CabinetState) → HasRun s cab t [] old → HasRun s cab t (serial (coming_streams s cab t)) new
  pub finishes : Finishes old new
  pub ticks : ticks_by_end new ≡ ticks_by_end old

-- the books so far have, and the others are as before
pub record RunTo (old now : List Book) (k : ℕ) : Type 0 where
  pub many : length now ≡ length old
  pub each : (b : Book) → InTurn (λ j was is. BringsRound was is) b old now k

pub run-none : (books : List Book) → RunTo books books 0
run-none books = record { many = refl; each = λ b. InTurn-start (λ j was is. BringsRound was is) b books }

pub run-more : (old now : List Book) (k : ℕ) (was new : Book) → k < length old → RunTo old now k → was ≡ get_or now k was → BringsRound was new
    → RunTo old (slice_set now k new) (k + 1)
run-more old now k was new below so is brings = record {
  many = length-set now k new ∙ so.many;
  each = λ b.
      let here : k < length now = omega (arith, below, so.many) in
      let same : was ≡ get_or old k b = is ∙ get_or_default now k was b here ∙ (so.each b).rest k (omega arith) in
      InTurn-set (λ j x y. BringsRound x y) b old now k new here (so.each b) (subst (λ (x : Book). BringsRound x new) same brings);
}

serial-length : (s : ScenarioContent) (first : ℕ) (ts : List CabinetState) → length (serial_round s first ts) ≡ length ts
serial-length s first [] = refl
serial-length s first (t ∷ ts) = ap suc (serial-length s (first + 1) ts)

serial-here : (s : ScenarioContent) (first : ℕ) (ts : List CabinetState) (k : ℕ) (t : CabinetState) (journal : List ℕ) → k < length ts
    → get_or (serial_round s first ts) k journal ≡ serial (coming_streams s (first + k) (get_or ts k t))
serial-here s first [] k t journal below = absurd (omega (arith, below))
serial-here s first (u ∷ ts) zero t journal below =
    let here : first ≡ first + 0 = omega arith in
    ap (λ (cab : ℕ). serial (coming_streams s cab u)) here
serial-here s first (u ∷ ts) (suc k) t journal below =
    let there : first + 1 + k ≡ first + suc k = omega arith in
    serial-here s (first + 1) ts k t journal (omega (arith, below)) ∙ ap (λ (cab : ℕ). serial (coming_streams s cab (get_or ts k t))) there

pub run-whole : (s : ScenarioContent) (ts : List CabinetState) (old now : List Book) (k : ℕ) → length old ≤ k → RunTo old now k
    → HaveRun s ts (no_journals ts) old → HaveRun s ts (serial_round s 1 ts) now
run-whole s ts old now k all so have = record {
  many = so.many ∙ have.many;
  as_many = serial-length s 1 ts;
  each = λ j b t journal below.
      let less : j < k = omega (arith, below, all, have.many) in
      let number : 1 + j ≡ j + 1 = omega arith in
      let own : HasRun s (j + 1) (get_or ts j t) [] (get_or old j b) =
      subst (λ (passes : List ℕ). HasRun s (j + 1) (get_or ts j t) passes (get_or old j b)) (get_or-map (λ (u : CabinetState). []) ts j t journal below)
      (have.each j b t journal below) in
      subst (λ (passes : List ℕ). HasRun s (j + 1) (get_or ts j t) passes (get_or now j b))
      (sym (serial-here s 1 ts j t journal below ∙ ap (λ (cab : ℕ). serial (coming_streams s cab (get_or ts j t))) number))
      (((so.each b).done j less).run s (j + 1) (get_or ts j t) own);
}

pub run-ticks : (old now : List Book) (k most : ℕ) → length old ≤ k → RunTo old now k → TicksWithin most old → TicksWithin most now
run-ticks old now k most all so few j b below =
    let less : j < k = omega (arith, below, all, so.many) in
    omega (arith, ((so.each b).done j less).ticks, few j b (omega (arith, below, so.many)))

pub run-finishes : (old now : List Book) (k : ℕ) → length old ≤ k → RunTo old now k → (j : ℕ) (b : Book) → j < length old
    → Finishes (get_or old j b) (get_or now j b)
run-finishes old now k all so j b below = ((so.each b).done j (omega (arith, below, all))).finishes
