-- The journal of a round is a line of a trace: its runs are the longest, its passes are 0 to 4, and its counts take 32 bits.
use Rattle.std.proofs.Common.{◌≡◌, ◌≢◌, ◌<◌, ◌≤◌, ◌+◌, ◌∙◌, ◌^◌, ◌==◌, nat_le, sym, ℕ, zero, suc, Bool, true, false, if◌then◌else◌, List, [], ◌∷◌, length, get_or, refl, arith}
use Rattle.std.proofs.lemmas.Bool.{eqb-false, eqb-true, eq-eqb, leb-true, leb-false}
use Rattle.trace_text.specs.declared.lines.Line.TheVariants.{J}
use Rattle.trace_text.specs.IsLine.{IsLine, AreLongest, FitsRuns}
use Rattle.sig_types.specs.Items.{Item}
use Rattle.cabinet_history.specs.Journals.{times, IsMerge, with_run, runs_of}

abbrev Run : Type 0
Run = ℕ × ℕ

-- each run has an event, and no two neighbours are of one pass
abbrev Longest : List Run → Type 0
Longest [] = Unit {0}
Longest (r ∷ []) = 0 < r.1
Longest (r ∷ q ∷ runs) = (0 < r.1) × (r.0 ≢ q.0) × Longest (q ∷ runs)

with-longest : (pass : ℕ) (runs : List Run) → Longest runs → Longest (with_run pass runs)
with-longest pass [] h = omega arith
with-longest pass (r ∷ []) h = split (pass == r.0) refl
  where
    split : (b : Bool) → (pass == r.0) ≡ b → Longest (if b then (pass, r.1 + 1) ∷ [] else (pass, 1) ∷ r ∷ [])
    split true e = omega arith
    split false e = (omega arith, eqb-false pass r.0 e, h)
with-longest pass (r ∷ q ∷ runs) h = split (pass == r.0) refl
  where
    split : (b : Bool) → (pass == r.0) ≡ b → Longest (if b then (pass, r.1 + 1) ∷ q ∷ runs else (pass, 1) ∷ r ∷ q ∷ runs)
    split true e = (omega arith, (λ f. h.1 (sym (eqb-true pass r.0 e) ∙ f)), h.2)
    split false e = (omega arith, eqb-false pass r.0 e, h)

runs-longest : (journal : List ℕ) → Longest (runs_of journal)
runs-longest [] = tt
runs-longest (p ∷ journal) = with-longest p (runs_of journal) (runs-longest journal)

full : (runs : List Run) → Longest runs → (k : ℕ) → k < length runs → 0 < (get_or runs k (0, 0)).1
full [] h k below = absurd (omega (arith, below))
full (r ∷ []) h zero below = h
full (r ∷ []) h (suc k) below = absurd (omega (arith, below))
full (r ∷ q ∷ runs) h zero below = h.0
full (r ∷ q ∷ runs) h (suc k) below = full (q ∷ runs) h.2 k (omega (arith, below))

apart : (runs : List Run) → Longest runs → (k : ℕ) → k + 1 < length runs → (get_or runs k (0, 0)).0 ≢ (get_or runs (k + 1) (0, 0)).0
apart [] h k below = absurd (omega (arith, below))
apart (r ∷ []) h k below = absurd (omega (arith, below))
apart (r ∷ q ∷ runs) h zero below = h.1
apart (r ∷ q ∷ runs) h (suc k) below =
    let e : suc k + 1 ≡ suc (k + 1) = omega arith in
    rw e (apart (q ∷ runs) h.2 k (omega (arith, below)))

with-some : (pass : ℕ) (runs : List Run) → 0 < length (with_run pass runs)
with-some pass [] = omega arith
with-some pass (r ∷ runs) = split (pass == r.0)
  where
    split : (b : Bool) → 0 < length (if b then (pass, r.1 + 1) ∷ runs else (pass, 1) ∷ r ∷ runs)
    split true = omega arith
    split false = omega arith

runs-some : (journal : List ℕ) → 0 < length journal → 0 < length (runs_of journal)
runs-some [] some = some
runs-some (p ∷ journal) some = with-some p (runs_of journal)

are-longest : (journal : List ℕ) → 0 < length journal → AreLongest (runs_of journal)
are-longest journal some = record {
  some = runs-some journal some;
  full = full (runs_of journal) (runs-longest journal);
  apart = apart (runs_of journal) (runs-longest journal);
}

-- each run is of one of the passes 0 to 4, and has at most n events
abbrev AllWithin : ℕ → List Run → Type 0
AllWithin n [] = Unit {0}
AllWithin n (r ∷ runs) = (r.0 ≤ 4) × (r.1 ≤ n) × AllWithin n runs

-- each pass of a journal is one of these
abbrev pub AllEarly : List ℕ → Type 0
AllEarly [] = Unit {0}
AllEarly (p ∷ journal) = (p ≤ 4) × AllEarly journal

widen : (n m : ℕ) (runs : List Run) → n ≤ m → AllWithin n runs → AllWithin m runs
widen n m [] more h = tt
widen n m (r ∷ runs) more h = (h.0, (let l : r.1 ≤ n = h.1 in omega (arith, l, more)), widen n m runs more h.2)

with-within : (pass n m : ℕ) (runs : List Run) → pass ≤ 4 → n + 1 ≤ m → AllWithin n runs → AllWithin m (with_run pass runs)
with-within pass n m [] early more h = (early, omega (arith, more), tt)
with-within pass n m (r ∷ runs) early more h = split (pass == r.0)
  where
    split : (b : Bool) → AllWithin m (if b then (pass, r.1 + 1) ∷ runs else (pass, 1) ∷ r ∷ runs)
    split true = (early, (let l : r.1 ≤ n = h.1 in omega (arith, l, more)), widen n m runs (omega (arith, more)) h.2)
    split false = (early, omega (arith, more), widen n m (r ∷ runs) (omega (arith, more)) h)

runs-within : (journal : List ℕ) → AllEarly journal → AllWithin (length journal) (runs_of journal)
runs-within [] early = tt
runs-within (p ∷ journal) early =
    let more : length (p ∷ journal) ≡ suc (length journal) = refl in
    with-within p (length journal) (length (p ∷ journal)) (runs_of journal) early.0 (omega (arith, more)) (runs-within journal early.1)

within-fits : (n : ℕ) (runs : List Run) → n < 2 ^ 32 → AllWithin n runs → FitsRuns runs
within-fits n [] small h k below = absurd (omega (arith, below))
within-fits n (r ∷ runs) small h zero below =
    let pass : r.0 ≤ 4 = h.0 in
    let few : r.1 ≤ n = h.1 in
    (omega (arith, pass), omega (arith, few, small))
within-fits n (r ∷ runs) small h (suc k) below = within-fits n runs small h.2 k (omega (arith, below))

-- ---- merges

-- five streams: no pass above 4 has items
abbrev pub AreFive : List (List Item) → Type 0
AreFive streams = length streams ≡ 5

none-behind : (streams : List (List Item)) (p : ℕ) → length streams ≤ p → length (get_or streams p []) ≡ 0
none-behind [] p above = refl
none-behind (x ∷ streams) zero above = absurd (omega (arith, above))
none-behind (x ∷ streams) (suc p) above = none-behind streams p (omega (arith, above))

stands-once : (p : ℕ) (journal : List ℕ) → 1 ≤ times p (p ∷ journal)
stands-once p journal = let e : (p == p) ≡ true = eq-eqb p p refl in rw e (omega arith)

times-more : (p q : ℕ) (journal : List ℕ) → times p journal ≤ times p (q ∷ journal)
times-more p q journal = split (p == q)
  where
    split : (b : Bool) → times p journal ≤ (if b then times p journal + 1 else times p journal)
    split true = omega arith
    split false = omega arith

-- each pass that is in a journal has items
pub all-early : (streams : List (List Item)) (journal : List ℕ) → AreFive streams → ((p : ℕ) → times p journal ≤ length (get_or streams p [])) → AllEarly journal
all-early streams [] five few = tt
all-early streams (q ∷ journal) five few = (
  early,
  all-early streams journal five (λ p. let a = few p in let b = times-more p q journal in omega (arith, a, b)),
)
  where
    low : (b : Bool) → nat_le q 4 ≡ b → q ≤ 4
    low true e = leb-true q 4 e
    low false e =
        let above : 4 < q = leb-false q 4 e in
        let none : length (get_or streams q []) ≡ 0 = none-behind streams q (omega (arith, above, five)) in
        let some : 1 ≤ times q (q ∷ journal) = stands-once q journal in
        let most : times q (q ∷ journal) ≤ length (get_or streams q []) = few q in
        absurd (omega (arith, none, some, most))

    early : q ≤ 4
    early = low (nat_le q 4) refl

-- a journal is as long as its passes are in it
five-times : List ℕ → ℕ
five-times journal = times 0 journal + times 1 journal + times 2 journal + times 3 journal + times 4 journal

one-of-five : (p : ℕ) (journal : List ℕ) → p ≤ 4 → five-times journal + 1 ≤ five-times (p ∷ journal)
unfolding five-times
one-of-five zero journal low = omega arith
one-of-five (suc zero) journal low = omega arith
one-of-five (suc (suc zero)) journal low = omega arith
one-of-five (suc (suc (suc zero))) journal low = omega arith
one-of-five (suc (suc (suc (suc zero)))) journal low = omega arith
one-of-five (suc (suc (suc (suc (suc p))))) journal low = absurd (omega (arith, low))

as-long : (journal : List ℕ) → AllEarly journal → length journal ≤ five-times journal
as-long [] early = omega arith
as-long (p ∷ journal) early = omega (arith, one-of-five p journal early.0, as-long journal early.1)

-- streams that a journal can describe: some ticks, and not too many items
pub record CanBeTold (streams : List (List Item)) : Type 0 where
  pub five : AreFive streams
  pub few : (p : ℕ) → p < 4 → length (get_or streams p []) ≤ 1000000
  pub some_ticks : 1 ≤ length (get_or streams 4 [])
  pub few_ticks : length (get_or streams 4 []) ≤ 600

pub journal-line : (cab : ℕ) (streams : List (List Item)) (journal : List ℕ) → cab < 2 ^ 32 → CanBeTold streams → IsMerge streams journal
    → IsLine (J cab (runs_of journal))
unfolding five-times
journal-line cab streams journal small can is =
    let early : AllEarly journal = all-early streams journal can.five (λ p. let e = is p in omega (arith, e)) in
    let long : length journal ≤ five-times journal = as-long journal early in
    let ticks : times 4 journal ≡ length (get_or streams 4 []) = is 4 in
    let a : length (get_or streams 0 []) ≤ 1000000 = can.few 0 (omega arith) in
    let b : length (get_or streams 1 []) ≤ 1000000 = can.few 1 (omega arith) in
    let c : length (get_or streams 2 []) ≤ 1000000 = can.few 2 (omega arith) in
    let d : length (get_or streams 3 []) ≤ 1000000 = can.few 3 (omega arith) in
    let some : 0 < length journal = filled journal (omega (arith, ticks, can.some_ticks)) in (
      are-longest journal some,
      (
        small,
        within-fits (length journal) (runs_of journal) (omega (arith, long, ticks, can.few_ticks, is 0, is 1, is 2, is 3, a, b, c, d)) (runs-within journal early),
      ),
    )
  where
    filled : (xs : List ℕ) → 1 ≤ times 4 xs → 0 < length xs
    filled [] some = absurd (omega (arith, some))
    filled (x ∷ xs) some = omega arith
