-- The counters of moments that continue the last one, coordinated in a pattern.
use Rattle.std.proofs.Common.{◌≡◌, ◌+◌, ◌-◌, ◌<◌, ◌≤◌, ℕ, zero, suc, true, List, [], ◌∷◌, ◌++◌, length, refl, sym, ◌∙◌, ap, subst, arith, eq-eqb}
use Rattle.sig_types.specs.declared.frame.Mode.{Mode}
use Rattle.sig_types.specs.declared.frame.Mode.TheVariants.{Coord}
use Rattle.sig_types.specs.declared.phase_set.PhaseSet.{PhaseSet}
use Rattle.sig_tables.specs.Past.{Moment}
use Rattle.sig_tables.specs.Looking.{last_frame}
use Rattle.sig_tables.specs.Counters.{counters_since}
use Rattle.coord_count.specs.declared.Count.{Count}
use Rattle.sig_tables.specs.Counting.{last_counter}
use Rattle.coord_count.specs.CountStands.{CountStands, counter_of}
use Rattle.coord_count.specs.Passed.{passed}
use Rattle.coord_count.proofs.Passed.{count-on}
use Rattle.look_back.specs.declared.counting.Counting.{Counting}
use Rattle.look_back.specs.Counts.{CountingStands, counters_in}
use Rattle.look_back.specs.Again.{ShowsAgain, AllGoOn}
use Rattle.look_back.proofs.Again.{last-shows}

-- the counter of a moment that is coordinated in the pattern is the first
pub counter-first : (n version : ℕ) (m : Moment) (past : List Moment) → m.frame.mode ≡ Coord n → m.frame.version ≡ version
    → counters_since n version (m ∷ past) ≡ m.frame.counter ∷ counters_since n version past
counter-first n version m past mode same =
    rw (mode, eq-eqb m.frame.version version same, eq-eqb n n refl) refl

-- a count of one counter more, and of one more
passed-on : (c : Count) (k : ℕ) → passed 1 (passed (suc k) c) ≡ passed (suc (suc k)) c
passed-on c k =
    let e : c.counter + suc k + 1 ≡ c.counter + suc (suc k) = omega arith in
    ap (λ (x : ℕ). record c { counter = x; changed = true }) e

-- the count of N
pub counted-on : (c : Count) (n version : ℕ) (active pressed : PhaseSet) (last : Moment) (before : List Moment)
    → CountStands c (counters_since n version (last ∷ before)) → last.frame.mode ≡ Coord n → last.frame.version ≡ version
    → (k : ℕ) (ms : List Moment) → length ms ≡ suc k → AllGoOn active pressed ms (last ∷ before)
    → CountStands (passed (suc k) c) (counters_since n version (ms ++ last ∷ before))
counted-on c n version active pressed last before stands mode same k [] few all = absurd (omega arith)
counted-on c n version active pressed last before stands mode same (suc k) (m ∷ []) few all = absurd (omega arith)
counted-on c n version active pressed last before stands mode same zero (m ∷ i ∷ ms) few all = absurd (omega arith)
counted-on c n version active pressed last before stands mode same zero (m ∷ []) few all =
    let in-step : m.frame.mode ≡ Coord n = all.0.shows.mode ∙ mode in
    let one : m.frame.counter ≡ last.frame.counter + 1 = all.0.counter n in-step in
    let was : counters_since n version (last ∷ before) ≡ last.frame.counter ∷ counters_since n version before =
    counter-first n version last before mode same in
    let is : counters_since n version (m ∷ last ∷ before) ≡ m.frame.counter ∷ counters_since n version (last ∷ before) =
    counter-first n version m (last ∷ before) in-step (all.0.shows.version ∙ same) in
    let on : CountStands (passed 1 c) ((last.frame.counter + 1) ∷ last.frame.counter ∷ counters_since n version before) =
    count-on c last.frame.counter (counters_since n version before) (subst (λ (xs : List ℕ). CountStands c xs) was stands) in
    let list : counters_since n version (m ∷ last ∷ before)
    ≡ (last.frame.counter + 1) ∷ last.frame.counter ∷ counters_since n version before =
    is ∙ ap (λ (x : ℕ). x ∷ counters_since n version (last ∷ before)) one ∙ ap (λ (xs : List ℕ). (last.frame.counter + 1) ∷ xs) was in
    subst (λ (xs : List ℕ). CountStands (passed 1 c) xs) (sym list) on
counted-on c n version active pressed last before stands mode same (suc k) (m ∷ i ∷ ms) few all =
    let were : ShowsAgain (last_frame (ms ++ last ∷ before)) last.frame = last-shows active pressed ms (last ∷ before) all.1.1 in
    let i-in-step : i.frame.mode ≡ Coord n = all.1.0.shows.mode ∙ were.mode ∙ mode in
    let i-same : i.frame.version ≡ version = all.1.0.shows.version ∙ were.version ∙ same in
    let in-step : m.frame.mode ≡ Coord n = all.0.shows.mode ∙ i-in-step in
    let one : m.frame.counter ≡ i.frame.counter + 1 = all.0.counter n in-step in
    let rest : List ℕ = counters_since n version (ms ++ last ∷ before) in
    let was : counters_since n version (i ∷ ms ++ last ∷ before) ≡ i.frame.counter ∷ rest =
    counter-first n version i (ms ++ last ∷ before) i-in-step i-same in
    let is : counters_since n version (m ∷ i ∷ ms ++ last ∷ before)
    ≡ m.frame.counter ∷ counters_since n version (i ∷ ms ++ last ∷ before) =
    counter-first n version m (i ∷ ms ++ last ∷ before) in-step (all.0.shows.version ∙ i-same) in
    let before-it : CountStands (passed (suc k) c) (i.frame.counter ∷ rest) =
    subst (λ (xs : List ℕ). CountStands (passed (suc k) c) xs) was
    (counted-on c n version active pressed last before stands mode same k (i ∷ ms) (omega arith) all.1) in
    let on : CountStands (passed 1 (passed (suc k) c)) ((i.frame.counter + 1) ∷ i.frame.counter ∷ rest) =
    count-on (passed (suc k) c) i.frame.counter rest before-it in
    let list : counters_since n version (m ∷ i ∷ ms ++ last ∷ before) ≡ (i.frame.counter + 1) ∷ i.frame.counter ∷ rest =
    is
    ∙ ap (λ (x : ℕ). x ∷ counters_since n version (i ∷ ms ++ last ∷ before)) one
    ∙ ap (λ (xs : List ℕ). (i.frame.counter + 1) ∷ xs) was in
    subst (λ (d : Count). CountStands d (counters_since n version (m ∷ i ∷ ms ++ last ∷ before))) (passed-on c k)
    (subst (λ (xs : List ℕ). CountStands (passed 1 (passed (suc k) c)) xs) (sym list) on)

-- without a pattern there are none, for any moments
pub none-counted : (mode : Mode) (version : ℕ) (before after : List Moment) → ((n : ℕ) → mode ≡ Coord n → ⊥)
    → counters_in mode version before ≡ counters_in mode version after
none-counted (Coord n) version before after h = absurd (h n refl)
none-counted _ version before after h = refl

-- what is kept continues with N
pub counting-on : (c : Counting) (d : Count) (n ticks : ℕ) (active pressed : PhaseSet) (last : Moment) (before ms : List Moment)
    → CountingStands c (last ∷ before) → length ms ≡ ticks → 0 < ticks → last.frame.counter + ticks ≤ 4294967295
    → AllGoOn active pressed ms (last ∷ before) → c.mode ≡ Coord n
    → (counter_of c.count + ticks ≤ 4294967295 → d ≡ passed ticks c.count)
    → CountingStands (record { mode = c.mode; version = c.version; count = d }) (ms ++ last ∷ before)
counting-on c d n ticks active pressed last before ms stands few some fits all coord is =
    let mode : last.frame.mode ≡ Coord n = sym stands.mode ∙ coord in
    let was : CountStands c.count (counters_since n c.version (last ∷ before)) =
    subst (λ (m : Mode). CountStands c.count (counters_in m c.version (last ∷ before))) coord stands.count in
    let first : counter_of c.count ≡ last.frame.counter =
    was.counter ∙ ap (λ (xs : List ℕ). last_counter xs) (counter-first n c.version last before mode (sym stands.version)) in
    let room : counter_of c.count + ticks ≤ 4294967295 = omega (arith, first, fits) in
    let more : ticks ≡ suc (ticks - 1) = omega (arith, some) in
    let whole : length ms ≡ suc (ticks - 1) = few ∙ more in
    let counted : CountStands (passed (suc (ticks - 1)) c.count) (counters_since n c.version (ms ++ last ∷ before)) =
    counted-on c.count n c.version active pressed last before was mode (sym stands.version) (ticks - 1) ms whole all in
    let done : CountStands d (counters_since n c.version (ms ++ last ∷ before)) =
    subst (λ (e : Count). CountStands e (counters_since n c.version (ms ++ last ∷ before)))
    (ap (λ (k : ℕ). passed k c.count) (sym more) ∙ sym (is room)) counted in
    let shows : ShowsAgain (last_frame (ms ++ last ∷ before)) last.frame = last-shows active pressed ms (last ∷ before) all in
    record {
      mode = stands.mode ∙ sym shows.mode;
      version = stands.version ∙ sym shows.version;
      count = subst (λ (m : Mode). CountStands d (counters_in m c.version (ms ++ last ∷ before))) (sym coord) done;
    }

pub counting-none : (c : Counting) (active pressed : PhaseSet) (last : Moment) (before ms : List Moment)
    → CountingStands c (last ∷ before) → AllGoOn active pressed ms (last ∷ before) → ((n : ℕ) → c.mode ≡ Coord n → ⊥)
    → CountingStands c (ms ++ last ∷ before)
counting-none c active pressed last before ms stands all h =
    let shows : ShowsAgain (last_frame (ms ++ last ∷ before)) last.frame = last-shows active pressed ms (last ∷ before) all in
    record {
      mode = stands.mode ∙ sym shows.mode;
      version = stands.version ∙ sym shows.version;
      count = subst (λ (xs : List ℕ). CountStands c.count xs) (none-counted c.mode c.version (last ∷ before) (ms ++ last ∷ before) h) stands.count;
    }
