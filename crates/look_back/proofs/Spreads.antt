-- What is kept of the last moments, with one moment more.
use Rattle.std.proofs.Common.{◌≤◌, ◌+◌, ℕ, zero, suc, List, [], ◌∷◌, ◌++◌, take, replicate, arith}
use Rattle.sig_tables.specs.Past.{Moment}
use Rattle.look_back.specs.declared.sample.Sample.{Sample}
use Rattle.look_back.specs.declared.frame_runs.FrameRun.{FrameRun}
use Rattle.look_back.specs.Look.{Tells}
use Rattle.look_back.specs.Spread.{spread, EachLasts, TellLast}

-- what describes the last moments describes fewer of them
pub fewer : (k n : ℕ) (kept : List Sample) (past : List Moment) → k ≤ n → TellLast n kept past → TellLast k kept past
fewer zero n kept past le h = tt
fewer (suc k) zero kept past le h = absurd (omega arith)
fewer (suc k) (suc n) [] [] le h = tt
fewer (suc k) (suc n) [] (m ∷ past) le h = h
fewer (suc k) (suc n) (g ∷ kept) [] le h = h
fewer (suc k) (suc n) (g ∷ kept) (m ∷ past) le h = (h.0, fewer k n kept past (omega arith) h.1)

-- of a long run neither its length nor what comes after it counts
alike : (k a b : ℕ) (g : Sample) (xs ys : List Sample) (past : List Moment) → k ≤ a → k ≤ b
    → TellLast k (replicate a g ++ xs) past → TellLast k (replicate b g ++ ys) past
alike zero a b g xs ys past la lb h = tt
alike (suc k) zero b g xs ys past la lb h = absurd (omega arith)
alike (suc k) (suc a) zero g xs ys past la lb h = absurd (omega arith)
alike (suc k) (suc a) (suc b) g xs ys [] la lb h = h
alike (suc k) (suc a) (suc b) g xs ys (m ∷ past) la lb h = (h.0, alike k a b g xs ys past (omega arith) (omega arith) h.1)

-- after a run, what means the same may replace what was there
behind : (t k n : ℕ) (g : Sample) (xs ys : List Sample) (past : List Moment) → k ≤ t + n
    → ((j : ℕ) (before : List Moment) → j ≤ n → TellLast j xs before → TellLast j ys before)
    → TellLast k (replicate t g ++ xs) past → TellLast k (replicate t g ++ ys) past
behind zero k n g xs ys past le f h = f k past (omega arith) h
behind (suc t) zero n g xs ys past le f h = tt
behind (suc t) (suc k) n g xs ys [] le f h = h
behind (suc t) (suc k) n g xs ys (m ∷ past) le f h = (h.0, behind t k n g xs ys past (omega arith) f h.1)

-- N runs give N moments
pub cut : (n k : ℕ) (ss : List FrameRun) (past : List Moment) → k ≤ n → EachLasts ss
    → TellLast k (spread ss) past → TellLast k (spread (take n ss)) past
cut zero zero ss past le lasts h = tt
cut zero (suc k) ss past le lasts h = absurd (omega arith)
cut (suc n) k [] past le lasts h = h
cut (suc n) k (s ∷ ss) past le lasts h =
    let one : 1 ≤ s.ticks = lasts.0 in
    behind s.ticks k n s.sample (spread ss) (spread (take n ss)) past (omega arith) (λ j before few. cut n j ss before few lasts.1) h

-- the newest of them each have a frame, too
pub cut-lasts : (n : ℕ) (ss : List FrameRun) → EachLasts ss → EachLasts (take n ss)
cut-lasts zero ss lasts = tt
cut-lasts (suc n) [] lasts = tt
cut-lasts (suc n) (s ∷ ss) lasts = (lasts.0, cut-lasts n ss lasts.1)

-- one moment more, of which another is kept
pub add-other : (n : ℕ) (g : Sample) (kept : List Sample) (m : Moment) (past : List Moment) → Tells g m
    → TellLast n kept past → TellLast n (g ∷ kept) (m ∷ past)
add-other zero g kept m past tells h = tt
add-other (suc n) g kept m past tells h = (tells, fewer n (suc n) kept past (omega arith) h)

-- one moment more of a run that is as long as can be counted
pub add-full : (n t : ℕ) (g : Sample) (kept : List Sample) (m : Moment) (past : List Moment) → n ≤ t → Tells g m
    → TellLast n (replicate t g ++ kept) past → TellLast n (replicate t g ++ kept) (m ∷ past)
add-full zero t g kept m past le tells h = tt
add-full (suc n) zero g kept m past le tells h = absurd (omega arith)
add-full (suc n) (suc t) g kept m past le tells h =
    (tells, alike n (suc t) t g kept kept past (omega arith) (omega arith) (fewer n (suc n) (replicate (suc t) g ++ kept) past (omega arith) h))
