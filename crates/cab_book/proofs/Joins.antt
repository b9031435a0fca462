-- Runs brought together at the front of a list, with the passes of ticks read as one.
use Rattle.std.proofs.Common.{◌≡◌, ◌≤◌, ◌<◌, ◌+◌, ◌==◌, ◌∙◌, ℕ, zero, suc, Bool, true, false, if◌then◌else◌, List, [], ◌∷◌, ◌++◌, length, replicate, drop, get_or, refl, sym, ap, subst, append_assoc, add-one, drop-cons, arith}
use Rattle.std.proofs.lemmas.List.{map-append}
use Rattle.cabinet_history.specs.Journals.{times, with_run, runs_of, passes_of}
use Rattle.cab_book.specs.Runs.{with_run_last}
use Rattle.cab_book.specs.Shares.{read_pass, read_journal}
use Rattle.cab_book.proofs.Runs.{passes-run, times_both, times_run}

read-replicate : (many pass : ℕ) → read_journal (replicate many pass) ≡ replicate many (read_pass pass)
read-replicate zero pass = refl
read-replicate (suc many) pass = ap (λ (x : List ℕ). read_pass pass ∷ x) (read-replicate many pass)

-- the next run, and what follows it
next-run : (runs : List (ℕ × ℕ)) (place : ℕ) (x d : ℕ × ℕ) → place < length runs → x ≡ get_or runs place d
    → read_journal (passes_of (drop place runs)) ≡ replicate x.1 (read_pass x.0) ++ read_journal (passes_of (drop (place + 1) runs))
next-run runs place x d below is =
    ap (λ (r : List (ℕ × ℕ)). read_journal (passes_of r)) (drop-cons runs place d below)
    ∙ ap (λ (y : ℕ × ℕ). read_journal (replicate y.1 y.0 ++ passes_of (drop (suc place) runs))) (sym is)
    ∙ map-append read_pass (replicate x.1 x.0) (passes_of (drop (suc place) runs))
    ∙ ap (λ (r : List ℕ). r ++ read_journal (passes_of (drop (suc place) runs))) (read-replicate x.1 x.0)
    ∙ ap (λ (n : ℕ). replicate x.1 (read_pass x.0) ++ read_journal (passes_of (drop n runs))) (sym (add-one place))

-- the runs in front have advanced by it
pub goes-on : (runs front : List (ℕ × ℕ)) (whole : List ℕ) (place : ℕ) (x d : ℕ × ℕ) → place < length runs → x ≡ get_or runs place d
    → passes_of front ++ read_journal (passes_of (drop place runs)) ≡ whole
    → passes_of (with_run_last front (read_pass x.0) x.1) ++ read_journal (passes_of (drop (place + 1) runs)) ≡ whole
goes-on runs front whole place x d below is so =
    let rest = read_journal (passes_of (drop (place + 1) runs)) in
    ap (λ (r : List ℕ). r ++ rest) (passes-run front (read_pass x.0) x.1)
    ∙ append_assoc (passes_of front) (replicate x.1 (read_pass x.0)) rest
    ∙ ap (λ (r : List ℕ). passes_of front ++ r) (sym (next-run runs place x d below is))
    ∙ so

-- and it is no longer than its pass is in the whole
pub few-on : (runs front : List (ℕ × ℕ)) (whole : List ℕ) (place : ℕ) (x d : ℕ × ℕ) → place < length runs → x ≡ get_or runs place d
    → passes_of front ++ read_journal (passes_of (drop place runs)) ≡ whole
    → times (read_pass x.0) (passes_of front) + x.1 ≤ times (read_pass x.0) whole
few-on runs front whole place x d below is so =
    let pass = read_pass x.0 in
    let rest = read_journal (passes_of (drop (place + 1) runs)) in
    let all : times pass (passes_of front ++ read_journal (passes_of (drop place runs))) ≡ times pass whole = ap (times pass) so in
    let both = times_both pass (passes_of front) (read_journal (passes_of (drop place runs))) in
    let behind : times pass (read_journal (passes_of (drop place runs))) ≡ times pass (replicate x.1 pass ++ rest) = ap (times pass) (next-run runs place x d below is) in
    omega (arith, all, both, behind, times_both pass (replicate x.1 pass) rest, times_run pass x.1)

-- each run is at least once
abbrev AllSome : List (ℕ × ℕ) → Type 0
AllSome runs = (k : ℕ) (d : ℕ × ℕ) → k < length runs → 1 ≤ (get_or runs k d).1

with-some : (pass : ℕ) (runs : List (ℕ × ℕ)) → AllSome runs → AllSome (with_run pass runs)
with-some pass [] some zero d below = omega arith
with-some pass [] some (suc k) d below = absurd (omega (arith, below))
with-some pass (run ∷ runs) some k d below = split (pass == run.0) k d below
  where
    split : (b : Bool) → AllSome (if b then (pass, run.1 + 1) ∷ runs else (pass, 1) ∷ run ∷ runs)
    split true zero d below = omega arith
    split true (suc k) d below = some (suc k) d (omega (arith, below))
    split false zero d below = omega arith
    split false (suc k) d below = some k d (omega (arith, below))

runs-some : (journal : List ℕ) → AllSome (runs_of journal)
runs-some [] k d below = absurd (omega (arith, below))
runs-some (pass ∷ journal) k d below = with-some pass (runs_of journal) (runs-some journal) k d below

pub each-some : (runs : List (ℕ × ℕ)) → runs ≡ runs_of (passes_of runs) → AllSome runs
each-some runs longest = subst AllSome (sym longest) (runs-some (passes_of runs))
