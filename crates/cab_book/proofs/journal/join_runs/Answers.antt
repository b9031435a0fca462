use Rattle.std.proofs.Common.{◌≡◌, ◌<◌, ◌≤◌, ◌+◌, ◌++◌, ◌∙◌, ℕ, List, length, take, drop, get_or, sym, ap, subst, arith}
use Rattle.cabinet_history.specs.Journals.{times, runs_of, passes_of}
use Rattle.cab_book.specs.Runs.{with_run_last}
use Rattle.cab_book.specs.Shares.{read_pass, read_journal}
use Rattle.cab_book.proofs.Runs.{run-longest}
use Rattle.cab_book.proofs.Joins.{goes-on, few-on}
use Rattle.cab_book.proofs.journal.join_runs.Goals as goal

pub put_run-kept-requires-clause-few : goal.put_run-kept-requires-clause-few
put_run-kept-requires-clause-few c =
    let i = c.loop-place.invariant in
    let runs = c.args.runs.now in
    let now = c.loop-place.runs in
    let place : ℕ = c.loop-place.place in
    let x : ℕ × ℕ = get_or now place (0, 0) in
    let here : x ≡ get_or runs place (0, 0) = i.rest place (0, 0) (omega arith) in
    let few = few-on runs (take c.loop-place.kept now) (read_journal (passes_of runs)) place x (0, 0) (omega (arith, i.len)) here i.passes in
    let is = c.read_pass.ensures in
    subst (λ (p : ℕ). times p (passes_of (take c.loop-place.kept now)) + x.1 ≤ 4294967295) (sym is)
    (omega (arith, few, c.requires.few (read_pass x.0)))

pub loop-place-preserved : goal.loop-place-preserved
loop-place-preserved c =
    let i = c.loop-place.invariant in
    let e = c.put_run-kept.ensures in
    let runs = c.args.runs.now in
    let now = c.loop-place.runs in
    let place : ℕ = c.loop-place.place in
    let x : ℕ × ℕ = get_or now place (0, 0) in
    let front = take c.loop-place.kept now in
    let below : place < length runs = omega (arith, i.len) in
    let here : x ≡ get_or runs place (0, 0) = i.rest place (0, 0) (omega arith) in
    let some : 1 ≤ x.1 = subst (λ (y : ℕ × ℕ). 1 ≤ y.1) (sym here) (c.requires.some place (0, 0) below) in
    let same : take c.put_run-kept.result c.put_run-kept.new.runs ≡ with_run_last front (read_pass x.0) x.1 =
    e.runs ∙ ap (λ (p : ℕ). with_run_last front p x.1) c.read_pass.ensures in
    record {
      kept = omega (arith, e.within, i.kept);
      len = e.len ∙ i.len;
      passes = ap (λ (r : List (ℕ × ℕ)). passes_of r ++ read_journal (passes_of (drop (place + 1) runs))) same
          ∙ goes-on runs front (read_journal (passes_of runs)) place x (0, 0) below here i.passes;
      rest = λ k d more. e.rest k d (omega (arith, more, i.kept)) ∙ i.rest k d (omega (arith, more));
      longest = subst (λ (r : List (ℕ × ℕ)). r ≡ runs_of (passes_of r)) (sym same) (run-longest front (read_pass x.0) x.1 some i.longest);
    }
