use Rattle.std.proofs.Common.{◌≤◌, ◌<◌, ℕ, List, length, get_or, subst, sym}
use Rattle.cab_book.proofs.Joins.{each-some}
use Rattle.cab_book.proofs.journal.Journal.join_ticks.Goals as goal

pub join_runs-kept-requires-clause-some : goal.join_runs-kept-requires-clause-some
join_runs-kept-requires-clause-some c =
    subst (λ (runs : List (ℕ × ℕ)). (k : ℕ) (d : ℕ × ℕ) → k < length runs → 1 ≤ (get_or runs k d).1) (sym c.as_mut_slice.ensures.value)
    (each-some c.args.self.now.runs.items c.args.self.now.longest)
