use Rattle.std.proofs.Common.{◌≡◌, ◌≤◌, ◌++◌, ℕ, length, take, drop, get_or}
use Rattle.cabinet_history.specs.Journals.{runs_of, passes_of}
use Rattle.cab_book.specs.Shares.{read_journal}
use Rattle.cab_book.proofs.journal.join_runs.Given as goal

-- the runs before this place are together in front, and the others are as they were
abbrev pub invariant-loop-place : goal.invariant-loop-place
invariant-loop-place l = record {
  kept : l.kept ≤ l.place;
  len : length l.runs ≡ length l.fn.runs;
  passes : passes_of (take l.kept l.runs) ++ read_journal (passes_of (drop l.place l.fn.runs)) ≡ read_journal (passes_of l.fn.runs);
  rest : (k : ℕ) (d : ℕ × ℕ) → l.place ≤ k → get_or l.runs k d ≡ get_or l.fn.runs k d;
  longest : take l.kept l.runs ≡ runs_of (passes_of (take l.kept l.runs));
}
