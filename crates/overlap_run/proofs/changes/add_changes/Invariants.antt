use Rattle.std.proofs.Common.{◌≡◌, ◌+◌, ◌++◌}
use Rattle.overlap_run.specs.declared.overlap.Timing.{Timing}
use Rattle.overlap_run.specs.Overlap.{overlap_at, greens_to}
use Rattle.overlap_run.specs.OverlapStands.{OverlapStands, IsOpened}
use Rattle.overlap_run.specs.Text.{changes_to}
use Rattle.overlap_run.specs.Parents.{parents_of, green_at, IsSeen}
use Rattle.overlap_run.proofs.changes.add_changes.Given as goal

-- the parents are seen, the overlap represents what was seen of them, and the lines of the changes so far are written
abbrev pub invariant-loop-done : goal.invariant-loop-done
invariant-loop-done l = record {
  seen : IsSeen (parents_of l.parents) l.frames.items (l.ticks + 1) l.done l.seen.0 l.seen.1;
  stands : (t : Timing) → IsOpened l.fn.start t → OverlapStands l.overlap t (greens_to (green_at (parents_of l.parents) l.frames.items) l.done);
  lines : (t : Timing) → IsOpened l.fn.start t
      → l.out.items ≡ l.fn.out.items ++ changes_to (overlap_at t (green_at (parents_of l.parents) l.frames.items)) l.done;
}
