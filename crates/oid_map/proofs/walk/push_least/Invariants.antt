use Rattle.std.proofs.Common.{◌≡◌, ◌++◌, take, map}
use Rattle.oid_map.proofs.walk.push_least.Given as goal

abbrev pub invariant-loop-range : goal.invariant-loop-range
invariant-loop-range l = record {
  so_far : l.out.items ≡ l.fn.out.items ++ map (λ range. range.least) (take l.range-index l.indices);
}
