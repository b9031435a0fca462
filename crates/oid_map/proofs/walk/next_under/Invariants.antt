use Rattle.std.proofs.Common.{◌≡◌, drop}
use Rattle.oid_map.specs.Steps.{AreRows}
use Rattle.oid_map.proofs.Rows.{Goes}
use Rattle.oid_map.proofs.walk.next_under.Given as goal

abbrev pub invariant-loop-object : goal.invariant-loop-object
invariant-loop-object l = record {
  same : l.out.items ≡ l.root;
  ranges : AreRows (drop l.object-index l.objects);
  goes : Goes l.rest l.objects l.object-index;
}
