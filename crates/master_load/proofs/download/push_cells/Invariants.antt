use Rattle.std.proofs.Common.{◌≡◌, ◌+◌, ◌++◌, length, map, drop, All}
use Rattle.snmp_msg.specs.Shortest.{IsWritableBind}
use Rattle.sig_tables.specs.Putting.{put_content}
use Rattle.master_load.specs.Downloads.{ArePuts, cell_bind}
use Rattle.master_load.proofs.download.push_cells.Given as goal

abbrev pub invariant-loop-put : goal.invariant-loop-put
invariant-loop-put l = record {
  count : length l.binds.items ≡ length l.fn.binds.items + l.put-index;
  pushed : l.binds.items ++ map cell_bind (map put_content (drop l.put-index l.cells)) ≡ l.fn.binds.items ++ map cell_bind (map put_content l.cells);
  puts : ArePuts (map put_content (drop l.put-index l.cells));
  writable : All IsWritableBind l.binds.items;
}
