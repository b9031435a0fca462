use Rattle.std.proofs.Common.{◌≡◌, map, drop}
use Rattle.sig_tables.specs.Putting.{put_content, with_cells}
use Rattle.sig_tables.proofs.tables.Tables.put_each.Given as goal

-- putting what is left gives the same tables
abbrev pub invariant-loop-put : goal.invariant-loop-put
invariant-loop-put l = with_cells l.self (map put_content (drop l.put-index l.puts)) ≡ with_cells l.fn.self (map put_content l.puts)
