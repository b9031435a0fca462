use Rattle.oid_map.proofs.Rows.{row_past, row_found, row_ended}
use Rattle.oid_map.proofs.walk.push_row.Goals as goal

pub returns-in-None : goal.returns-in-None
returns-in-None c = row_past _ _ _ _ c.requires.some c.in-None.ensures

pub returns-then-push_indices : goal.returns-then-push_indices
returns-then-push_indices c = row_found _ _ _ _ _ _ _ c.requires.some c.in-Some.ensures c.push_all.ensures c.if-push_indices.ensures

pub returns : goal.returns
returns c = row_ended _ _ _ _ _ _ _ _ c.requires.some c.in-Some.ensures c.push_all.ensures c.if-push_indices.ensures (rw (← c.len-length.ensures.value) c.truncate.ensures.items)
