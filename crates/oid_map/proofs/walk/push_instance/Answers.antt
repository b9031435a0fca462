use Rattle.oid_map.proofs.walk.push_instance.Goals as goal

pub returns-in-TwoIndices : goal.returns-in-TwoIndices
returns-in-TwoIndices c = rw c.in-TwoIndices.is c.push_row-in-TwoIndices.ensures
