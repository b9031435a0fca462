use Rattle.std.proofs.Common.{map, arith}
use Rattle.scenario_read.specs.Fields.{object_of}
use Rattle.scenario_read.proofs.Walks.{Walked-refused}
use Rattle.field_read.specs.Table.{section_shape}
use Rattle.field_read.specs.Content.{rule_content, rule_of}
use Rattle.field_read.proofs.respond.rules_in.Goals as goal

pub returns-in-Err : goal.returns-in-Err
returns-in-Err c =
    let l = c.loop-section in
    Walked-refused (object_of section_shape) _ rule_of c.args.items.now.items (map rule_content l.found.items) l.section c.index.result.now c.in-Err.fail (omega arith)
    (rw (← c.index.ensures) c.in-Err.ensures) l.invariant
