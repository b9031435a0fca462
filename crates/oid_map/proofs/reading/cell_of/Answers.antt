use Rattle.std.proofs.Common.{◌∙◌, ap}
use Rattle.oid_map.specs.Reading.{name_at}
use Rattle.oid_map.proofs.Back.{back, none_is_right}
use Rattle.oid_map.proofs.reading.cell_of.Goals as goal

pub returns-clause-each : goal.returns-clause-each
returns-clause-each c n h e = c.name_of.ensures.reads ∙ ap name_at (c.as_slice.ensures.value ∙ e) ∙ back n h

pub returns-clause-none : goal.returns-clause-none
returns-clause-none c = none_is_right c.name_of.result c.args.name.now.items (λ n h e. c.name_of.ensures.reads ∙ ap name_at (c.as_slice.ensures.value ∙ e) ∙ back n h)
