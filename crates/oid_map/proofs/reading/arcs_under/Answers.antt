use Rattle.oid_map.proofs.Prefixes.{prefix_gives}
use Rattle.oid_map.proofs.reading.arcs_under.Goals as goal

pub returns : goal.returns
returns c = prefix_gives (λ r. r.now) c.strip_prefix.result c.args.prefix.now c.args.name.now c.strip_prefix.ensures.cases
