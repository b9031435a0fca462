use Rattle.serde_json.specs.Data.{object}
use Rattle.field_read.proofs.list_reading.names_with.Goals as goal

pub returns : goal.returns
returns c =
    let found = c.in_ok-parts.ensures in
    (object found.ok.0, (found.utf8, found.ok.1), c.in_ok-listed.ensures found.ok.0 found.ok.2)
