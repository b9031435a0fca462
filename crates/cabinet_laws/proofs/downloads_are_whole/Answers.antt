use Rattle.cabinet_history.specs.Coming.{coming}
use Rattle.cabinet_laws.proofs.Downloading.{staged-over}
use Rattle.cabinet_laws.proofs.Numbering.{parts-numbered}
use Rattle.cabinet_laws.proofs.Versions.{in-force-whole, version-counts, version-whole}
use Rattle.cabinet_laws.proofs.downloads_are_whole.Goals as goal

pub returns-clause-in_force : goal.returns-clause-in_force
returns-clause-in_force c = in-force-whole

pub returns-clause-version : goal.returns-clause-version
returns-clause-version c = version-counts

pub returns-clause-versions : goal.returns-clause-versions
returns-clause-versions c = version-whole

pub returns-clause-staged : goal.returns-clause-staged
returns-clause-staged c = staged-over

pub returns-clause-parts : goal.returns-clause-parts
returns-clause-parts c = λ cabinet_history. parts-numbered c.parts_come_in_order.ensures (coming cabinet_history).calls
