use Rattle.coordination_laws.proofs.Greatest.{time-bounds, time-grows, pickup-grows, pickup-same, version-keeps, keeps-each, begun-version, is-late}
use Rattle.coordination_laws.proofs.sought_in_time.greatest_times.Goals as goal

pub returns-clause-bounds : goal.returns-clause-bounds
returns-clause-bounds c = time-bounds

pub returns-clause-grows : goal.returns-clause-grows
returns-clause-grows c = time-grows

pub returns-clause-bound : goal.returns-clause-bound
returns-clause-bound c = pickup-grows

pub returns-clause-keeps : goal.returns-clause-keeps
returns-clause-keeps c = version-keeps

pub returns-clause-each : goal.returns-clause-each
returns-clause-each c = keeps-each

pub returns-clause-latched : goal.returns-clause-latched
returns-clause-latched c = begun-version

pub returns-clause-late : goal.returns-clause-late
returns-clause-late c = is-late

pub returns-clause-same : goal.returns-clause-same
returns-clause-same c = pickup-same
