use Rattle.std.proofs.Common.{◌≡◌, drop}
use Rattle.sig_tables.specs.Tables.{yellow_time}
use Rattle.overlap_run.specs.Rules.{least, least_from}
use Rattle.overlap_run.proofs.rules.least_yellow.Given as goal

-- the least of the tables before this place, with those from it on
abbrev pub invariant-loop-k : goal.invariant-loop-k
invariant-loop-k l = least_from (λ t. yellow_time t l.phase) l.least (drop l.k l.tables) ≡ least (λ t. yellow_time t l.phase) l.tables
