use Rattle.std.proofs.lemmas.Bool.{false≢true}
use Rattle.sig_tables.specs.Decide.{past_at, since_opening}
use Rattle.plan_facts.specs.Disturbances.{no_drift, drift_of}
use Rattle.rule_facts.proofs.Admitted.{lawful}
use Rattle.coordination_laws.proofs.Meeting.{meets-each, meets-history}
use Rattle.coordination_laws.proofs.Lawfully.{tells-each}
use Rattle.coordination_laws.proofs.coordination_met.coordination_is_met.Goals as goal

pub returns-clause-drifting : goal.returns-clause-drifting
returns-clause-drifting c = λ h a range slow.
    meets-each (drift_of (past_at h)) (past_at h).moments
    (tells-each (drift_of (past_at h)) h.tables (since_opening h) (λ some. slow) (λ some. range) (lawful h.tables (since_opening h) a))

pub returns-clause-admitted_even : goal.returns-clause-admitted_even
returns-clause-admitted_even c = λ h a gain lose.
    meets-history h gain lose
    (tells-each no_drift h.tables (since_opening h) (λ e. absurd (false≢true e)) (λ e. absurd (false≢true e)) (lawful h.tables (since_opening h) a))

pub returns-clause-each_drift : goal.returns-clause-each_drift
returns-clause-each_drift c = λ h d l range slow.
    meets-each d (past_at h).moments (tells-each d h.tables (since_opening h) (λ some. slow) (λ some. range) l)

pub returns-clause-admitted : goal.returns-clause-admitted
returns-clause-admitted c = λ h a.
    meets-each no_drift (past_at h).moments
    (tells-each no_drift h.tables (since_opening h) (λ e. absurd (false≢true e)) (λ e. absurd (false≢true e)) (lawful h.tables (since_opening h) a))

pub returns-clause-each : goal.returns-clause-each
returns-clause-each c = λ h l.
    meets-each no_drift (past_at h).moments
    (tells-each no_drift h.tables (since_opening h) (λ e. absurd (false≢true e)) (λ e. absurd (false≢true e)) l)

pub returns-clause-history : goal.returns-clause-history
returns-clause-history c = λ h l gain lose.
    meets-history h gain lose
    (tells-each no_drift h.tables (since_opening h) (λ e. absurd (false≢true e)) (λ e. absurd (false≢true e)) l)
