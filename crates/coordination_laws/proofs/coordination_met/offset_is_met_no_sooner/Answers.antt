use Rattle.std.proofs.Common.{refl}
use Rattle.std.proofs.lemmas.Bool.{false≢true}
use Rattle.sig_tables.specs.Decide.{past_at, since_opening}
use Rattle.plan_facts.specs.Disturbances.{no_drift}
use Rattle.rule_facts.proofs.Admitted.{lawful}
use Rattle.coordination_laws.proofs.Meeting.{no-sooner}
use Rattle.coordination_laws.proofs.Lawfully.{tells-each}
use Rattle.coordination_laws.proofs.coordination_met.offset_is_met_no_sooner.Goals as goal

pub returns : goal.returns
returns c = λ h n a.
    no-sooner no_drift n (past_at h).moments refl
    (tells-each no_drift h.tables (since_opening h) (λ e. absurd (false≢true e)) (λ e. absurd (false≢true e)) (lawful h.tables (since_opening h) a))
