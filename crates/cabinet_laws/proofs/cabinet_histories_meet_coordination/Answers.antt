use Rattle.std.proofs.Common.{◌≡◌, sym, ap, subst}
use Rattle.sig_tables.specs.Decide.{past_at}
use Rattle.plan_facts.specs.Disturbances.{Drift, IsSlow, drift_of, no_drift}
use Rattle.cabinet_history.specs.Coming.{history_of}
use Rattle.cabinet_laws.proofs.Admitting.{same-drift, cabinet_history-lawful}
use Rattle.cabinet_laws.proofs.Ranging.{all-ranged}
use Rattle.cabinet_laws.proofs.cabinet_histories_meet_coordination.Goals as goal

pub returns-clause-even : goal.returns-clause-even
returns-clause-even c = λ cabinet_history t opens fits.
    let same : drift_of (past_at (history_of cabinet_history)) ≡ no_drift = same-drift cabinet_history t no_drift opens in
    c.coordination_is_met.ensures.admitted_even (history_of cabinet_history)
    (cabinet_history-lawful c.installs_what_keeps_the_rules.ensures cabinet_history t no_drift opens fits)
    (ap (λ (d : Drift). d.gain) same) (ap (λ (d : Drift). d.lose) same)

pub returns-clause-drifting : goal.returns-clause-drifting
returns-clause-drifting c = λ cabinet_history t d opens fits ranges slow.
    c.coordination_is_met.ensures.drifting (history_of cabinet_history)
    (cabinet_history-lawful c.installs_what_keeps_the_rules.ensures cabinet_history t d opens fits) (all-ranged cabinet_history t d opens ranges)
    (subst IsSlow (sym (same-drift cabinet_history t d opens)) slow)
