use Rattle.sig_tables.specs.Decide.{since_opening}
use Rattle.rule_facts.proofs.Admitted.{lawful}
use Rattle.cabinet_history.specs.Coming.{history_of}
use Rattle.cabinet_laws.proofs.Admitting.{cabinet_history-lawful}
use Rattle.cabinet_laws.proofs.cabinet_histories_keep_to_plan.Goals as goal

pub returns : goal.returns
returns c = λ cabinet_history t d opens fits.
    c.keeps_to_plan.ensures.frames (history_of cabinet_history)
    (lawful (history_of cabinet_history).tables (since_opening (history_of cabinet_history)) (cabinet_history-lawful c.installs_what_keeps_the_rules.ensures cabinet_history t d opens fits))
