use Rattle.sig_tables.specs.Standard.{std8}
use Rattle.sig_tables.proofs.StandardFits.{std8-fits}
use Rattle.cabinet_laws.proofs.standard_cabinet_histories_meet_coordination.Goals as goal

pub returns : goal.returns
returns c = λ cabinet_history d opens slow. c.cabinet_histories_meet_coordination.ensures.drifting cabinet_history std8 d opens c.standard_consistent.ensures.std8 std8-fits slow
