use Rattle.std.proofs.Common.{true, false}
use Rattle.judge_session.specs.Told.{load_told}
use Rattle.judged_runs.specs.Loads.{brought_to}
use Rattle.judged_runs.proofs.Owning.{Laws, all-loads, loads-known, loads-own}
use Rattle.judged_runs.proofs.own_messages_bring_own_loads.Goals as goal

pub returns-clause-own : goal.returns-clause-own
returns-clause-own c = λ s journals own cab end come.
    let laws : Laws = record { parts = c.parts_come_in_order.ensures; finish = c.installs_what_keeps_the_rules.ensures } in
    loads-own false (load_told s cab) laws end.cabinet_history.community end.cabinet_history.opening end.cabinet_history.items (own cab end come)

pub returns-clause-loads : goal.returns-clause-loads
returns-clause-loads c = λ s journals own cab end come.
    let laws : Laws = record { parts = c.parts_come_in_order.ensures; finish = c.installs_what_keeps_the_rules.ensures } in
    all-loads (load_told s cab) (brought_to end.cabinet_history)
    (loads-own true (load_told s cab) laws end.cabinet_history.community end.cabinet_history.opening end.cabinet_history.items (own cab end come))
    (loads-known true (load_told s cab) laws end.cabinet_history.community end.cabinet_history.opening end.cabinet_history.items (own cab end come))
