use Rattle.std.proofs.Common.{true, false}
use Rattle.judged_runs.proofs.Arriving.{plain-own}
use Rattle.judged_runs.proofs.plain_links_bring_own_loads.Goals as goal

pub returns-clause-messages : goal.returns-clause-messages
returns-clause-messages c = λ only s run plain journals.
    plain-own only s plain (record { found = c.frames_ask_one_thing.ensures.found; loads = run.loads; few = run.few_loads; short = run.octets.short }) journals

pub returns-clause-own : goal.returns-clause-own
returns-clause-own c = λ s run plain journals. c.own_messages_bring_own_loads.ensures.own s journals
    (plain-own false s plain (record { found = c.frames_ask_one_thing.ensures.found; loads = run.loads; few = run.few_loads; short = run.octets.short }) journals)

pub returns-clause-loads : goal.returns-clause-loads
returns-clause-loads c = λ s run plain journals. c.own_messages_bring_own_loads.ensures.loads s journals
    (plain-own true s plain (record { found = c.frames_ask_one_thing.ensures.found; loads = run.loads; few = run.few_loads; short = run.octets.short }) journals)
