use Rattle.scenario_file.proofs.Right.{read-whole}
use Rattle.scenario_file.proofs.reading.listed.Goals as goal

pub source_of-requires : goal.source_of-requires
source_of-requires c =
    let seen = c.in_ok-whole.ensures in
    record { read = (_, read-whole c.args.bytes.now c.in_ok-whole.whole seen.ok.0 seen.ok.1 seen.ok.2 seen.sorted) }

pub returns-clause-scenario : goal.returns-clause-scenario
returns-clause-scenario c =
    let seen = c.in_ok-whole.ensures in
    let source = c.in_ok-scenario.ensures.source _ (read-whole c.args.bytes.now c.in_ok-whole.whole seen.ok.0 seen.ok.1 seen.ok.2 seen.sorted) in
    (_, (seen.utf8, seen.ok.1), source.faultless, source.said)

pub returns-clause-reads_back : goal.returns-clause-reads_back
returns-clause-reads_back c =
    let seen = c.in_ok-whole.ensures in
    let source = c.in_ok-scenario.ensures.source _ (read-whole c.args.bytes.now c.in_ok-whole.whole seen.ok.0 seen.ok.1 seen.ok.2 seen.sorted) in
    (_, source.back, source.faultless, source.said)
