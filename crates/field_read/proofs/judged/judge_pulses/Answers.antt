use Rattle.scenario_cut.proofs.Verdicts.{one-value}
use Rattle.field_read.proofs.Judging.{one-answer}
use Rattle.field_read.proofs.judged.judge_pulses.Goals as goal

pub returns-in-Some : goal.returns-in-Some
returns-in-Some c = λ d reads.
    let told = c.in-Some.ensures in
    one-answer c.args.extent c.in-Some.answer told.0 d (one-value c.args.bytes.now told.0 d told.1 reads) told.2
