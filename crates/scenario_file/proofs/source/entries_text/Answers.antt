use Rattle.std.proofs.Common.{arith}
use Rattle.scenario_file.specs.Growing.{written}
use Rattle.scenario_file.proofs.Parts.{entry-next, entries-end}
use Rattle.scenario_file.proofs.source.entries_text.Goals as goal

pub loop-i-preserved : goal.loop-i-preserved
loop-i-preserved c = λ plain.
    let l = c.loop-i in
    entry-next c.args.entries.now.items l.i c.index.result.now (written l.text) (written c.add_value.new.self) (omega arith) c.index.ensures plain (l.invariant plain) c.in_ok-add_value.ensures

pub returns : goal.returns
returns c = λ plain. let l = c.loop-i in entries-end c.args.entries.now.items l.i (written l.text) (omega arith) (l.invariant plain)
