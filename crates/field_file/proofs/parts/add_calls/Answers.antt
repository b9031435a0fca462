use Rattle.std.proofs.Common.{arith}
use Rattle.serde_json.specs.View.{view}
use Rattle.field_file.proofs.Adding.{call-added, calls-added}
use Rattle.field_file.proofs.parts.add_calls.Goals as goal

pub loop-i-preserved : goal.loop-i-preserved
loop-i-preserved c = λ s w.
    let l = c.loop-i in
    call-added l.text c.add_input.new.self c.args.calls.now.items l.i c.index.result.now (view c.in-Ok.value) s (omega arith) c.index.ensures c.in-Ok.ensures c.in-Some-add_input.ensures (l.invariant s w)

pub returns : goal.returns
returns c = λ s w. let l = c.loop-i in calls-added l.text c.args.calls.now.items l.i s (omega arith) (l.invariant s w)
