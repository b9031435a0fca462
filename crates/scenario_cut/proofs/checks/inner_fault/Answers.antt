use Rattle.std.proofs.Common.{◌≡◌, Some, codes, sym}
use Rattle.serde_json.specs.Find.{get}
use Rattle.serde_json.specs.View.{view}
use Rattle.scenario_cut.proofs.Passes.{kept-inside}
use Rattle.scenario_cut.proofs.checks.inner_fault.Goals as goal

pub returns-in-Ok-clause-none : goal.returns-in-Ok-clause-none
returns-in-Ok-clause-none c = λ d reads kept.
    let frame = view c.args.frame.now in
    let v = view c.in-Some.setup.now in
    let stands : Some v ≡ get (codes "scenario") frame = c.in-Some.ensures in
    let answer = c.in-Ok.ensures d reads (kept-inside d frame v kept (sym stands)) in
    record { clean = answer.0; is = answer.1 }

pub returns-in-Err-clause-fault : goal.returns-in-Err-clause-fault
returns-in-Err-clause-fault c = λ d reads kept.
    let frame = view c.args.frame.now in
    let v = view c.in-Some.setup.now in
    let stands : Some v ≡ get (codes "scenario") frame = c.in-Some.ensures in
    c.in-Err.ensures d reads (kept-inside d frame v kept (sym stands))
