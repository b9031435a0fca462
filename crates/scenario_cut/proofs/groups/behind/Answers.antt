use Rattle.std.proofs.Common.{◌++◌, List, sym, ap, subst}
use Rattle.scenario_data.specs.Causes.{Cause}
use Rattle.scenario_read.specs.Readers.{Answers}
use Rattle.scenario_read.proofs.Refusing.{refuses_more}
use Rattle.scenario_cut.proofs.groups.behind.Goals as goal

pub returns-in-Ok : goal.returns-in-Ok
returns-in-Ok c = λ l e d causes h answer.
    let clean = (c.in-Ok.ensures l e d h).0 in
    subst (λ (xs : List Cause). Answers c.args.rest xs (λ x. Unit {0})) (sym (ap (λ (ys : List Cause). ys ++ causes) clean)) answer

pub returns-in-Err : goal.returns-in-Err
returns-in-Err c = λ l e d causes h answer. refuses_more c.in-Err.fail _ causes (c.in-Err.ensures l e d h)
