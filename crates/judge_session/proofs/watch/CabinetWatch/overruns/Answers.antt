use Rattle.std.proofs.Common.{◌∙◌, ◌++◌, List, sym, ap}
use Rattle.safety_laws.specs.Safe.{told}
use Rattle.judge_laws.specs.declared.Overrun.{Overrun}
use Rattle.judge_session.specs.Told.{tables_before}
use Rattle.judge_session.specs.Report.{overruns_text}
use Rattle.judge_session.proofs.Adding.{on-ok-then}
use Rattle.judge_session.proofs.Watching.{over-known, judged-known}
use Rattle.judge_session.proofs.watch.CabinetWatch.overruns.Goals as goal

pub returns : goal.returns
returns c = on-ok-then _ _ c.put_overruns.result (λ put s before so.
    put ∙ ap (λ (xs : List Overrun). c.args.out.now.items ++ overruns_text xs)
    (c.overruns-overruns.ensures c.args.terms.joined (tables_before s before c.args.cab) (told c.args.cab before) c.args.cab
    (judged-known c.args.self.now s c.args.terms.joined c.args.cab before so c.if-not-self.false)
    ∙ sym (over-known s c.args.terms c.args.tick before c.args.cab (sym so.known ∙ c.if-not-self.false)))) c.put_overruns.ensures
