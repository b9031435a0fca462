use Rattle.std.proofs.Common.{refl, sym, subst}
use Rattle.sig_tables.specs.declared.tables.Tables.{Tables}
use Rattle.judge.specs.InForce.{IsInForce}
use Rattle.judge_session.proofs.watch.CabinetWatch.new.Goals as goal

pub returns : goal.returns
returns c = λ s cab e. record {
  version = refl;
  last = refl;
  known = refl;
  in_force = subst (λ (t : Tables). IsInForce c.new-in_force.result t) (sym e) c.new-in_force.ensures;
  judged = λ tables all. c.new-judge.ensures tables;
}
