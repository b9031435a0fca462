use Rattle.std.proofs.Common.{◌≢◌, ◌+◌, ◌<◌, ◌∙◌, arith, length, length-set, below_more, get_or-set_other, get_or-set_same}
use Rattle.judge.proofs.cabinet.CabinetJudge.each_overruns.Goals as goal

pub loop-p-preserved : goal.loop-p-preserved
loop-p-preserved c =
    let place : c.loop-p.p < length c.loop-p.overruns = omega arith in
    record {
      places = length-set _ _ _ ∙ c.loop-p.invariant.places;
      below = below_more _ _
          (λ k below. let ne : k ≢ c.loop-p.p = omega arith in rw get_or-set_other (c.loop-p.invariant.below k below))
          (rw get_or-set_same (c.overruns.ensures (c.loop-p.p + 1)));
    }

pub returns : goal.returns
returns c = λ k few. c.loop-p.invariant.below k (omega arith)
