use Rattle.std.proofs.Common.{◌<◌, length, sym, arith}
use Rattle.detector_bank.proofs.Walking.{walked-next, walked-all}
use Rattle.detector_bank.proofs.walk.call_round.Goals as goal

pub loop-k-preserved : goal.loop-k-preserved
loop-k-preserved c =
    let l = c.loop-k in
    let ds = c.args.bank.now.items in
    let e = c.index.result.now in
    let inside : l.k < length ds = omega arith in record {
      walked = walked-next c.args.walk.now l.walk c.call_at.new.walk ds c.args.round l.k e inside c.index.ensures l.invariant.walked c.call_at.ensures.looks;
      tallies = λ t. c.call_at.ensures.tallies ds e inside (sym l.invariant.walked.fits.detector_states) c.index.ensures (l.invariant.tallies t);
    }

pub returns-clause-stands : goal.returns-clause-stands
returns-clause-stands c = walked-all c.args.walk.now c.loop-k.walk c.args.bank.now.items c.args.round c.loop-k.k (omega arith) c.loop-k.invariant.walked
