use Rattle.std.proofs.Common.{◌≡◌, ◌+◌, ◌<◌, false, List, length, get_or, sym, ap, ◌∙◌, subst, arith}
use Rattle.std.proofs.lemmas.List.{length_push}
use Rattle.detector_bank.specs.declared.bank.Detector.{Detector}
use Rattle.detector_bank.specs.declared.detector_state.DetectorState.{DetectorState}
use Rattle.detector_bank.specs.Watching.{Posted}
use Rattle.detector_bank.proofs.Counting.{same-item}
use Rattle.detector_bank.proofs.Walking.{each-more}
use Rattle.detector_bank.proofs.walk.detector_states_of.Goals as goal

pub loop-k-preserved : goal.loop-k-preserved
loop-k-preserved c =
    let l = c.loop-k in
    let ds = c.args.bank.now.items in
    let xs = l.detector_states.items in
    let x = c.new-detector_state.result in
    let e = c.index.result.now in
    let more = c.in-Ok-push.ensures.items in
    let longer : length c.push.new.self.items ≡ length xs + 1 = ap length more ∙ length_push xs x in
    let inside : l.k < length ds = omega arith in record {
      count = longer ∙ ap (λ n. n + 1) l.invariant.count;
      fresh = λ ps k p d sorts low.
          subst (λ (ys : List DetectorState). Posted (get_or ys k p) 0 c.args.sorted.now (get_or ds k d) ps 0) (sym more)
          (each-more (λ n q. Posted q 0 c.args.sorted.now (get_or ds n d) ps 0) xs x (λ m q less. l.invariant.fresh ps m q d sorts less)
          (subst (λ (f : Detector). Posted x 0 c.args.sorted.now f ps 0)
          (c.index.ensures ∙ same-item ds l.k e d inside ∙ ap (λ n. get_or ds n d) (sym l.invariant.count)) (c.new-detector_state.ensures.stands ps sorts)) k p (omega (arith, low, longer)));
      none = λ k p low.
          ap (λ (ys : List DetectorState). (get_or ys k p).calls) more
          ∙ each-more (λ n q. q.calls ≡ false) xs x (λ m q less. l.invariant.none m q less) c.new-detector_state.ensures.none k p (omega (arith, low, longer));
    }

pub returns-clause-fresh : goal.returns-clause-fresh
returns-clause-fresh c = λ ps k p d sorts low. let count = c.loop-k.invariant.count in c.loop-k.invariant.fresh ps k p d sorts (omega (arith, count, low))
