use Rattle.std.proofs.Common.{List, ◌+◌, refl, ap, ◌∙◌, sym, subst, get_or, get_or-set_same, get_or-set_other}
use Rattle.std.specs.Prelude.{slice_set}
use Rattle.std.proofs.lemmas.List.{length-set}
use Rattle.detector_bank.specs.declared.bank.Pulse.{Pulse}
use Rattle.detector_bank.specs.declared.detector_state.DetectorState.{DetectorState}
use Rattle.detector_bank.specs.Watching.{Sorts, Posted}
use Rattle.detector_bank.proofs.Counting.{same-item}
use Rattle.detector_bank.proofs.walk.look.Goals as goal

pub returns-clause-looks : goal.returns-clause-looks
returns-clause-looks c =
    let k = c.args.k in
    let detector_states = c.args.walk.now.detector_states.items in
    let dues = c.args.walk.now.dues.items in
    let d = c.args.detector.now in
    let w = c.index_mut.result.now in
    let v = c.step.new.self in
    let n = c.step.result in
    let slice = c.as_slice.ensures.value in record {
      sorted = refl;
      many = length-set detector_states k v;
      as_many = length-set dues k n;
      detector_states = λ i p ne. get_or-set_other detector_states k i v p ne;
      dues = λ i ne. get_or-set_other dues k i n 0 ne;
      here = λ ps j p is sorts h.
          let mine = same-item detector_states k p w c.requires.detector_states ∙ sym c.index_mut.ensures.value in
          let before = subst (λ (q : DetectorState). Posted q (get_or dues k 0) c.as_slice.result.now d ps j) mine
          (subst (λ (xs : List Pulse). Posted (get_or detector_states k p) (get_or dues k 0) xs d ps j) (sym slice) h) in
          let after = c.step.ensures ps (get_or dues k 0) j is (subst (λ (xs : List Pulse). Sorts xs ps) (sym slice) sorts) before in
          subst (λ (q : DetectorState). Posted q (get_or (slice_set dues k n) k 0) c.args.walk.now.sorted.items d ps (j + 1)) (sym (get_or-set_same detector_states k v p c.requires.detector_states))
          (subst (λ m. Posted v m c.args.walk.now.sorted.items d ps (j + 1)) (sym (get_or-set_same dues k n 0 c.requires.dues))
          (subst (λ (xs : List Pulse). Posted v n xs d ps (j + 1)) slice after));
    }

pub returns-clause-set : goal.returns-clause-set
returns-clause-set c = λ p.
    ap (λ (q : DetectorState). slice_set c.args.walk.now.detector_states.items c.args.k q) (sym (get_or-set_same c.args.walk.now.detector_states.items c.args.k c.step.new.self p c.requires.detector_states))
