use Rattle.std.proofs.Common.{◌≡◌, List, rules, ap, ◌∙◌, sym, subst, get_or}
use Rattle.detector_bank.specs.declared.bank.Pulse.{Pulse}
use Rattle.detector_bank.specs.Watching.{at_key, Sorts, Posted}
use Rattle.detector_bank.proofs.Counting.{zeros}
use Rattle.detector_bank.proofs.walk.start.Goals as goal

pub returns-in-Ok-clause-stands : goal.returns-in-Ok-clause-stands
returns-in-Ok-clause-stands c =
    let same = c.as_slice.ensures.value in
    let sorts : Sorts c.in_ok-sorted.sorted.items c.args.pulses.now.items = record {
      few = c.requires.few;
      rises = c.in_ok-sorted.ensures.rises;
      same = λ n. c.in_ok-sorted.ensures.same n ∙ ap (λ xs. at_key n xs) same;
    } in record {
      sorts = sorts;
      each = λ k p d low.
          let none : get_or c.in-Ok.dues.items k 0 ≡ 0 = ap (λ xs. get_or xs k 0) (c.in-Ok.ensures.items_if_clones_equal (search rules)) ∙ zeros c.len.result k 0 in
          subst (λ n. Posted (get_or c.in_ok-detector_states.detector_states.items k p) n c.in_ok-sorted.sorted.items (get_or c.args.bank.now.items k d) c.args.pulses.now.items 0) (sym none)
          (subst (λ (xs : List Pulse). Posted (get_or c.in_ok-detector_states.detector_states.items k p) 0 xs (get_or c.args.bank.now.items k d) c.args.pulses.now.items 0) c.as_slice-2.ensures.value
          (c.in_ok-detector_states.ensures.fresh c.args.pulses.now.items k p d (subst (λ (xs : List Pulse). Sorts xs c.args.pulses.now.items) (sym c.as_slice-2.ensures.value) sorts) low));
    }
