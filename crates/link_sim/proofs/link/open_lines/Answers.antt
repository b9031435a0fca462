use Rattle.std.proofs.Common.{◌≡◌, ◌+◌, ℕ, [], ◌∷◌, ◌++◌, length, get_or, inl, inr, sym, subst, ap, ◌∙◌, arith}
use Rattle.std.proofs.lemmas.Grind.{common_steps}
use Rattle.std.proofs.lemmas.Bool.{cases_lt}
use Rattle.std.proofs.lemmas.List.{get_or_append_left, length-append}
use Rattle.link_sim.specs.declared.lines.Lines.{Lines}
use Rattle.link_sim.specs.StreamFrames.{AreLines, nothing_passed}
use Rattle.link_sim.proofs.Goes.{get_or_last}
use Rattle.link_sim.proofs.link.open_lines.Goals as goal

pub loop-place-preserved : goal.loop-place-preserved
loop-place-preserved c =
    let count = c.loop-place.invariant.0 in
    let pushed : c.push.new.self.items ≡ c.loop-place.all.items ++ c.new.result ∷ [] = grind (arith, common_steps) in (
      ap length pushed ∙ omega (arith, count, length-append c.loop-place.all.items (c.new.result ∷ [])),
      λ k d faults low. subst (λ (lines : Lines). AreLines lines faults (k + 1) c.args.direction nothing_passed) (ap (λ all. get_or all k d) (sym pushed))
          (elim (cases_lt k c.loop-place.place) [
            | inl less ↦ subst (λ (lines : Lines). AreLines lines faults (k + 1) c.args.direction nothing_passed)
                (sym (get_or_append_left c.loop-place.all.items (c.new.result ∷ []) d k (omega (arith, less, count)))) (c.loop-place.invariant.1 k d faults less)
            | inr most ↦
                let same : c.loop-place.place ≡ k = omega (arith, low, most) in
                subst (λ (lines : Lines). AreLines lines faults (k + 1) c.args.direction nothing_passed)
                (sym (get_or_last c.loop-place.all.items c.new.result k d (count ∙ same)))
                (subst (λ (n : ℕ). AreLines c.new.result faults (n + 1) c.args.direction nothing_passed) same (c.new.ensures faults))
          ]),
    )
