use Rattle.std.proofs.Common.{◌≡◌, ◌+◌, [], ◌∷◌, ◌++◌, subst, ◌∙◌, arith}
use Rattle.std.proofs.lemmas.Grind.{common_steps}
use Rattle.std.proofs.lemmas.List.{get_or_default}
use Rattle.sig_types.specs.declared.streams.Answers.{Answers}
use Rattle.link_sim.specs.Link.{Returns}
use Rattle.link_sim.proofs.Goes.{goes_next, stays_all}
use Rattle.link_sim.proofs.link.bring_all_back.Goals as goal

pub returns-in_err-arrived-clause-stays : goal.returns-in_err-arrived-clause-stays
returns-in_err-arrived-clause-stays c =
    stays_all _ _ c.args.up.now.items c.loop-k.up.items c.loop-k.all.items c.loop-k.k c.bring_back.new.lines (omega arith) c.loop-k.invariant
    c.index_mut.result.now c.index_mut.ensures.value (c.bring_back.ensures.stays (c.loop-k.k + 1)) (λ j x past are is. are)

pub returns-then-is_err-clause-stays : goal.returns-then-is_err-clause-stays
returns-then-is_err-clause-stays c =
    stays_all _ _ c.args.up.now.items c.loop-k.up.items c.loop-k.all.items c.loop-k.k c.bring_back.new.lines (omega arith) c.loop-k.invariant
    c.index_mut.result.now c.index_mut.ensures.value (c.bring_back.ensures.stays (c.loop-k.k + 1)) (λ j x past are is. are)

pub loop-k-preserved : goal.loop-k-preserved
loop-k-preserved c =
    let pushed : c.push.new.self.items ≡ c.loop-k.all.items ++ c.in_ok-arrived.arrived ∷ [] = grind (arith, common_steps) in
    rw pushed (goes_next _ _ c.args.up.now.items c.loop-k.up.items c.loop-k.all.items c.loop-k.k c.bring_back.new.lines c.in_ok-arrived.arrived (omega arith) c.loop-k.invariant
    c.index_mut.result.now c.index_mut.ensures.value
    (λ s m. subst (λ (x : Answers). Returns c.index_mut.result.now c.bring_back.new.lines c.args.lists.now s c.args.round (c.loop-k.k + 1) x c.in_ok-arrived.arrived)
    (c.index-answers-k.is ∙ get_or_default c.args.answers.now c.loop-k.k _ m (omega arith)) (c.in_ok-arrived.ensures.returns s (c.loop-k.k + 1)))
    (c.bring_back.ensures.stays (c.loop-k.k + 1)))
