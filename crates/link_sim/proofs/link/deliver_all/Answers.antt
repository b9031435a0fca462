use Rattle.std.proofs.Common.{◌≡◌, ◌+◌, ℕ, [], ◌∷◌, ◌++◌, subst, ap, ◌∙◌, arith}
use Rattle.std.proofs.lemmas.Grind.{common_steps}
use Rattle.std.proofs.lemmas.List.{get_or_default}
use Rattle.scenario_data.specs.Content.{scenario_content}
use Rattle.sig_types.specs.declared.streams.Sending.{Sending}
use Rattle.scenario_data.specs.declared.scenario.Direction.TheVariants.{Down}
use Rattle.link_sim.specs.Kept.{faults_in}
use Rattle.link_sim.specs.Link.{Delivers, Stays}
use Rattle.link_sim.proofs.Goes.{goes_next}
use Rattle.link_sim.proofs.link.deliver_all.Goals as goal

pub loop-k-preserved : goal.loop-k-preserved
loop-k-preserved c =
    let pushed : c.push.new.self.items ≡ c.loop-k.all.items ++ c.in_ok-streams.streams ∷ [] = grind (arith, common_steps) in
    let number = c.loop-k.invariant.0 in (
      ap (λ n. n + 1) number,
      rw pushed (goes_next _ _ c.args.down.now.items c.loop-k.down.items c.loop-k.all.items c.loop-k.k c.deliver.new.lines c.in_ok-streams.streams (omega arith) c.loop-k.invariant.1
          c.index_mut.result.now c.index_mut.ensures.value
          (λ m. subst (λ (x : Sending). Delivers c.index_mut.result.now c.deliver.new.lines c.args.lists.now (scenario_content c.args.s.now) c.args.round (c.loop-k.k + 1) x c.in_ok-streams.streams)
          (c.index-sendings-k.is ∙ get_or_default c.args.sendings.now c.loop-k.k _ m (omega arith))
          (subst (λ (n : ℕ). Delivers c.index_mut.result.now c.deliver.new.lines c.args.lists.now (scenario_content c.args.s.now) c.args.round n c.index-sendings-k.result c.in_ok-streams.streams)
          number c.in_ok-streams.ensures.delivers))
          (subst (λ (n : ℕ). Stays c.index_mut.result.now c.deliver.new.lines (faults_in c.args.lists.now.faults) n Down c.args.round) number c.deliver.ensures.stays)),
    )
