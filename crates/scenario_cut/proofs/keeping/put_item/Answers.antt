use Rattle.std.proofs.Common.{◌≡◌, IfSome, sym, ap, ◌∙◌, subst}
use Rattle.serde_json.specs.Data.{Items, item}
use Rattle.serde_json.specs.View.{view, items_view}
use Rattle.scenario_cut.specs.Growing.{both}
use Rattle.scenario_cut.proofs.Turns.{push-more}
use Rattle.scenario_cut.proofs.keeping.put_item.Goals.{in-Ok, in-Err}
use Rattle.scenario_cut.proofs.keeping.put_item.Goals as goal

pub returns : goal.returns
returns c = elim c.match-push.branch [
  | in-Ok w ↦ subst (λ o. IfSome o (λ x. (rest : Items) → both (items_view c.args.found.now.items) (item (view c.args.value) rest) ≡ both (items_view c.push.new.self.items) rest)) (sym w.result-is)
      (λ rest. push-more c.args.found.now.items c.args.value rest ∙ ap (λ vs. both (items_view vs) rest) (sym w.in-Ok.ensures.items))
  | in-Err w ↦ subst (λ o. IfSome o (λ x. (rest : Items) → both (items_view c.args.found.now.items) (item (view c.args.value) rest) ≡ both (items_view c.push.new.self.items) rest)) (sym w.result-is) tt
]
