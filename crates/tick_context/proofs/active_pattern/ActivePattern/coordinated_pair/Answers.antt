use Rattle.std.proofs.Common.{◌≡◌, ◌||◌, ◌==◌, ℕ, Bool, true, false, List, get_or, if◌then◌else◌, refl, ◌∙◌, ap}
use Rattle.sig_types.specs.PhaseSet.{has}
use Rattle.sig_tables.specs.declared.plan.Plan.{Plan}
use Rattle.sig_tables.specs.Splits.{coordinated_phases}
use Rattle.tick_context.proofs.active_pattern.ActivePattern.coordinated_pair.Goals as goal

either : (a b : Bool) → (a || b) ≡ (if a then true else if b then true else false)
either true b = refl
either false true = refl
either false false = refl

pub returns : goal.returns
returns c = record {
  pair = λ t n b p h.
      let phases : c.args.self.now.plan.coordinated ≡ coordinated_phases t n = ap (λ (x : Plan). x.coordinated) b.plan in
      c.union.ensures.has p
      ∙ ap (λ (x : Bool). x || has c.of-2.result p) (c.of.ensures p h)
      ∙ ap (λ (x : Bool). (p == get_or c.args.self.now.plan.coordinated 0 0) || x) (c.of-2.ensures p h)
      ∙ ap (λ (xs : List ℕ). (p == get_or xs 0 0) || (p == get_or xs 1 0)) phases
      ∙ either _ _;
}
