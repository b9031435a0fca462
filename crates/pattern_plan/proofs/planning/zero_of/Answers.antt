use Rattle.std.proofs.Common.{◌≤◌, ℕ, List, get_or, ap, sym, subst}
use Rattle.pattern_plan.proofs.Points.{coordinated-few}
use Rattle.pattern_plan.proofs.planning.zero_of.Goals as goal

pub start_of-requires : goal.start_of-requires
start_of-requires c = record { within = subst (λ (x : ℕ). x ≤ 16) (sym (ap (λ (xs : List ℕ). get_or xs 0 0) c.requires.held)) (coordinated-few c.args.tables.now c.args.pattern 1) }

pub start_of-requires-2 : goal.start_of-requires-2
start_of-requires-2 c = record { within = subst (λ (x : ℕ). x ≤ 16) (sym (ap (λ (xs : List ℕ). get_or xs 1 0) c.requires.held)) (coordinated-few c.args.tables.now c.args.pattern 2) }
