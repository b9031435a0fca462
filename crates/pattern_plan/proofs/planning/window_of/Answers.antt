use Rattle.std.proofs.Common.{◌≡◌, ◌∙◌, ◌≤◌, ℕ, List, get_or, ap, sym, subst, refl}
use Rattle.sig_tables.specs.Slots.{coordinated_phase, force_point}
use Rattle.pattern_plan.proofs.Points.{coordinated-few, force-at}
use Rattle.pattern_plan.proofs.planning.window_of.Goals as goal

pub at-requires : goal.at-requires
at-requires c = record { within = subst (λ (x : ℕ). x ≤ 16) (sym (ap (λ (xs : List ℕ). get_or xs 0 0) c.requires.held)) (coordinated-few c.args.tables.now c.args.pattern 1) }

pub at-requires-2 : goal.at-requires-2
at-requires-2 c = record { within = subst (λ (x : ℕ). x ≤ 16) (sym (ap (λ (xs : List ℕ). get_or xs 1 0) c.requires.held)) (coordinated-few c.args.tables.now c.args.pattern 2) }

pub returns : goal.returns
returns c =
    let first : c.at.result ≡ force_point c.args.tables.now c.args.pattern (coordinated_phase c.args.tables.now c.args.pattern 1) =
    c.at.ensures ∙ rw (ap (λ (xs : List ℕ). get_or xs 0 0) c.requires.held)
    (force-at c.args.tables.now c.args.pattern c.args.force.now _ (coordinated-few c.args.tables.now c.args.pattern 1) c.requires.force) in
    let second : c.at-2.result ≡ force_point c.args.tables.now c.args.pattern (coordinated_phase c.args.tables.now c.args.pattern 2) =
    c.at-2.ensures ∙ rw (ap (λ (xs : List ℕ). get_or xs 1 0) c.requires.held)
    (force-at c.args.tables.now c.args.pattern c.args.force.now _ (coordinated-few c.args.tables.now c.args.pattern 2) c.requires.force) in
    c.min.ensures ∙ rw (first, second) refl
