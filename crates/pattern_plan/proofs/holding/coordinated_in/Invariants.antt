use Rattle.std.proofs.Common.{◌≡◌, ◌-◌, ◌==◌, ◌&&◌, ℕ, drop}
use Rattle.sig_types.specs.Phases.{those, only, all_phases}
use Rattle.sig_tables.specs.Tables.{ring_of}
use Rattle.sig_tables.specs.Slots.{is_coordinated, coordinated_phase}
use Rattle.sig_tables.specs.Layout.{Has}
use Rattle.pattern_plan.proofs.holding.coordinated_in.Given as goal

abbrev pub invariant-loop-phase : goal.invariant-loop-phase
invariant-loop-phase l = (n : ℕ) → Has l.coordinated (is_coordinated l.tables n)
    → only (those (λ p. ring_of l.tables p == l.ring && is_coordinated l.tables n p) (drop (l.phase - 1) all_phases)) ≡ coordinated_phase l.tables n l.ring
