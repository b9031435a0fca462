use Rattle.std.proofs.Common.{◌≡◌, ◌∙◌, ◌==◌, ◌&&◌, ◌+◌, ◌-◌, ◌≤◌, ℕ, List, Bool, true, false, drop, ap, sym, subst, arith}
use Rattle.sig_types.specs.Phases.{is_phase, those, only, all_phases}
use Rattle.sig_tables.specs.declared.tables.Tables.{Tables}
use Rattle.sig_tables.specs.Tables.{ring_of}
use Rattle.sig_tables.specs.Slots.{is_coordinated, coordinated_phase}
use Rattle.sig_tables.proofs.Below.{phase-is}
use Rattle.sig_tables.proofs.Filled.{phases-next}
use Rattle.pattern_plan.proofs.Points.{found-here, found-later}
use Rattle.pattern_plan.proofs.holding.coordinated_in.Goals as goal

-- a phase of ring r that pattern n coordinates
abbrev held_in : Tables → ℕ → ℕ → ℕ → Bool
held_in t n r p = ring_of t p == r && is_coordinated t n p

pub returns-then-is_held_in-clause-phase : goal.returns-then-is_held_in-clause-phase
returns-then-is_held_in-clause-phase c = λ n h.
    let k : ℕ = c.loop-phase.phase in
    let t : Tables = c.args.tables.now in
    let r : ℕ = c.args.ring in
    let is : is_phase k ≡ true = phase-is k (omega arith) (omega arith) in
    let passes : held_in t n r k ≡ true =
    ap (λ (b : Bool). ring_of t k == r && b) (sym (h k is)) ∙ sym c.is_held_in.ensures ∙ c.if-is_held_in.true in
    found-here (held_in t n r) k (drop k all_phases) (coordinated_phase t n r) passes
    (subst (λ (xs : List ℕ). only (those (held_in t n r) xs) ≡ coordinated_phase t n r) (phases-next k (omega arith) (omega arith)) (c.loop-phase.invariant n h))

pub loop-phase-preserved : goal.loop-phase-preserved
loop-phase-preserved c = λ n h.
    let k : ℕ = c.loop-phase.phase in
    let t : Tables = c.args.tables.now in
    let r : ℕ = c.args.ring in
    let is : is_phase k ≡ true = phase-is k (omega arith) (omega arith) in
    let fails : held_in t n r k ≡ false =
    ap (λ (b : Bool). ring_of t k == r && b) (sym (h k is)) ∙ sym c.is_held_in.ensures ∙ c.if-is_held_in.false in
    let next : k ≡ k + 1 - 1 = omega arith in
    subst (λ (i : ℕ). only (those (held_in t n r) (drop i all_phases)) ≡ coordinated_phase t n r) next
    (found-later (held_in t n r) k (drop k all_phases) (coordinated_phase t n r) fails
    (subst (λ (xs : List ℕ). only (those (held_in t n r) xs) ≡ coordinated_phase t n r) (phases-next k (omega arith) (omega arith)) (c.loop-phase.invariant n h)))

pub returns-clause-phase : goal.returns-clause-phase
returns-clause-phase c = λ n h.
    let t : Tables = c.args.tables.now in
    let r : ℕ = c.args.ring in
    let most : c.loop-phase.phase ≤ 17 = c.loop-phase.auto.phase-end (omega arith) in
    let last : c.loop-phase.phase - 1 ≡ 16 = omega arith in
    subst (λ (i : ℕ). only (those (held_in t n r) (drop i all_phases)) ≡ coordinated_phase t n r) last (c.loop-phase.invariant n h)
