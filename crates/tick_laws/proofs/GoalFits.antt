-- What a goal begins goes together.
use Rattle.std.proofs.Common.{◌≡◌, ◌≢◌, ◌⊎◌, inl, inr, ℕ, Bool, true, false, ◌&&◌, ◌||◌, if◌then◌else◌, ◌==◌, List, [], ◌++◌, refl, subst, arith}
use Rattle.std.proofs.lemmas.Bool.{and_parts, or_cases, false≢true, both_ways}
use Rattle.sig_types.specs.Phases.{is_phase, is_in, first}
use Rattle.sig_types.specs.Colour.{on_in}
use Rattle.sig_tables.specs.Tables.{ring_of, is_enabled}
use Rattle.sig_tables.specs.Sides.{are_concurrent, are_of_one_side}
use Rattle.sig_tables.specs.View.{View, other_ring, on_phase, is_open, is_startable}
use Rattle.sig_tables.specs.Moves.{goal_beginning_in, goal_moves}
use Rattle.plan_facts.specs.Goals.{GoTogether}
use Rattle.tick_laws.specs.Lawful.{Sound}
use Rattle.sig_types.proofs.Lists.{in-first, in-append, eq-true}
use Rattle.tick_laws.proofs.FrameStands.{FrameStands, Fits}
use Rattle.tick_laws.proofs.Rings.{closed, beside-side}

-- the phases that ring r may begin of a goal
abbrev may_begin : View → ℕ → ℕ → Bool
may_begin v r q =
    ring_of v.tables q == r && is_startable v q
    && (is_open v (other_ring r) || are_of_one_side v.tables (on_phase v (other_ring r)) q)

-- what a ring begins of a goal
record Chosen (v : View) (goal : List ℕ) (r q : ℕ) : Type 0 where
  opened : is_open v r ≡ true
  ring : ring_of v.tables q ≡ r
  listed : is_in goal q ≡ true
  side : (is_open v (other_ring r) ≡ true) ⊎ (are_of_one_side v.tables (on_phase v (other_ring r)) q ≡ true)

chosen : (v : View) (goal : List ℕ) (r q : ℕ) → is_in (goal_beginning_in v goal r) q ≡ true → Chosen v goal r q
chosen v goal r q h = split (is_open v r) refl h
  where
    split : (b : Bool) → is_open v r ≡ b → is_in (if b then first (may_begin v r) goal else []) q ≡ true → Chosen v goal r q
    split true e k =
        let f : (may_begin v r q ≡ true) × (is_in goal q ≡ true) = in-first (may_begin v r) goal q k in
        let a = and_parts (ring_of v.tables q == r && is_startable v q) _ f.0 in
        let b = and_parts (ring_of v.tables q == r) (is_startable v q) a.0 in
        record { opened = e; ring = eq-true _ _ b.0; listed = f.1; side = or_cases _ _ a.1 }
    split false e k = absurd (false≢true k)

-- beside a phase that stays in the other ring
stays-beside : (v : View) (goal : List ℕ) (p q s r : ℕ) → other_ring r ≡ s → s ≢ r → Sound v.tables → is_phase p ≡ true → is_enabled v.tables p ≡ true
    → ring_of v.tables p ≡ s → on_phase v s ≡ p → is_in v.ended p ≡ false → Chosen v goal r q
    → (are_concurrent v.tables p q ≡ true) × (are_concurrent v.tables q p ≡ true)
stays-beside v goal p q s r o ne sound ph en rp at stays c = elim c.side [
  | inl free ↦ absurd (both_ways _ (closed v s p ph at stays) (subst (λ (x : ℕ). is_open v x ≡ true) o free))
  | inr near ↦
      beside-side v.tables p q s r sound en rp
      (c.ring, subst (λ (x : ℕ). are_of_one_side v.tables x q ≡ true) at (subst (λ (x : ℕ). are_of_one_side v.tables (on_phase v x) q ≡ true) o near)) ne
]

same-ring : (v : View) (goal : List ℕ) (p q r : ℕ) → is_phase p ≡ true → on_phase v r ≡ p → is_in v.ended p ≡ false → Chosen v goal r q
    → (are_concurrent v.tables p q ≡ true) × (are_concurrent v.tables q p ≡ true)
same-ring v goal p q r ph at stays c = absurd (both_ways _ (closed v r p ph at stays) c.opened)

pub goal-fits : (v : View) (goal : List ℕ) → Sound v.tables → GoTogether v.tables goal → FrameStands v.tables v.frame
    → Fits v.tables v.frame v.ended (goal_moves v goal).begins
goal-fits v goal sound good stands = record {
  enabled = λ q h. good.enabled q (listed q h);
  beside = λ p q ph on stays h.
      let en : is_enabled v.tables p ≡ true = stands.enabled p ph on in
      elim (sound.ring p en) [
        | inl e ↦
            let at : on_phase v 1 ≡ p = subst (λ (r : ℕ). on_in v.frame r ≡ p) e (stands.placed p ph on) in
            elim (in-append (goal_beginning_in v goal 1) (goal_beginning_in v goal 2) q h) [
              | inl k ↦ same-ring v goal p q 1 ph at stays (chosen v goal 1 q k)
              | inr k ↦ stays-beside v goal p q 1 2 refl (λ no. omega arith) sound ph en e at stays (chosen v goal 2 q k)
            ]
        | inr e ↦
            let at : on_phase v 2 ≡ p = subst (λ (r : ℕ). on_in v.frame r ≡ p) e (stands.placed p ph on) in
            elim (in-append (goal_beginning_in v goal 1) (goal_beginning_in v goal 2) q h) [
              | inl k ↦ stays-beside v goal p q 2 1 refl (λ no. omega arith) sound ph en e at stays (chosen v goal 1 q k)
              | inr k ↦ same-ring v goal p q 2 ph at stays (chosen v goal 2 q k)
            ]
      ];
  together = λ p q h k. good.together p q (listed p h) (listed q k);
}
  where
    listed : (q : ℕ) → is_in (goal_beginning_in v goal 1 ++ goal_beginning_in v goal 2) q ≡ true → is_in goal q ≡ true
    listed q h = elim (in-append (goal_beginning_in v goal 1) (goal_beginning_in v goal 2) q h) [
      | inl k ↦ (chosen v goal 1 q k).listed
      | inr k ↦ (chosen v goal 2 q k).listed
    ]
