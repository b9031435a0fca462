-- For how many ticks more a ring stays as it is, from sets of phases for which there is no room.
use Rattle.std.proofs.Common.{◌≡◌, ◌<◌, ◌≤◌, ◌==◌, ◌&&◌, ◌⊎◌, not, min, max, nat_le, if◌then◌else◌, ℕ, Bool, true, false, List, Option, inl, inr, refl, sym, ◌∙◌, ap, arith, subst}
use Rattle.std.proofs.lemmas.Bool.{cases_Bool, and_parts, leb-true, leb-false}
use Rattle.std.proofs.lemmas.Bool.Decides.{Decides-eqb}
use Rattle.sig_types.specs.declared.phase_set.PhaseSet.{PhaseSet}
use Rattle.sig_types.specs.PhaseSet.{has, phases_of}
use Rattle.sig_types.specs.Phases.{is_phase, is_in}
use Rattle.sig_types.specs.Colour.{on_in}
use Rattle.sig_tables.specs.Tables.{is_enabled, ring_of}
use Rattle.sig_tables.specs.Sides.{are_of_one_side}
use Rattle.sig_tables.specs.View.{other_ring}
use Rattle.sig_tables.specs.Past.{Past}
use Rattle.sig_tables.specs.Layout.{Has}
use Rattle.sig_tables.specs.Seen.{frame_seen, demand_with}
use Rattle.sig_tables.proofs.Below.{is-within}
use Rattle.ring_barrier.proofs.Sets.{has-listed, one-side-enabled}
use Rattle.tick_context.specs.Lasting.{HasNoRoom, IsUnwanted, NoneInRing, NoneElsewhere, StaysOn, RingLasts, present_on}
use Rattle.tick_context.proofs.Waiting.{no-demand}

-- a phase is unwanted where it has no demand, or there is no room for it
unwanted-by : (o : Option ℕ) (k : ℕ) (past : Past) (q : ℕ) (demand : PhaseSet) → phases_of demand ≡ demand_with o past
    → (is_phase q ≡ true → has demand q ≡ true → HasNoRoom o k past q) → IsUnwanted o k past q
unwanted-by o k past q demand is full = elim (cases_Bool (is_phase q)) [
  | inr i ↦ inl (no-demand o past q i)
  | inl i ↦ elim (cases_Bool (has demand q)) [
    | inl h ↦ inr (full i h)
    | inr h ↦ inl (ap (λ (xs : List ℕ). is_in xs q) (sym is) ∙ sym (has-listed demand q i) ∙ h)
  ]
]

both : (a b : Bool) → a ≡ true → b ≡ true → (a && b) ≡ true
both a b e f = rw (e, f) refl

-- none of a ring on the present side is wanted, where there is no room for any of those with demand
pub none-in-ring : (o : Option ℕ) (k : ℕ) (past : Past) (r : ℕ) (demand side ring here set : PhaseSet) → phases_of demand ≡ demand_with o past
    → Has side (are_of_one_side past.tables (present_on past)) → Has ring (λ q. is_enabled past.tables q && ring_of past.tables q == r)
    → ((q : ℕ) → has here q ≡ (has demand q && has side q)) → ((q : ℕ) → has set q ≡ (has here q && has ring q))
    → ((q : ℕ) → is_phase q ≡ true → has set q ≡ true → HasNoRoom o k past q) → NoneInRing o k past r
none-in-ring o k past r demand side ring here set is on of some all full = λ q h.
    let parts = and_parts (ring_of past.tables q == r) (are_of_one_side past.tables (present_on past) q) h in
    let enabled = one-side-enabled past.tables (present_on past) q parts.1 in
    unwanted-by o k past q demand is (λ i d.
    full q i (all q ∙ both (has here q) (has ring q)
    (some q ∙ both (has demand q) (has side q) d (on q i ∙ parts.1))
    (of q i ∙ both (is_enabled past.tables q) (ring_of past.tables q == r) enabled parts.0)))

-- and the same of all other sides
pub none-of-others : (o : Option ℕ) (k : ℕ) (past : Past) (demand side set : PhaseSet) → phases_of demand ≡ demand_with o past
    → Has side (are_of_one_side past.tables (present_on past)) → ((q : ℕ) → q ≤ 16 → has set q ≡ (has demand q && not (has side q)))
    → ((q : ℕ) → is_phase q ≡ true → has set q ≡ true → HasNoRoom o k past q) → NoneElsewhere o k past
none-of-others o k past demand side set is on all full = λ q i out.
    unwanted-by o k past q demand is (λ h d. full q i (all q (is-within q i) ∙ both (has demand q) (not (has side q)) d (ap not (on q i ∙ out))))

pub either-of : {A B : Type 0} (k a b : ℕ) → k ≤ max a b → (k ≤ a → A) → (k ≤ b → B) → A ⊎ B
either-of k a b within f g = elim (cases_Bool (nat_le k a)) [
  | inl e ↦ inl (f (leb-true k a e))
  | inr e ↦ let more : a < k = leb-false k a e in inr (g (omega (arith, within, more)))
]

-- so a ring stays as it is
pub ring-lasts : (o : Option ℕ) (k : ℕ) (past : Past) (r on stays none wait : ℕ) → on ≡ on_in (frame_seen past) r
    → k ≤ (if on == 0 then none else max stays (min none wait)) → (k ≤ stays → StaysOn o k past r) → (k ≤ none → NoneInRing o k past r)
    → (k ≤ wait → NoneElsewhere o k past ⊎ StaysOn o k past (other_ring r)) → RingLasts o k past r
ring-lasts o k past r on stays none wait is within own here held = elim (cases_Bool (on == 0)) [
  | inl e ↦
      let few : k ≤ none = subst (λ (b : Bool). k ≤ (if b then none else max stays (min none wait))) e within in
      inr (here few, inl (sym is ∙ (Decides-eqb on 0).0 e))
  | inr e ↦
      let few : k ≤ max stays (min none wait) = subst (λ (b : Bool). k ≤ (if b then none else max stays (min none wait))) e within in
      elim (cases_Bool (nat_le k stays)) [
        | inl h ↦ inl (own (leb-true k stays h))
        | inr h ↦
            let more : stays < k = leb-false k stays h in
            let one : k ≤ none = omega (arith, few, more) in
            let two : k ≤ wait = omega (arith, few, more) in
            inr (here one, inr (held two))
      ]
]
