use Rattle.std.proofs.Common.{◌≡◌, ◌∙◌, ◌==◌, ◌&&◌, ◌||◌, ℕ, Bool, true, false, not, sym, refl, arith}
use Rattle.std.proofs.lemmas.Bool.{and_parts}
use Rattle.sig_types.specs.declared.phase_set.PhaseSet.{PhaseSet}
use Rattle.sig_types.specs.PhaseSet.{has}
use Rattle.sig_types.specs.Phases.{is_phase, some, all_phases}
use Rattle.sig_tables.specs.declared.tables.Tables.{Tables}
use Rattle.sig_tables.specs.Tables.{ring_of, is_enabled}
use Rattle.sig_tables.specs.Sides.{are_concurrent, are_of_one_side}
use Rattle.sig_tables.specs.Layout.{Has, set_of}
use Rattle.sig_tables.proofs.Below.{phase-is, enabled-phase}
use Rattle.rule_book.specs.RingLayout.{is_of_ring}
use Rattle.rule_book.specs.Patterns.{side_time}
use Rattle.rule_book.proofs.patterns.fills_side.Goals as goal

of-ring : (p q r x : Bool) → ((q && r) && (p && q && x)) ≡ (r && (p && q && x))
of-ring p true true x = refl
of-ring p true false x = refl
of-ring true false true x = refl
of-ring true false false x = refl
of-ring false false true x = refl
of-ring false false false x = refl

-- the phases of ring r in the side of p, as the definition of a side's time asks them
abbrev is-beside : Tables → ℕ → ℕ → ℕ → Bool
is-beside t r p q = ring_of t q == r && are_of_one_side t p q

is-beside-phase : (t : Tables) (r p q : ℕ) → is-beside t r p q ≡ true → is_phase q ≡ true
is-beside-phase t r p q on =
    enabled-phase t q (and_parts (is_enabled t p) (is_enabled t q) (and_parts _ _ (and_parts _ _ on).1).0).1

meets : (t : Tables) (r p : ℕ) (ring side both : PhaseSet) → Has ring (is_of_ring t r) → Has side (are_of_one_side t p)
    → ((q : ℕ) → has both q ≡ (has ring q && has side q)) → Has both (is-beside t r p)
meets t r p ring side both of one meet = λ q on. meet q ∙ rw (of q on, one q on)
    (of-ring (is_enabled t p) (is_enabled t q) (ring_of t q == r)
    (p == q || are_concurrent t p q || some (λ k. are_concurrent t p k && are_concurrent t k q) all_phases))

both-times : (on : Bool) (a b x y : ℕ) → on ≡ true → a ≡ x → b ≡ y → (a == b) ≡ (not on || x == y)
both-times on a b x y e f g = rw (e, f, g) refl

pub returns : goal.returns
returns c =
    let t : Tables = c.args.tables.now in
    let p : ℕ = c.args.phase in
    let is : is_phase p ≡ true = phase-is p (omega arith) (omega arith) in
    let on : is_enabled t p ≡ true = sym (c.requires.reads.lists.enabled p is) ∙ sym c.has.ensures.has ∙ c.if-not-has.false in
    let first : c.time_within-first.result ≡ side_time t c.args.pattern p 1 =
    c.time_within-first.ensures (is-beside t 1 p) (is-beside-phase t 1 p)
    (meets t 1 p (set_of c.args.ring_layout.now.rings 1) (set_of c.args.ring_layout.now.sides p) c.meet.result
    (c.requires.reads.rings 1 (omega arith) (omega arith)) (c.requires.reads.sides p is) c.meet.ensures.has) in
    let second : c.time_within-second.result ≡ side_time t c.args.pattern p 2 =
    c.time_within-second.ensures (is-beside t 2 p) (is-beside-phase t 2 p)
    (meets t 2 p (set_of c.args.ring_layout.now.rings 2) (set_of c.args.ring_layout.now.sides p) c.meet-2.result
    (c.requires.reads.rings 2 (omega arith) (omega arith)) (c.requires.reads.sides p is) c.meet-2.ensures.has) in
    both-times (is_enabled t p) c.time_within-first.result c.time_within-second.result (side_time t c.args.pattern p 1)
    (side_time t c.args.pattern p 2) on first second
