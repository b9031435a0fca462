-- The force points and permissive ends of any tables, from their definitions.
use Rattle.std.proofs.Common.{◌≡◌, inl, inr, ℕ, ◌+◌, ◌*◌, ◌-◌, ◌%◌, ◌<◌, ◌≤◌, nat_le, min, max, Bool, true, false, not, ◌&&◌, if◌then◌else◌, List, [], ◌∷◌, refl, sym, ◌∙◌, subst, arith}
use Rattle.std.proofs.lemmas.Bool.{and_parts, false≢true, leb-true}
use Rattle.std.proofs.Math.Nat.{le_trans, le-max_left, le-max_right, mul-le-mul, one-mul, le_refl, mod-lt}
use Rattle.sig_types.specs.Phases.{is_in}
use Rattle.sig_types.proofs.Lists.{in-cons}
use Rattle.sig_types.proofs.Sets.{in-phases}
use Rattle.sig_tables.specs.declared.tables.Tables.{Tables}
use Rattle.sig_tables.specs.Tables.{is_enabled, clearance}
use Rattle.sig_tables.specs.Sides.{are_of_one_side}
use Rattle.sig_tables.specs.Sums.{greatest}
use Rattle.sig_tables.specs.Cells.{pattern_of}
use Rattle.sig_tables.specs.Slots.{is_defined, cycle_time, is_omitted, is_coordinated, slot_end, side_of, side_end, side_clearance, least_service, zero_point, whole_cycles, force_point, permissive_end}
use Rattle.sig_tables.proofs.Below.{enabled-phase}
use Rattle.tick_laws.proofs.OneSide.{own}
use Rattle.rule_facts.specs.Forces.{AreEnough, force_with}
use Rattle.plan_facts.specs.Plan.{Untimed}
use Rattle.rule_facts.proofs.Forces.{Enough, same-force, within-cycle}

-- the last moment of the sequence that leaves room, where both clearances fit
abbrev pub layout_force : Tables → ℕ → ℕ → ℕ
layout_force t n p = min (slot_end t n p - clearance t p) (side_end t n p - side_clearance t p)

-- a member measures no more than the greatest
greatest-least : (f : ℕ → ℕ) (xs : List ℕ) (x : ℕ) → is_in xs x ≡ true → f x ≤ greatest f xs
greatest-least f [] x i = absurd (false≢true i)
greatest-least f (y ∷ ys) x i = elim (in-cons y ys x i) [
  | inl e ↦ subst (λ (z : ℕ). f z ≤ max (f y) (greatest f ys)) (sym e) (le-max_left _ _)
  | inr r ↦ le_trans (greatest-least f ys x r) (le-max_right _ _)
]

-- a phase clears no longer than its side
own-clearance : (t : Tables) (p : ℕ) → is_enabled t p ≡ true → clearance t p ≤ side_clearance t p
own-clearance t p e =
    greatest-least (clearance t) (side_of t p) p (in-phases (are_of_one_side t p) p (enabled-phase t p e) ∙ own t p e)

some-cycle : (t : Tables) (n : ℕ) → is_defined t n ≡ true → 1 ≤ cycle_time t n
some-cycle t n d = tenfold (pattern_of t n).cycle (leb-true 1 _ (and_parts _ (nat_le 1 (pattern_of t n).cycle) d).1)
  where
    tenfold : (c : ℕ) → 1 ≤ c → 1 ≤ 10 * c
    tenfold c h = omega arith

-- the whole cycles of the definition are enough
enough : (t : Tables) (n p : ℕ) → is_defined t n ≡ true → is_enabled t p ≡ true
    → Enough (slot_end t n p) (clearance t p) (side_end t n p) (side_clearance t p) (zero_point t n) (cycle_time t n) (side_clearance t p + zero_point t n)
enough t n p d e =
    let both = sums (slot_end t n p) (clearance t p) (side_end t n p) (side_clearance t p) (zero_point t n) (cycle_time t n)
    (whole_cycles t n p) (own-clearance t p e)
    (subst (λ (x : ℕ). x ≤ whole_cycles t n p) (one-mul (side_clearance t p + zero_point t n))
    (mul-le-mul (some-cycle t n d) (le_refl (side_clearance t p + zero_point t n)))) in
    record { own = both.0; shared = both.1 }
  where
    sums : (end clear side side_clear origin cycle whole : ℕ) → clear ≤ side_clear → side_clear + origin ≤ whole
        → (clear + origin ≤ end + whole) × (side_clear + origin ≤ side + whole)
    sums end clear side side_clear origin cycle whole h g = (omega arith, omega arith)

-- the two ways of a choice
taken : (b : Bool) (x y : ℕ) → b ≡ true → (if b then x else y) ≡ x
taken true x y e = refl
taken false x y e = absurd (false≢true e)

passed : (b : Bool) (x y : ℕ) → b ≡ false → (if b then x else y) ≡ y
passed false x y e = refl
passed true x y e = absurd (false≢true (sym e))

-- the force point is the residue, whatever number of cycles is added
pub force-residue : (t : Tables) (n p cycles : ℕ) → is_defined t n ≡ true → is_enabled t p ≡ true → AreEnough t n p cycles
    → force_point t n p ≡ force_with t n p cycles
force-residue t n p cycles d e more =
    taken (is_enabled t p) (force_with t n p (side_clearance t p + zero_point t n)) 0 e
    ∙ same-force (slot_end t n p) (clearance t p) (side_end t n p) (side_clearance t p) (zero_point t n) (cycle_time t n)
    (side_clearance t p + zero_point t n) cycles (enough t n p d e) (record { own = more.slot; shared = more.side })

-- and where both clearances fit, it is the last moment of the sequence that leaves room, from local zero on
pub force-laid : (t : Tables) (n p : ℕ) → is_defined t n ≡ true → is_enabled t p ≡ true
    → clearance t p ≤ slot_end t n p → side_clearance t p ≤ side_end t n p → zero_point t n ≤ cycle_time t n
    → force_point t n p ≡ (layout_force t n p + cycle_time t n - zero_point t n) % cycle_time t n
force-laid t n p d e fits side_fits zero_fits =
    taken (is_enabled t p) (force_with t n p (side_clearance t p + zero_point t n)) 0 e
    ∙ within-cycle (slot_end t n p) (clearance t p) (side_end t n p) (side_clearance t p) (zero_point t n) (cycle_time t n)
    (side_clearance t p + zero_point t n) (enough t n p d e) fits side_fits zero_fits

-- the permissive end of a phase that is neither coordinated nor omitted
pub permissive-is : (t : Tables) (n p : ℕ) → is_enabled t p ≡ true → is_coordinated t n p ≡ false → is_omitted t n p ≡ false
    → permissive_end t n p ≡ force_point t n p - least_service t p
permissive-is t n p e c o = all (is_enabled t p) (is_coordinated t n p) (is_omitted t n p) e c o
  where
    all : (a b c : Bool) → a ≡ true → b ≡ false → c ≡ false
        → (if a && not b && not c then force_point t n p - least_service t p else 0) ≡ force_point t n p - least_service t p
    all true false false e f g = refl
    all false b c e f g = absurd (false≢true e)
    all true true c e f g = absurd (false≢true (sym f))
    all true false true e f g = absurd (false≢true (sym g))

-- of the other phases
pub untimed : (t : Tables) (n : ℕ) → is_defined t n ≡ true → Untimed t n
untimed t n d = record {
  within = λ p. below (is_enabled t p) _;
  disabled = λ p h. (passed (is_enabled t p) _ 0 h, first (is_enabled t p) (is_coordinated t n p) (is_omitted t n p) _ h);
  coordinated = λ p h. second (is_enabled t p) (is_coordinated t n p) (is_omitted t n p) _ h;
  omitted = λ p h. third (is_enabled t p) (is_coordinated t n p) (is_omitted t n p) _ h;
}
  where
    below : (b : Bool) (x : ℕ) → (if b then x % cycle_time t n else 0) < cycle_time t n
    below true x = mod-lt x (some-cycle t n d)
    below false x = some-cycle t n d

    first : (a b c : Bool) (x : ℕ) → a ≡ false → (if a && not b && not c then x else 0) ≡ 0
    first false b c x h = refl
    first true b c x h = absurd (false≢true (sym h))

    second : (a b c : Bool) (x : ℕ) → b ≡ true → (if a && not b && not c then x else 0) ≡ 0
    second true true c x h = refl
    second false true c x h = refl
    second a false c x h = absurd (false≢true h)

    third : (a b c : Bool) (x : ℕ) → c ≡ true → (if a && not b && not c then x else 0) ≡ 0
    third true true true x h = refl
    third true false true x h = refl
    third false b true x h = refl
    third a b false x h = absurd (false≢true h)
