-- A split that is filled, by a run that is counted no further than the split.
use Rattle.std.proofs.Common.{◌≡◌, ◌≢◌, ◌<◌, ◌≤◌, ◌+◌, ◌-◌, ℕ, min, nat_le, Bool, true, false, if◌then◌else◌, inl, inr, refl, sym, ◌∙◌, arith}
use Rattle.std.proofs.lemmas.Bool.{cases_Bool, leb-true, leb-false, le-leb, lt-leb, ne_eqb, eq-eqb}
use Rattle.sig_types.specs.declared.frame.Colour.TheVariants.{Green}
use Rattle.sig_tables.specs.Tables.{clearance}
use Rattle.sig_tables.specs.Slots.{split_time}
use Rattle.sig_tables.specs.Coordinating.{is_floating, has_floated}
use Rattle.sig_tables.specs.Looking.{run}
use Rattle.sig_tables.specs.View.{View, has_filled_split}

counted-to : (split clear green : ℕ) → nat_le (split - clear) (min green (split - clear)) ≡ nat_le split (green + clear)
counted-to split clear green = elim (cases_Bool (nat_le split (green + clear))) [
  | inl e ↦
      let k : split ≤ green + clear = leb-true split (green + clear) e in
      let l : split - clear ≤ min green (split - clear) = omega arith in
      le-leb (split - clear) (min green (split - clear)) l ∙ sym e
  | inr e ↦
      let k : green + clear < split = leb-false split (green + clear) e in
      let l : min green (split - clear) < split - clear = omega arith in
      lt-leb (split - clear) (min green (split - clear)) l ∙ sym e
]

pub unfilled : (v : View) (n p : ℕ) → v.tables.unit.force_mode ≢ 2 → false ≡ has_filled_split v n p
unfilled v n p ne = rw (ne_eqb v.tables.unit.force_mode 2 ne) refl

pub filled : (v : View) (n p split clear least green : ℕ) → v.tables.unit.force_mode ≡ 2 → split ≡ split_time v.tables n p
    → clear ≡ clearance v.tables p → least ≡ split - clear → green ≡ min (run p Green v.past) least → nat_le least green ≡ has_filled_split v n p
filled v n p split clear least green floats s c l g =
    rw (g, l, s, c) (counted-to (split_time v.tables n p) (clearance v.tables p) (run p Green v.past))
    ∙ floating (is_floating v.tables) (has_floated v.tables n p (run p Green v.past)) (eq-eqb v.tables.unit.force_mode 2 floats)
  where
    floating : (b x : Bool) → b ≡ true → x ≡ (if b then x else false)
    floating b x e = rw e refl
