-- Times in range, and what a run that is counted no further than the reach decides.
use Rattle.std.proofs.Common.{◌≡◌, ◌≢◌, ◌≤◌, ◌<◌, ◌==◌, inl, inr, ℕ, min, refl, arith}
use Rattle.std.proofs.lemmas.Bool.{cases_lt, ne_eqb}
use Rattle.std.proofs.Math.Nat.{min-eq_left}
use Rattle.sig_tables.specs.declared.tables.Tables.{Tables}
use Rattle.sig_tables.specs.Tables.{row}
use Rattle.sig_tables.specs.InRange.{PhaseInRange}
use Rattle.look_back.specs.Reach.{TimesWithin}

pub within : (t : Tables) (p : ℕ) → PhaseInRange (row t p) → TimesWithin 2550 t p
within t p ranges = record {
  green = omega (arith, ranges.minimum_green);
  walk = omega (arith, ranges.walk);
  pedestrian_clear = omega (arith, ranges.pedestrian_clear);
  yellow = omega (arith, ranges.yellow_change);
  red_clear = omega (arith, ranges.red_clear);
  red_revert = omega (arith, ranges.red_revert);
  gap = omega (arith, ranges.passage);
  maximum = omega (arith, ranges.maximum);
}

-- a time that is short of the reach is just over by what is counted where it is by the whole run
pub just-within : (time most run : ℕ) → time < most → (min run most == time) ≡ (run == time)
just-within time most run lt = elim (cases_lt most run) [
  | inl far ↦
      let le : most ≤ run = omega arith in
      let counted : min run most ≢ time = omega arith in
      let whole : run ≢ time = omega arith in
      rw (ne_eqb (min run most) time counted, ne_eqb run time whole) refl
  | inr near ↦ rw (min-eq_left near) refl
]
