-- What is kept represents one counter more, where it advanced by one.
use Rattle.std.proofs.Common.{◌≡◌, ◌≢◌, ◌+◌, ◌==◌, ◌&&◌, not, ℕ, Bool, false, List, ◌∷◌, refl, sym, ◌∙◌, ap, arith}
use Rattle.std.proofs.lemmas.Bool.{ne_eqb}
use Rattle.coord_count.specs.declared.Count.{Count}
use Rattle.coord_count.specs.CountStands.{CountStands}
use Rattle.coord_count.specs.Passed.{passed}

pub count-on : (c : Count) (last : ℕ) (before : List ℕ) → CountStands c (last ∷ before) → CountStands (passed 1 c) ((last + 1) ∷ last ∷ before)
count-on c last before stands =
    let zero : last + 1 ≢ 0 = omega arith in
    let same : last + 1 ≢ last = omega arith in
    let skip : last + 1 ≢ last + 2 = omega arith in
    record {
      counter = omega (arith, stands.counter);
      stands = stands.stands ∙ rw (ne_eqb (last + 1) 0 zero, ne_eqb (last + 1) last same) refl;
      skips = stands.skips ∙ rw (ne_eqb (last + 1) 0 zero, ne_eqb (last + 1) (last + 2) skip) refl;
      changed = rw (ne_eqb (last + 1) last same) refl;
    }
