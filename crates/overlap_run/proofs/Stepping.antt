-- From Red an overlap becomes Green where a parent is.
use Rattle.std.proofs.Common.{◌≡◌, ◌≢◌, ℕ, zero, suc, ◌-◌, nat_le, Bool, true, List, [], ◌∷◌, refl, sym, ◌∙◌, arith}
use Rattle.sig_types.specs.declared.frame.Colour.{Colour}
use Rattle.sig_types.specs.declared.frame.Colour.TheVariants.{Green, Red}
use Rattle.overlap_run.specs.declared.overlap.Timing.{Timing}
use Rattle.overlap_run.specs.declared.overlap.Overlap.{Overlap}
use Rattle.overlap_run.specs.Overlap.{has_trail, shown_after, last_colour, colours}
use Rattle.overlap_run.specs.OverlapStands.{OverlapStands}

after-red : (t : Timing) (greens : List Bool) (shown : Colour) (past : List Colour) → Red ≡ shown → shown_after t (true ∷ greens) (shown ∷ past) ≡ Green
after-red t greens shown past is = rw (sym is) refl

begins : (t : Timing) (greens : List Bool) → greens ≢ [] → Red ≡ last_colour (colours t greens) → last_colour (colours t (true ∷ greens)) ≡ Green
begins t [] some is = absurd (some refl)
begins t (green ∷ before) some is = after-red t (green ∷ before) _ _ is

trails : (n : ℕ) (greens : List Bool) → has_trail n (true ∷ greens) ≡ true
trails zero greens = refl
trails (suc n) greens = refl

whole-trail : (trail left n : ℕ) → left ≡ trail → nat_le (trail - left) n ≡ true
whole-trail trail left n is = grind arith

-- where a parent is Green the overlap has its whole trail left
pub begun : (o : Overlap) (t : Timing) (greens : List Bool) → o.shown ≡ Green → o.times ≡ t → o.left ≡ t.trail → greens ≢ []
    → Red ≡ last_colour (colours t greens) → OverlapStands o t (true ∷ greens)
begun o t greens green times left some was = record {
  some = grind arith;
  times = times;
  shown = green ∙ sym (begins t greens some was);
  left = rw green (record { within = omega arith; last = λ n. trails n greens ∙ sym (whole-trail t.trail o.left n left) });
}
