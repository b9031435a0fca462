-- The lines of one tick more.
use Rattle.std.proofs.Common.{◌≡◌, ℕ, ◌+◌, Bool, List, ◌∷◌, ◌++◌, refl, sym, ◌∙◌, ap, subst, add-one, append_assoc}
use Rattle.sig_types.specs.declared.frame.Colour.{Colour}
use Rattle.overlap_run.specs.declared.overlap.Timing.{Timing}
use Rattle.overlap_run.specs.declared.overlap.Overlap.{Overlap}
use Rattle.overlap_run.specs.Overlap.{last_colour, colours, greens_to, overlap_at}
use Rattle.overlap_run.specs.OverlapStands.{OverlapStands}
use Rattle.overlap_run.specs.Text.{line_where, changes_to}

greens-more : (shows : ℕ → Bool) (n : ℕ) → greens_to shows (n + 1) ≡ shows (n + 1) ∷ greens_to shows n
greens-more shows n = rw add-one refl

changes-more : (shown : ℕ → Colour) (n : ℕ) → changes_to shown (n + 1) ≡ changes_to shown n ++ line_where (shown n) (n + 1) (shown (n + 1))
changes-more shown n = rw add-one refl

-- what an overlap shows after a step is what it shows at the next tick
pub shown-next : (t : Timing) (shows : ℕ → Bool) (n : ℕ) (green : Bool) (shown : Colour) → shows (n + 1) ≡ green
    → shown ≡ last_colour (colours t (green ∷ greens_to shows n)) → shown ≡ overlap_at t shows (n + 1)
shown-next t shows n green shown now is =
    is ∙ ap (λ (g : Bool). last_colour (colours t (g ∷ greens_to shows n))) (sym now)
    ∙ ap (λ (gs : List Bool). last_colour (colours t gs)) (sym (greens-more shows n))

pub stands-next : (o : Overlap) (t : Timing) (shows : ℕ → Bool) (n : ℕ) (green : Bool) → shows (n + 1) ≡ green
    → OverlapStands o t (green ∷ greens_to shows n) → OverlapStands o t (greens_to shows (n + 1))
stands-next o t shows n green now stands =
    subst (λ (gs : List Bool). OverlapStands o t gs) (ap (λ (g : Bool). g ∷ greens_to shows n) (sym now) ∙ sym (greens-more shows n)) stands

pub lines-next : (shown : ℕ → Colour) (n : ℕ) (old mid new : List ℕ) (before after : Colour) → mid ≡ old ++ changes_to shown n
    → before ≡ shown n → after ≡ shown (n + 1) → new ≡ mid ++ line_where before (n + 1) after → new ≡ old ++ changes_to shown (n + 1)
lines-next shown n old mid new before after m b a e =
    e ∙ ap (λ (x : List ℕ). x ++ line_where before (n + 1) after) m
    ∙ ap (λ (x : Colour). (old ++ changes_to shown n) ++ line_where x (n + 1) after) b
    ∙ ap (λ (x : Colour). (old ++ changes_to shown n) ++ line_where (shown n) (n + 1) x) a
    ∙ append_assoc old (changes_to shown n) (line_where (shown n) (n + 1) (shown (n + 1))) ∙ ap (λ (x : List ℕ). old ++ x) (sym (changes-more shown n))
