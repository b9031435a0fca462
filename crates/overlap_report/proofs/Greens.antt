-- The same phases, whether listed as they were asked for or as a set, show Green at the same ticks.
use Rattle.std.proofs.Common.{◌≡◌, ◌⊎◌, inl, inr, ℕ, zero, suc, ◌<◌, ◌≤◌, nat_le, Bool, true, false, if◌then◌else◌, List, [], ◌∷◌, ◌++◌, refl, sym, ◌∙◌, ap}
use Rattle.std.proofs.lemmas.Bool.{cases_Bool, false≢true}
use Rattle.sig_types.specs.declared.frame.Colour.{Colour}
use Rattle.sig_types.specs.declared.frame.Colour.TheVariants.{Green}
use Rattle.sig_types.specs.declared.frame.Frame.{Frame}
use Rattle.sig_types.specs.declared.phase_set.PhaseSet.{PhaseSet}
use Rattle.sig_types.specs.PhaseSet.{has, phases_of}
use Rattle.sig_types.specs.Colour.{same_colour, colour_in}
use Rattle.sig_types.specs.Phases.{is_phase, is_in, all_phases, some}
use Rattle.sig_types.proofs.Lists.{phase-in, in-cons, in-head, in-tail, in-those}
use Rattle.sig_types.proofs.Sets.{listed-phase, in-phases}
use Rattle.overlap_run.specs.declared.overlap.Timing.{Timing}
use Rattle.overlap_run.specs.Overlap.{timed, greens_to, colours, last_colour, overlap_at}
use Rattle.overlap_run.specs.Text.{line_where, change_line, changes_to, end_line, overlap_text}
use Rattle.overlap_run.specs.Parents.{parents_of, shows_green, green_by, green_at}

-- ---- lists with the same members

some-found : (test : ℕ → Bool) (xs : List ℕ) → some test xs ≡ true → (p : ℕ) × (is_in xs p ≡ true) × (test p ≡ true)
some-found test [] h = absurd (false≢true h)
some-found test (x ∷ xs) h = elim (cases_Bool (test x)) [
  | inl hit ↦ (x, in-head x xs, hit)
  | inr miss ↦ (let (p, inside, pass) = some-found test xs (rw miss at h) in (p, in-tail x xs p inside, pass))
]

some-passes : (test : ℕ → Bool) (xs : List ℕ) (p : ℕ) → is_in xs p ≡ true → test p ≡ true → some test xs ≡ true
some-passes test [] p inside pass = absurd (false≢true inside)
some-passes test (x ∷ xs) p inside pass = split (some-passes test xs p) (test x) refl (in-cons x xs p inside)
  where
    split : (is_in xs p ≡ true → test p ≡ true → some test xs ≡ true) → (b : Bool) → test x ≡ b → (p ≡ x) ⊎ (is_in xs p ≡ true)
        → (if b then true else some test xs) ≡ true
    split behind true e o = refl
    split behind false e (inl same) = absurd (false≢true (sym e ∙ ap test (sym same) ∙ pass))
    split behind false e (inr later) = behind later pass

both-ways : (a b : Bool) → (a ≡ true → b ≡ true) → (b ≡ true → a ≡ true) → a ≡ b
both-ways true b there back = sym (there refl)
both-ways false true there back = back refl
both-ways false false there back = refl

some-moves : (test : ℕ → Bool) (xs ys : List ℕ) → ((p : ℕ) → is_in xs p ≡ is_in ys p) → some test xs ≡ true → some test ys ≡ true
some-moves test xs ys same h = let (p, inside, pass) = some-found test xs h in some-passes test ys p (sym (same p) ∙ inside) pass

same-members : (test : ℕ → Bool) (xs ys : List ℕ) → ((p : ℕ) → is_in xs p ≡ is_in ys p) → some test xs ≡ some test ys
same-members test xs ys same =
    both-ways (some test xs) (some test ys) (some-moves test xs ys same) (some-moves test ys xs (λ p. sym (same p)))

-- phases in a set, and the list that it was made of
set-members : (set : PhaseSet) (asked : List ℕ) → ((p : ℕ) → 0 < p → p ≤ 16 → has set p ≡ is_in asked p) → ((p : ℕ) → is_in asked p ≡ true → is_phase p ≡ true)
    → (p : ℕ) → is_in (phases_of set) p ≡ is_in asked p
set-members set asked same phases p = both-ways (is_in (phases_of set) p) (is_in asked p) there back
  where
    there : is_in (phases_of set) p ≡ true → is_in asked p ≡ true
    there h =
        let (lit, listed) = in-those (has set) all_phases p h in
        let (above, within) = phase-in p (listed-phase p listed) in
        sym (same p above within) ∙ lit

    back : is_in asked p ≡ true → is_in (phases_of set) p ≡ true
    back h =
        let (above, within) = phase-in p (phases p h) in
        in-phases (has set) p (phases p h) ∙ same p above within ∙ h

-- ---- what they show, and the text of it

same-by : (xs ys : List ℕ) (tick : ℕ) (before : Bool) (frames : List (ℕ × Frame)) → ((veh : List Colour) → shows_green xs veh ≡ shows_green ys veh)
    → green_by xs tick before frames ≡ green_by ys tick before frames
same-by xs ys tick before [] same = refl
same-by xs ys tick before (f ∷ frames) same =
    ap (λ (b : Bool). green_by xs tick (if nat_le f.0 tick then b else before) frames) (same f.1.veh)
    ∙ same-by xs ys tick (if nat_le f.0 tick then shows_green ys f.1.veh else before) frames same

greens-same : (f g : ℕ → Bool) → ((n : ℕ) → f n ≡ g n) → (n : ℕ) → greens_to f n ≡ greens_to g n
greens-same f g same zero = ap (λ (b : Bool). b ∷ []) (same 0)
greens-same f g same (suc n) = ap (λ (b : Bool). b ∷ greens_to f n) (same (suc n)) ∙ ap (λ (bs : List Bool). g (suc n) ∷ bs) (greens-same f g same n)

overlap-same : (t : Timing) (f g : ℕ → Bool) → ((n : ℕ) → f n ≡ g n) → (n : ℕ) → overlap_at t f n ≡ overlap_at t g n
overlap-same t f g same n = ap (λ (bs : List Bool). last_colour (colours t bs)) (greens-same f g same n)

changes-same : (a b : ℕ → Colour) → ((n : ℕ) → a n ≡ b n) → (n : ℕ) → changes_to a n ≡ changes_to b n
changes-same a b same zero = ap (change_line 0) (same 0)
changes-same a b same (suc n) =
    ap (λ (x : List ℕ). x ++ line_where (a n) (suc n) (a (suc n))) (changes-same a b same n)
    ∙ ap (λ (c : Colour). changes_to b n ++ line_where c (suc n) (a (suc n))) (same n)
    ∙ ap (λ (c : Colour). changes_to b n ++ line_where (b n) (suc n) c) (same (suc n))

-- the same times
pub times-same : (trail yellow red t y r : ℕ) → trail ≡ t → yellow ≡ y → red ≡ r → timed trail yellow red ≡ timed t y r
times-same trail yellow red t y r e f g =
    ap (λ (n : ℕ). timed n yellow red) e ∙ ap (λ (n : ℕ). timed t n red) f ∙ ap (λ (n : ℕ). timed t y n) g

pub set-text : (t : Timing) (set : PhaseSet) (asked : List ℕ) (frames : List (ℕ × Frame)) (ticks : ℕ)
    → ((p : ℕ) → 0 < p → p ≤ 16 → has set p ≡ is_in asked p) → ((p : ℕ) → is_in asked p ≡ true → is_phase p ≡ true)
    → overlap_text t (green_at (parents_of set) frames) ticks ≡ overlap_text t (green_at asked frames) ticks
unfolding parents_of
set-text t set asked frames ticks same phases =
    let shown : (veh : List Colour) → shows_green (phases_of set) veh ≡ shows_green asked veh =
    λ veh. same-members (λ p. same_colour (colour_in veh p) Green) (phases_of set) asked (set-members set asked same phases) in
    let greens : (n : ℕ) → green_at (phases_of set) frames n ≡ green_at asked frames n = λ n. same-by (phases_of set) asked n false frames shown in
    ap (λ (x : List ℕ). x ++ end_line ticks)
    (changes-same (overlap_at t (green_at (phases_of set) frames)) (overlap_at t (green_at asked frames))
    (overlap-same t (green_at (phases_of set) frames) (green_at asked frames) greens) ticks)
