-- What the rings begin, put to the first phases that were found.
use Rattle.std.proofs.Common.{◌≡◌, ◌≢◌, inl, inr, ℕ, zero, suc, Bool, true, false, not, ◌||◌, ◌==◌, if◌then◌else◌, List, [], ◌∷◌, ◌++◌, take, drop, refl, sym, ◌∙◌, ap, append_assoc}
use Rattle.std.proofs.lemmas.Bool.{cases_Bool, ne_eqb}
use Rattle.std.proofs.lemmas.List.{append-nil}
use Rattle.std.proofs.Math.Bool.{and-false, or-true, or-false}
use Rattle.sig_types.specs.declared.phase_set.PhaseSet.{PhaseSet}
use Rattle.sig_types.specs.Phases.{some, first, or_else, only}
use Rattle.sig_tables.specs.declared.tables.Tables.{Tables}
use Rattle.sig_tables.specs.Layout.{Has}
use Rattle.sig_tables.specs.Sides.{are_of_one_side, sides}
use Rattle.sig_tables.specs.View.{View as Scene, present_side, later, earlier, elsewhere, is_wanted, can_begin, is_open, is_done, is_forced, on_phase, other_ring, greatest_clearance}
use Rattle.sig_tables.specs.Moves.{beginning_in, stays_in_side, can_enter, from_side, entering_in, entering, ending_in, is_ended, beginning_both, beginning_of, Moves, ring_moves}
use Rattle.ring_barrier.specs.Order.{is_member, place_after, one_more}
use Rattle.ring_barrier.proofs.Lists.{some-first, first-append, only-or_else, place-same}
use Rattle.ring_barrier.proofs.Sets.{member-of, no-side, nothing-in}
use Rattle.ring_barrier.proofs.Views.{ended-not}

-- 0 never begins
pub able-zero : (w : Scene) → can_begin w 0 ≡ false
able-zero w = and-false (is_wanted w 0 0)

-- an open ring begins its first later phase, else its first earlier one where no other side is wanted
pub begin-later : (w : Scene) (k r n : ℕ) → n ≡ only (first (can_begin w) (later w r)) → n ≢ 0 → n ≡ only (beginning_in w k r)
begin-later w k r n e h =
    sym (only-or_else (can_begin w) (later w r) (if elsewhere w k then [] else first (can_begin w) (earlier w r)) (able-zero w)
    ∙ rw (← e, ne_eqb n 0 h) refl)

pub begin-none : (w : Scene) (k r n : ℕ) → n ≡ only (first (can_begin w) (later w r)) → n ≡ 0 → elsewhere w k ≡ true
    → 0 ≡ only (beginning_in w k r)
begin-none w k r n e h d =
    sym (only-or_else (can_begin w) (later w r) (if elsewhere w k then [] else first (can_begin w) (earlier w r)) (able-zero w)
    ∙ rw (← e, h, d) refl)

pub begin-earlier : (w : Scene) (k r n m : ℕ) → n ≡ only (first (can_begin w) (later w r)) → n ≡ 0 → elsewhere w k ≡ false
    → m ≡ only (first (can_begin w) (earlier w r)) → m ≡ only (beginning_in w k r)
begin-earlier w k r n m e h d a =
    a ∙ sym (only-or_else (can_begin w) (later w r) (if elsewhere w k then [] else first (can_begin w) (earlier w r)) (able-zero w)
    ∙ rw (← e, h, d) refl)

-- some phase can begin
pub some-is : (w : Scene) (xs : List ℕ) (n : ℕ) → n ≡ only (first (can_begin w) xs) → some (can_begin w) xs ≡ not (n == 0)
some-is w xs n e = some-first (can_begin w) xs (able-zero w) ∙ ap (λ (k : ℕ). not (k == 0)) (sym e)

-- the rings stay in the side where no other is wanted; or where a later phase can begin
pub stays-else : (w : Scene) → elsewhere w 0 ≡ false → true ≡ stays_in_side w
stays-else w e = rw e (sym (or-true (some (can_begin w) (later w 1) || some (can_begin w) (later w 2))))

pub stays-first : (w : Scene) (n : ℕ) → n ≡ only (first (can_begin w) (later w 1)) → n ≢ 0 → not (n == 0) ≡ stays_in_side w
stays-first w n a h =
    let b : some (can_begin w) (later w 1) ≡ not (n == 0) = some-is w (later w 1) n a in
    rw (b, ne_eqb n 0 h) refl

pub stays-second : (w : Scene) (n m : ℕ) → elsewhere w 0 ≡ true → n ≡ only (first (can_begin w) (later w 1)) → n ≡ 0
    → m ≡ only (first (can_begin w) (later w 2)) → not (m == 0) ≡ stays_in_side w
stays-second w n m e a h d =
    let b : some (can_begin w) (later w 1) ≡ not (n == 0) = some-is w (later w 1) n a in
    let g : some (can_begin w) (later w 2) ≡ not (m == 0) = some-is w (later w 2) m d in
    rw (b, g, e, h) (sym (or-false (not (m == 0))))

-- the first side that can be entered, as one of its phases
abbrev pub entered : Scene → List ℕ
entered w = first (can_enter w) (from_side w.tables (present_side w) (sides w.tables w.sequence) [])

pub enters-zero : (w : Scene) → can_enter w 0 ≡ false
enters-zero w = rw (nothing-in w.tables w.sequence 1, nothing-in w.tables w.sequence 2) refl

-- the sides after the present one, and then those up to it
abbrev pub rotated : ℕ → List ℕ → List ℕ → List ℕ
rotated zero xs before = before ++ xs
rotated (suc n) xs before = drop (suc n) xs ++ (before ++ take (suc n) xs)

rotated-more : (k x : ℕ) (xs before : List ℕ) → rotated k xs (before ++ x ∷ []) ≡ rotated (one_more k) (x ∷ xs) before
rotated-more zero x xs before = append_assoc before (x ∷ []) xs
rotated-more (suc n) x xs before = ap (λ (ys : List ℕ). drop (suc n) xs ++ ys) (append_assoc before (x ∷ []) (take (suc n) xs))

pub from-side : (t : Tables) (s : ℕ) (xs before : List ℕ)
    → from_side t s xs before ≡ rotated (place_after (are_of_one_side t s) xs) xs before
from-side t s [] before = sym (append-nil before)
from-side t s (x ∷ xs) before = elim (cases_Bool (are_of_one_side t s x)) [
  | inl e ↦ rw e refl
  | inr e ↦ rw e (from-side t s xs (before ++ x ∷ []) ∙ rotated-more (place_after (are_of_one_side t s) xs) x xs before)
]

rotated-none : (k : ℕ) (xs : List ℕ) → rotated k xs [] ≡ drop k xs ++ take k xs
rotated-none zero xs = sym (append-nil xs)
rotated-none (suc n) xs = refl

-- the first of the sides that passes follows the place of the present one, or up to it
first-side : (t : Tables) (s : ℕ) (side : PhaseSet) (f : ℕ → Bool) (xs : List ℕ) → Has side (are_of_one_side t s)
    → first f (from_side t s xs [])
    ≡ or_else (first f (drop (place_after (is_member side) xs) xs)) (first f (take (place_after (is_member side) xs) xs))
first-side t s side f xs h =
    ap (first f) (from-side t s xs []
    ∙ ap (λ (k : ℕ). rotated k xs [])
    (sym (place-same (is_member side) (are_of_one_side t s) xs (member-of side (are_of_one_side t s) h (no-side t s))))
    ∙ rotated-none (place_after (is_member side) xs) xs)
    ∙ first-append f (drop (place_after (is_member side) xs) xs) (take (place_after (is_member side) xs) xs)

-- the only one of what is found first, else of the others
pub or-else-first : (f : ℕ → Bool) (xs ys : List ℕ) (n : ℕ) → f 0 ≡ false → n ≡ only (first f xs) → n ≢ 0
    → n ≡ only (or_else (first f xs) ys)
or-else-first f xs ys n z e h = sym (only-or_else f xs ys z ∙ rw (← e, ne_eqb n 0 h) refl)

pub or-else-second : (f : ℕ → Bool) (xs ys : List ℕ) (n m : ℕ) → f 0 ≡ false → n ≡ only (first f xs) → n ≡ 0 → m ≡ only ys
    → m ≡ only (or_else (first f xs) ys)
or-else-second f xs ys n m z e h a = a ∙ sym (only-or_else f xs ys z ∙ rw (← e, h) refl)

-- the first of the heads that passes, found after the place of the present side, or up to it
pub side-behind : (t : Tables) (s : ℕ) (side : PhaseSet) (f : ℕ → Bool) (heads order : List ℕ) (turn n : ℕ) → Has side (are_of_one_side t s)
    → f 0 ≡ false → heads ≡ order → turn ≡ place_after (is_member side) heads → n ≡ only (first f (drop turn heads)) → n ≢ 0
    → n ≡ only (first f (from_side t s order []))
side-behind t s side f heads order turn n h z e p found some =
    or-else-first f (drop turn heads) (first f (take turn heads)) n z found some
    ∙ ap (λ (k : ℕ). only (or_else (first f (drop k heads)) (first f (take k heads)))) p
    ∙ ap only (sym (first-side t s side f heads h)) ∙ ap (λ (ys : List ℕ). only (first f (from_side t s ys []))) e

pub side-before : (t : Tables) (s : ℕ) (side : PhaseSet) (f : ℕ → Bool) (heads order : List ℕ) (turn n m : ℕ) → Has side (are_of_one_side t s)
    → f 0 ≡ false → heads ≡ order → turn ≡ place_after (is_member side) heads → n ≡ only (first f (drop turn heads)) → n ≡ 0
    → m ≡ only (first f (take turn heads)) → m ≡ only (first f (from_side t s order []))
side-before t s side f heads order turn n m h z e p found none before =
    or-else-second f (drop turn heads) (first f (take turn heads)) n m z found none before
    ∙ ap (λ (k : ℕ). only (or_else (first f (drop k heads)) (first f (take k heads)))) p
    ∙ ap only (sym (first-side t s side f heads h)) ∙ ap (λ (ys : List ℕ). only (first f (from_side t s ys []))) e

-- what a ring begins as the first side that passes is entered
pub entering-none : (w : Scene) (r : ℕ) (f : ℕ → Bool) (xs : List ℕ) → f 0 ≡ false → 0 ≡ only (first f xs)
    → 0 ≡ only (entering w (first f xs) r)
entering-none w r f [] z e = refl
entering-none w r f (x ∷ xs) z e = elim (cases_Bool (f x)) [
  | inl t ↦ (let e' : 0 ≡ x = rw t at e in absurd (cc))
  | inr t ↦ (let e' : 0 ≡ only (first f xs) = rw t at e in rw t (entering-none w r f xs z e'))
]

pub entering-side : (w : Scene) (r n : ℕ) (f : ℕ → Bool) (xs : List ℕ) → n ≡ only (first f xs) → n ≢ 0
    → entering_in w n r ≡ entering w (first f xs) r
entering-side w r n f [] e h = absurd (h e)
entering-side w r n f (x ∷ xs) e h = elim (cases_Bool (f x)) [
  | inl t ↦ (let e' : n ≡ x = rw t at e in rw t (ap (λ (k : ℕ). entering_in w k r) e'))
  | inr t ↦ (let e' : n ≡ only (first f xs) = rw t at e in rw t (entering-side w r n f xs e' h))
]

pub both-stay : (w : Scene) (r n : ℕ) → stays_in_side w ≡ true → n ≡ only (beginning_in w 0 r) → n ≡ only (beginning_both w r)
both-stay w r n h e = rw h e

pub both-enter : (w : Scene) (r n : ℕ) → stays_in_side w ≡ false → n ≡ only (entering w (entered w) r) → n ≡ only (beginning_both w r)
both-enter w r n h e = rw h e

pub begins-both : (w : Scene) (r : ℕ) → is_open w r ≡ true → is_open w (other_ring r) ≡ true
    → only (beginning_both w r) ≡ only (beginning_of w r)
begins-both w r o p = rw (o, p) refl

pub begins-alone : (w : Scene) (r n : ℕ) → is_open w r ≡ true → is_open w (other_ring r) ≡ false
    → n ≡ only (beginning_in w (greatest_clearance w) r) → n ≡ only (beginning_of w r)
begins-alone w r n o p e = rw (o, p) e

pub begins-nothing : (w : Scene) (r : ℕ) → is_open w r ≡ false → 0 ≡ only (beginning_of w r)
begins-nothing w r o = rw o refl

pub pair : (a b c d : ℕ) → a ≡ c → b ≡ d → a ∷ (b ∷ []) ≡ c ∷ (d ∷ [])
pair a b c d e f = rw (e, f) refl

-- where no ring is open, and no phase is done or forced off, nothing ends and nothing begins
idle-ends : (w : Scene) (r : ℕ) → is_done w (on_phase w r) ≡ false → is_forced w (on_phase w r) ≡ false → ending_in w r ≡ []
idle-ends w r d f = let e : is_ended w r (on_phase w r) ≡ false = sym (ended-not w r (on_phase w r) d) in rw (f, e) refl

idle-begins : (w : Scene) (r : ℕ) → is_open w r ≡ false → beginning_of w r ≡ []
idle-begins w r o = rw o refl

no-moves : (a b c d : List ℕ) → a ≡ [] → b ≡ [] → c ≡ [] → d ≡ []
    → let moves : Moves = record { ends = a ++ b; begins = c ++ d } in moves ≡ record { ends = []; begins = [] }
no-moves a b c d ea eb ec ed = rw (ea, eb, ec, ed) refl

pub idle-moves : (w : Scene) → is_open w 1 ≡ false → is_open w 2 ≡ false → ((q : ℕ) → is_done w q ≡ false) → ((q : ℕ) → is_forced w q ≡ false)
    → ring_moves w ≡ record { ends = []; begins = [] }
idle-moves w o p d f =
    no-moves (ending_in w 1) (ending_in w 2) (beginning_of w 1) (beginning_of w 2)
    (idle-ends w 1 (d (on_phase w 1)) (f (on_phase w 1))) (idle-ends w 2 (d (on_phase w 2)) (f (on_phase w 2)))
    (idle-begins w 1 o) (idle-begins w 2 p)
