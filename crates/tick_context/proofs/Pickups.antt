-- The count of a cycle, with one frame more.
use Rattle.std.proofs.Common.{◌≡◌, ◌<◌, ◌≤◌, ◌+◌, ℕ, Bool, true, false, not, if◌then◌else◌}
use Rattle.std.proofs.Common.{List, [], ◌∷◌, refl, sym, ◌∙◌, ap, arith, subst, inl, inr}
use Rattle.std.proofs.lemmas.Bool.{cases_Bool}
use Rattle.sig_types.specs.declared.frame.Frame.{Frame}
use Rattle.sig_types.specs.declared.frame.Mode.{Mode}
use Rattle.sig_types.specs.declared.frame.Mode.TheVariants.{Coord}
use Rattle.sig_types.specs.Colour.{is_start, same_mode}
use Rattle.sig_tables.specs.Walking.{is_local_zero}
use Rattle.sig_tables.specs.Choosing.{is_in_step}
use Rattle.sig_tables.specs.Past.{Past, Moment}
use Rattle.sig_tables.specs.Looking.{last_frame, start_run}
use Rattle.sig_tables.specs.Counters.{counters_since}
use Rattle.coord_count.specs.declared.Count.{Count}
use Rattle.coord_count.specs.CountStands.{CountStands}
use Rattle.tick_context.proofs.Counted.{counters-more}

-- a coordinated frame is counted, after those before it
pub kept-on : (new : Count) (past : Past) (m : Moment) (n last counter : ℕ) (before : List ℕ) → is_in_step m.frame past.version n ≡ true
    → counter ≡ m.frame.counter → counters_since n past.version past.moments ≡ last ∷ before → CountStands new (counter ∷ last ∷ before)
    → CountStands new (counters_since n past.version (m ∷ past.moments))
kept-on new past m n last counter before s e h stands =
    subst (λ (xs : List ℕ). CountStands new xs)
    (ap (λ (x : ℕ). x ∷ last ∷ before) e ∙ ap (λ (xs : List ℕ). m.frame.counter ∷ xs) (sym h) ∙ sym (counters-more n past.version m past.moments s))
    stands

-- and where there is none before it, it is the pickup
pub picked-up : (new : Count) (past : Past) (m : Moment) (n : ℕ) → is_in_step m.frame past.version n ≡ true
    → 0 ≡ m.frame.counter → counters_since n past.version past.moments ≡ [] → CountStands new (0 ∷ [])
    → CountStands new (counters_since n past.version (m ∷ past.moments))
picked-up new past m n s e h stands =
    subst (λ (xs : List ℕ). CountStands new xs)
    (ap (λ (x : ℕ). x ∷ []) e ∙ ap (λ (xs : List ℕ). m.frame.counter ∷ xs) (sym h) ∙ sym (counters-more n past.version m past.moments s))
    stands

-- the run of Start, with one frame more
pub start-next : (m : Moment) (past : List Moment) (count : ℕ) (s : Bool) → s ≡ is_start m.frame.mode → count ≡ start_run past
    → (if s then count + 1 else 0) ≡ start_run (m ∷ past)
start-next m past count s e f = rw (e, f) refl

pub start-zero : (past : List Moment) → is_start (last_frame past).mode ≡ false → start_run past ≡ 0
start-zero [] e = refl
start-zero (m ∷ past) e = rw e refl

pub few-next : (m : Moment) (past : List Moment) → (is_start m.frame.mode ≡ true → is_start (last_frame past).mode ≡ true → start_run past < 60)
    → start_run (m ∷ past) ≤ 60
few-next m past again = elim (cases_Bool (is_start m.frame.mode)) [
  | inl s ↦ elim (cases_Bool (is_start (last_frame past).mode)) [
    | inl l ↦ let few : start_run past < 60 = again s l in let is : start_run (m ∷ past) ≡ start_run past + 1 = rw s refl in omega arith
    | inr l ↦ let none : start_run past ≡ 0 = start-zero past l in let is : start_run (m ∷ past) ≡ start_run past + 1 = rw s refl in omega arith
  ]
  | inr s ↦ let is : start_run (m ∷ past) ≡ 0 = rw s refl in omega arith
]

pub one-more : (n : ℕ) → n < n + 1
one-more n = omega arith

pub same-most : (n : ℕ) → n ≤ n
same-most n = omega arith

-- a local zero, where both counters are 0
pub zero-is : (n counter : ℕ) (f : Frame) (m : Mode) (b : Bool) → m ≡ Coord n → counter ≡ 0 → f.counter ≡ 0 → b ≡ same_mode f.mode (Coord n)
    → not b ≡ is_local_zero m counter f
zero-is n counter f m b e z w h = rw (e, z, w, h) refl
