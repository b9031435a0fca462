-- How long a test has held, by a row that is counted no further than it is compared with.
use Rattle.std.proofs.Common.{◌≡◌, ◌≢◌, inl, inr, ◌≤◌, ◌<◌, ◌-◌, ℕ, zero, suc, min, nat_le, Bool, true, false, List, [], ◌∷◌, refl, sym, ◌∙◌, arith, ◌&&◌, subst}
use Rattle.std.proofs.lemmas.Bool.{cases_Bool, leb-true, leb-false, le-leb}
use Rattle.std.proofs.Math.Nat.{min-eq_left}
use Rattle.sig_types.specs.declared.frame.Mode.{Mode}
use Rattle.sig_types.specs.declared.frame.Mode.TheVariants.{Start, Free, Seek, Coord, Ending, Flash, Entry, Track, Dwell, Exit}
use Rattle.sig_types.specs.Colour.{same_mode, is_start}
use Rattle.sig_tables.specs.declared.tables.PhaseList.{PhaseList}
use Rattle.sig_tables.specs.Tables.{listed}
use Rattle.sig_tables.specs.Preempts.{has_reached}
use Rattle.sig_tables.specs.Past.{Moment}
use Rattle.look_back.specs.declared.sample.Look.TheVariants.{Dwells}
use Rattle.look_back.specs.Look.{is_so}
use Rattle.sig_tables.specs.Looking.{in_a_row, lasts, lasts_now, start_run}
use Rattle.sig_tables.proofs.Lasting.{lasts-counted}

-- a row that is counted no further than `most` has reached n where the whole row has
pub reached : (n most row : ℕ) → n ≤ most → nat_le n (min row most) ≡ nat_le n row
reached n most row le = elim (cases_Bool (nat_le n row)) [
  | inl e ↦ let far : n ≤ row = leb-true n row e in let both : n ≤ min row most = omega arith in le-leb n (min row most) both ∙ sym e
  | inr e ↦ let lt : row < n = leb-false n row e in let near : row ≤ most = omega arith in rw (min-eq_left near) refl
]

pub lasts-reached : (n : ℕ) (test : Moment → Bool) (past : List Moment) → nat_le n (min (in_a_row test past) n) ≡ lasts n test past
lasts-reached n test past = reached n n (in_a_row test past) (omega arith) ∙ sym (lasts-counted n test past)

-- with this tick's answer as the newest
pub now-none : (n : ℕ) (now : Bool) (test : Moment → Bool) (past : List Moment) → n ≡ 0 → true ≡ lasts_now n now test past
now-none zero now test past e = refl
now-none (suc n) now test past e = absurd (omega arith)

pub now-passes : (n : ℕ) (now : Bool) (test : Moment → Bool) (past : List Moment) → n ≢ 0 → now ≡ true
    → lasts (n - 1) test past ≡ lasts_now n now test past
now-passes zero now test past ne e = absurd (omega arith)
now-passes (suc n) now test past ne e = let k : suc n - 1 ≡ n = omega arith in rw (k, e) refl

pub now-fails : (n : ℕ) (now : Bool) (test : Moment → Bool) (past : List Moment) → n ≢ 0 → now ≡ false → false ≡ lasts_now n now test past
now-fails zero now test past ne e = absurd (omega arith)
now-fails (suc n) now test past ne e = rw e refl

-- tests that answer alike have the same row
pub row-same : (f g : Moment → Bool) (past : List Moment) → ((m : Moment) → f m ≡ g m) → in_a_row f past ≡ in_a_row g past
row-same f g [] e = refl
row-same f g (m ∷ past) e = rw (e m, row-same f g past e) refl

start-is : (mode : Mode) → same_mode mode Start ≡ is_start mode
start-is Start = refl
start-is Free = refl
start-is (Seek n) = refl
start-is (Coord n) = refl
start-is Ending = refl
start-is Flash = refl
start-is (Entry i) = refl
start-is (Track i) = refl
start-is (Dwell i) = refl
start-is (Exit i) = refl

pub start-row : (past : List Moment) → in_a_row (λ m. same_mode m.frame.mode Start) past ≡ start_run past
start-row past = row-same (λ m. same_mode m.frame.mode Start) (λ m. is_start m.frame.mode) past (λ m. start-is m.frame.mode)

-- a number that is kept of a row of any length
pub row-lasts : (n most : ℕ) (test : Moment → Bool) (past : List Moment) → n ≤ most
    → nat_le n (min (in_a_row test past) most) ≡ lasts n test past
row-lasts n most test past le = reached n most (in_a_row test past) le ∙ sym (lasts-counted n test past)

-- a preempt dwells in the phases of a list as in those of a set that has them
pub dwelt-is : (n i : ℕ) (goal : PhaseList) (set : List ℕ) (past : List Moment) → listed goal ≡ set
    → lasts n (is_so (Dwells i goal)) past ≡ lasts n (λ m. same_mode m.frame.mode (Dwell i) && has_reached m.frame set) past
dwelt-is n i goal set past e =
    let P : List ℕ → Type 0 =
    λ xs. lasts n (is_so (Dwells i goal)) past ≡ lasts n (λ m. same_mode m.frame.mode (Dwell i) && has_reached m.frame xs) past in
    subst P e refl
