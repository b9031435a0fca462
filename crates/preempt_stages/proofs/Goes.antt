-- What is kept continues with one more moment.
use Rattle.std.proofs.Common.{◌≡◌, ◌+◌, ◌==◌, ℕ, Bool, true, false, List, [], ◌∷◌, refl, ap, arith}
use Rattle.sig_types.specs.declared.frame.Mode.{Mode}
use Rattle.sig_types.specs.declared.frame.Mode.TheVariants.{Start, Free, Seek, Coord, Ending, Flash, Entry, Track, Dwell, Exit}
use Rattle.std.proofs.lemmas.Bool.{false≢true}
use Rattle.std.proofs.lemmas.Bool.Decides.{Decides-eqb}
use Rattle.sig_tables.specs.Modes.{same_mode}
use Rattle.sig_tables.specs.Past.{Moment}
use Rattle.sig_tables.specs.Looking.{in_a_row, last_frame}

itself : (n : ℕ) → (n == n) ≡ true
itself n = (Decides-eqb n n).1 refl

pub same_mode-itself : (mode : Mode) → same_mode mode mode ≡ true
same_mode-itself Start = refl
same_mode-itself Free = refl
same_mode-itself (Seek n) = itself n
same_mode-itself (Coord n) = itself n
same_mode-itself Ending = refl
same_mode-itself Flash = refl
same_mode-itself (Entry i) = itself i
same_mode-itself (Track i) = itself i
same_mode-itself (Dwell i) = itself i
same_mode-itself (Exit i) = itself i

-- a run of modes continues with one more moment of which its test holds
pub goes_on : (test : Moment → Bool) (m : Moment) (past : List Moment) (since last : ℕ) → test m ≡ true
    → since + in_a_row test past ≡ last + 1 → since + in_a_row test (m ∷ past) ≡ last + 1 + 1
goes_on test m past since last passes run = rw passes (omega (arith, run))

-- and begins again where the test of the new mode fails at the last one
pub begins : (test : Mode → Bool) (m : Moment) (past : List Moment) (now : ℕ) → test m.frame.mode ≡ true
    → test (last_frame past).mode ≡ false → now + in_a_row (λ m. test m.frame.mode) (m ∷ past) ≡ now + 1
begins test m [] now passes fails = rw passes refl
begins test m (n ∷ past) now passes fails = rw (passes, fails) refl

-- two modes that a test finds the same are one
pub one-mode : (a b : Mode) → same_mode a b ≡ true → a ≡ b
one-mode Start Start h = refl
one-mode Free Free h = refl
one-mode (Seek m) (Seek n) h = ap Seek ((Decides-eqb m n).0 h)
one-mode (Coord m) (Coord n) h = ap Coord ((Decides-eqb m n).0 h)
one-mode Ending Ending h = refl
one-mode Flash Flash h = refl
one-mode (Entry m) (Entry n) h = ap Entry ((Decides-eqb m n).0 h)
one-mode (Track m) (Track n) h = ap Track ((Decides-eqb m n).0 h)
one-mode (Dwell m) (Dwell n) h = ap Dwell ((Decides-eqb m n).0 h)
one-mode (Exit m) (Exit n) h = ap Exit ((Decides-eqb m n).0 h)
one-mode _ _ h = absurd (false≢true h)
