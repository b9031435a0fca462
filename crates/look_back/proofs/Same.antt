-- What compares as the same is one.
use Rattle.std.proofs.Common.{◌≡◌, ◌==◌, ℕ, true, refl, ap}
use Rattle.std.proofs.lemmas.Bool.{false≢true}
use Rattle.sig_types.specs.declared.frame.Mode.{Mode}
use Rattle.sig_types.specs.declared.frame.Mode.TheVariants.{Start, Free, Seek, Coord, Ending, Flash, Entry, Track, Dwell, Exit}
use Rattle.sig_types.specs.declared.phase_set.PhaseSet.{PhaseSet}
use Rattle.sig_types.specs.Colour.{same_mode}
use Rattle.sig_types.proofs.Lists.{eq-true}
use Rattle.look_back.specs.declared.shown.Shown.{Shown}
use Rattle.look_back.specs.declared.sample.Sample.{Sample}
use Rattle.look_back.specs.Shown.{ShowsSame}
use Rattle.look_back.specs.Look.{IsAsSeen}

abbrev set : ℕ → PhaseSet
set n = record { 0 = n }

pub one-set : (a b : PhaseSet) → (a.0 == b.0) ≡ true → a ≡ b
one-set a b h = let e : set a.0 ≡ set b.0 = ap (λ (n : ℕ). set n) (eq-true a.0 b.0 h) in e

-- two modes that compare as the same are one
pub one-mode : (a b : Mode) → same_mode a b ≡ true → a ≡ b
one-mode Start Start h = refl
one-mode Free Free h = refl
one-mode (Seek m) (Seek n) h = ap Seek (eq-true m n h)
one-mode (Coord m) (Coord n) h = ap Coord (eq-true m n h)
one-mode Ending Ending h = refl
one-mode Flash Flash h = refl
one-mode (Entry m) (Entry n) h = ap Entry (eq-true m n h)
one-mode (Track m) (Track n) h = ap Track (eq-true m n h)
one-mode (Dwell m) (Dwell n) h = ap Dwell (eq-true m n h)
one-mode (Exit m) (Exit n) h = ap Exit (eq-true m n h)
one-mode _ _ h = absurd (false≢true h)

abbrev shown : PhaseSet → PhaseSet → PhaseSet → PhaseSet → PhaseSet → PhaseSet → PhaseSet → Shown
shown green yellow clear red walk flash dont =
    record { green = green; yellow = yellow; clear = clear; red = red; walk = walk; flash = flash; dont = dont }

pub one-shown : (a b : Shown) → ShowsSame a b → a.walk ≡ b.walk → a.flash ≡ b.flash → a.dont ≡ b.dont → a ≡ b
one-shown a b same walk flash dont =
    let e : shown a.green a.yellow a.clear a.red a.walk a.flash a.dont ≡ shown b.green b.yellow b.clear b.red b.walk b.flash b.dont =
    rw (same.green, same.yellow, same.clear, same.red, walk, flash, dont) refl in
    e

abbrev sample : Shown → ℕ → ℕ → Mode → PhaseSet → PhaseSet → Sample
sample s first second mode quiet opposed =
    record { shown = s; first = first; second = second; mode = mode; quiet = quiet; opposed = opposed }

pub one-sample : (a b : Sample) → a.shown ≡ b.shown → IsAsSeen a b → a ≡ b
one-sample a b same seen =
    let e : sample a.shown a.first a.second a.mode a.quiet a.opposed ≡ sample b.shown b.first b.second b.mode b.quiet b.opposed =
    rw (same, seen.first, seen.second, seen.mode, seen.quiet, seen.opposed) refl in
    e
