-- What one moment more changes of runs and latched times.
use Rattle.std.proofs.Common.{◌≡◌, ℕ, ◌+◌, true, false, List, ◌∷◌, refl, ◌∙◌, ap}
use Rattle.sig_types.specs.declared.frame.Colour.{Colour}
use Rattle.sig_types.specs.declared.frame.Colour.TheVariants.{Green, Yellow, Clear, Red}
use Rattle.sig_types.specs.Colour.{same_colour, colour_of}
use Rattle.sig_tables.specs.declared.tables.Tables.{Tables}
use Rattle.sig_tables.specs.Past.{Moment}
use Rattle.sig_tables.specs.Looking.{run, latched}

pub same-self : (c : Colour) → same_colour c c ≡ true
same-self Green = refl
same-self Yellow = refl
same-self Clear = refl
same-self Red = refl

-- a colour that continues has run one longer, and its times are those latched before
pub run-on : (p : ℕ) (c : Colour) (m : Moment) (past : List Moment) → colour_of m.frame p ≡ c → run p c (m ∷ past) ≡ run p c past + 1
run-on p c m past e = rw (e, same-self c) refl

pub latched-on : (p : ℕ) (c : Colour) (t : Tables) (m : Moment) (past : List Moment) → colour_of m.frame p ≡ c → m.tables ≡ t
    → latched p c t past ≡ t → latched p c t (m ∷ past) ≡ t
latched-on p c t m past e same l = rw (e, same-self c, same) l

-- one that was not shown has not run, and its times are those now in force
pub run-none : (p : ℕ) (c d : Colour) (n : Moment) (past : List Moment) → colour_of n.frame p ≡ d → same_colour d c ≡ false → run p c (n ∷ past) ≡ 0
run-none p c d n past e f = rw (e, f) refl

pub latched-none : (p : ℕ) (c d : Colour) (t : Tables) (n : Moment) (past : List Moment) → colour_of n.frame p ≡ d → same_colour d c ≡ false
    → latched p c t (n ∷ past) ≡ t
latched-none p c d t n past e f = rw (e, f) refl

-- a colour that comes has run once, under the tables in force
pub run-first : (p : ℕ) (c d : Colour) (m n : Moment) (past : List Moment) → colour_of m.frame p ≡ c → colour_of n.frame p ≡ d → same_colour d c ≡ false
    → run p c (m ∷ n ∷ past) ≡ 1
run-first p c d m n past e f differs = run-on p c m (n ∷ past) e ∙ ap (λ (x : ℕ). x + 1) (run-none p c d n past f differs)

pub latched-first : (p : ℕ) (c d : Colour) (t : Tables) (m n : Moment) (past : List Moment) → colour_of m.frame p ≡ c → colour_of n.frame p ≡ d
    → same_colour d c ≡ false
    → m.tables ≡ t → latched p c t (m ∷ n ∷ past) ≡ t
latched-first p c d t m n past e f differs same = latched-on p c t m (n ∷ past) e same (latched-none p c d t n past f differs)
