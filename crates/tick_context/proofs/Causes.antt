-- The reasons to end a green where a pattern binds.
use Rattle.std.proofs.Common.{◌≡◌, ◌≢◌, ℕ, zero, suc, Bool, true, false, not, ◌||◌, ◌==◌, if◌then◌else◌, Some, None, refl, ◌∙◌, ap, arith}
use Rattle.std.proofs.lemmas.Bool.{ne_eqb}
use Rattle.sig_types.specs.declared.frame.Colour.TheVariants.{Green}
use Rattle.sig_tables.specs.declared.tables.Tables.{Tables}
use Rattle.sig_tables.specs.Slots.{is_coordinated}
use Rattle.sig_tables.specs.Past.{Past}
use Rattle.sig_tables.specs.Looking.{run}
use Rattle.sig_tables.specs.Coordinating.{is_released, extension_of, is_floating, has_floated}
use Rattle.sig_tables.specs.TickState.{tick_state_of}
use Rattle.sig_tables.specs.View.{has_gap, has_filled_split, is_reasoned}
use Rattle.sig_tables.specs.Seen.{view_seen}
use Rattle.prio_queue.specs.Places.{some_number}

first-of : (b x y z : Bool) → b ≡ true → z ≡ x → z ≡ (if b then x else y)
first-of b x y z e f = rw (e, f) refl

second-of : (b x y z : Bool) → b ≡ false → z ≡ y → z ≡ (if b then x else y)
second-of b x y z e f = rw (e, f) refl

pub held-reason : (past : Past) (n p : ℕ) (x : Bool) → is_coordinated past.tables n p ≡ true
    → x ≡ is_released past.tables n (tick_state_of past).counter (tick_state_of past).active p → x ≡ is_reasoned (Some n) (view_seen past) p
held-reason past n p x e f = first-of (is_coordinated past.tables n p) _ _ x e f

-- the reasons that are not its release
abbrev others : Past → ℕ → ℕ → Bool
others past n p = not ((tick_state_of past).active == 0) || has_gap (view_seen past) p || has_filled_split (view_seen past) n p

other-reason : (past : Past) (n p : ℕ) (x : Bool) → is_coordinated past.tables n p ≡ false → x ≡ others past n p
    → x ≡ is_reasoned (Some n) (view_seen past) p
other-reason past n p x e f = second-of (is_coordinated past.tables n p) _ _ x e f

pub asked-reason : (past : Past) (n p : ℕ) → is_coordinated past.tables n p ≡ false → not ((tick_state_of past).active == 0) ≡ true
    → true ≡ is_reasoned (Some n) (view_seen past) p
asked-reason past n p e asked =
    other-reason past n p true e
    (one (not ((tick_state_of past).active == 0)) (has_gap (view_seen past) p) (has_filled_split (view_seen past) n p) asked)
  where
    one : (a b c : Bool) → a ≡ true → true ≡ (a || b || c)
    one a b c h = rw h refl

pub gap-reason : (past : Past) (n p : ℕ) → is_coordinated past.tables n p ≡ false → has_gap (view_seen past) p ≡ true
    → true ≡ is_reasoned (Some n) (view_seen past) p
gap-reason past n p e gap =
    other-reason past n p true e
    (two (not ((tick_state_of past).active == 0)) (has_gap (view_seen past) p) (has_filled_split (view_seen past) n p) gap)
  where
    two : (a b c : Bool) → b ≡ true → true ≡ (a || b || c)
    two true b c h = refl
    two false b c h = rw h refl

pub fill-reason : (past : Past) (n p green : ℕ) (x : Bool) → is_coordinated past.tables n p ≡ false → not ((tick_state_of past).active == 0) ≡ false
    → has_gap (view_seen past) p ≡ false → green ≡ run p Green past.moments
    → x ≡ (if is_floating past.tables then has_floated past.tables n p green else false) → x ≡ is_reasoned (Some n) (view_seen past) p
fill-reason past n p green x e asked gap is f =
    other-reason past n p x e
    (f ∙ ap (λ (k : ℕ). if is_floating past.tables then has_floated past.tables n p k else false) is ∙ three (not ((tick_state_of past).active == 0)) (has_gap
    (view_seen past) p) (has_filled_split (view_seen past) n p) asked gap)
  where
    three : (a b c : Bool) → a ≡ false → b ≡ false → c ≡ (a || b || c)
    three a b c g h = rw (g, h) refl

-- a request that is active, by its number
pub extension-some : (t : Tables) (n k : ℕ) → Some k ≡ some_number n → t.unit.extension ≡ extension_of t n
extension-some t zero k e = let h : Some k ≡ None = e in absurd (cc h)
extension-some t (suc n) k e = let ne : suc n ≢ 0 = omega arith in rw (ne_eqb (suc n) 0 ne) refl

pub extension-none : (t : Tables) (n : ℕ) → None ≡ some_number n → 0 ≡ extension_of t n
extension-none t zero e = refl
extension-none t (suc n) e = let h : None ≡ Some (suc n) = e in absurd (cc h)

pub number-some : (n k : ℕ) → Some k ≡ some_number n → true ≡ not (n == 0)
number-some zero k e = let h : Some k ≡ None = e in absurd (cc h)
number-some (suc n) k e = let ne : suc n ≢ 0 = omega arith in rw (ne_eqb (suc n) 0 ne) refl

pub number-none : (n : ℕ) → None ≡ some_number n → false ≡ not (n == 0)
number-none zero e = refl
number-none (suc n) e = let h : None ≡ Some (suc n) = e in absurd (cc h)
