-- Local zeros since the last disturbance, and the counters of coordinated frames.
use Rattle.std.proofs.Common.{◌≡◌, ℕ, ◌+◌, Bool, true, false, not, ◌==◌, ◌&&◌, ◌||◌, if◌then◌else◌, List, [], ◌∷◌, refl, sym, ◌∙◌, ap}
use Rattle.std.proofs.lemmas.Bool.{false≢true, and_from}
use Rattle.sig_types.specs.declared.frame.Mode.{Mode}
use Rattle.sig_types.specs.declared.frame.Mode.TheVariants.{Coord}
use Rattle.sig_tables.specs.Modes.{same_mode}
use Rattle.sig_tables.specs.Counting.{changes_to_zero}
use Rattle.sig_tables.specs.Counters.{counters_since}
use Rattle.sig_tables.specs.Walking.{is_local_zero}
use Rattle.sig_tables.specs.Past.{Moment}
use Rattle.coordination_laws.proofs.Looks.{same}
use Rattle.plan_facts.specs.Disturbances.{Drift, is_disturbed, quiet_for}
use Rattle.plan_facts.specs.Meets.{is_zero, is_some, zero_or_now, first_zero, has_zero}

-- how long it has been quiet, by the last moment
pub quiet-none : (d : Drift) (m : Moment) (past : List Moment) → is_disturbed d (m ∷ past) ≡ true → quiet_for d (m ∷ past) ≡ 0
quiet-none d m past e = ap (λ (b : Bool). if b then 0 else quiet_for d past + 1) e

pub quiet-more : (d : Drift) (m : Moment) (past : List Moment) → is_disturbed d (m ∷ past) ≡ false → quiet_for d (m ∷ past) ≡ quiet_for d past + 1
quiet-more d m past e = ap (λ (b : Bool). if b then 0 else quiet_for d past + 1) e

-- the first local zero, by the last moment
pub first-quiet : (d : Drift) (m : Moment) (past : List Moment) → is_disturbed d (m ∷ past) ≡ false
    → first_zero d (m ∷ past) ≡ zero_or_now (first_zero d past) (m ∷ past)
first-quiet d m past e = ap (λ (b : Bool). if b then [] else zero_or_now (first_zero d past) (m ∷ past)) e

older-stays : (zs now : List Moment) → is_some zs ≡ true → zero_or_now zs now ≡ zs
older-stays [] now e = absurd (false≢true e)
older-stays (z ∷ zs) now e = refl

none-yet : (zs now : List Moment) → is_some zs ≡ false → is_zero now ≡ true → zero_or_now zs now ≡ now
none-yet [] now e zero = ap (λ (b : Bool). if b then now else []) zero
none-yet (z ∷ zs) now e zero = absurd (false≢true (sym e))

pub first-older : (d : Drift) (m : Moment) (past : List Moment) → is_disturbed d (m ∷ past) ≡ false → has_zero d past ≡ true
    → first_zero d (m ∷ past) ≡ first_zero d past
first-older d m past e h = first-quiet d m past e ∙ older-stays (first_zero d past) (m ∷ past) h

pub first-now : (d : Drift) (m : Moment) (past : List Moment) → is_disturbed d (m ∷ past) ≡ false → has_zero d past ≡ false
    → is_zero (m ∷ past) ≡ true → first_zero d (m ∷ past) ≡ m ∷ past
first-now d m past e none zero = first-quiet d m past e ∙ none-yet (first_zero d past) (m ∷ past) none zero

pub has-older : (d : Drift) (m : Moment) (past : List Moment) → is_disturbed d (m ∷ past) ≡ false → has_zero d past ≡ true
    → has_zero d (m ∷ past) ≡ true
has-older d m past e h = ap is_some (first-older d m past e h) ∙ h

pub has-now : (d : Drift) (m : Moment) (past : List Moment) → is_disturbed d (m ∷ past) ≡ false → is_zero (m ∷ past) ≡ true
    → has_zero d (m ∷ past) ≡ true
has-now d m past e zero = pick (has_zero d past) refl
  where
    pick : (b : Bool) → has_zero d past ≡ b → has_zero d (m ∷ past) ≡ true
    pick true h = has-older d m past e h
    pick false h = ap is_some (first-now d m past e h zero)

-- the counters of coordinated frames
pub counters-more : (n v : ℕ) (m : Moment) (past : List Moment) → m.frame.mode ≡ Coord n → m.frame.version ≡ v
    → counters_since n v (m ∷ past) ≡ m.frame.counter ∷ counters_since n v past
counters-more n v m past mode version =
    ap (λ (b : Bool). if b then m.frame.counter ∷ counters_since n v past else [])
    (and_from (m.frame.version == v) (same_mode m.frame.mode (Coord n)) (ap (λ (x : ℕ). x == v) version ∙ same v)
    (ap (λ (x : Mode). same_mode x (Coord n)) mode ∙ same n))

pub counters-end : (n v : ℕ) (l : Moment) (past : List Moment) → (l.frame.version == v && same_mode l.frame.mode (Coord n)) ≡ false
    → counters_since n v (l ∷ past) ≡ []
counters-end n v l past e = ap (λ (b : Bool). if b then l.frame.counter ∷ counters_since n v past else []) e

-- a local zero after a coordinated frame is a change of the counter to 0
pub zero-changes : (n : ℕ) (m l : Moment) (past : List Moment) → m.frame.mode ≡ Coord n → l.frame.mode ≡ Coord n
    → is_zero (m ∷ l ∷ past) ≡ changes_to_zero m.frame.counter l.frame.counter
zero-changes n m l past mode before =
    ap (λ (x : Mode). is_local_zero x m.frame.counter l.frame) mode
    ∙ ap (λ (b : Bool). m.frame.counter == 0 && (not (l.frame.counter == 0) || not b)) (ap (λ (x : Mode). same_mode x (Coord n)) before ∙ same n)
    ∙ ap (λ (b : Bool). m.frame.counter == 0 && b) (plain (not (l.frame.counter == 0)))
  where
    plain : (b : Bool) → (b || false) ≡ b
    plain true = refl
    plain false = refl
