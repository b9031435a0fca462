-- The greatest times so far: they bound each version's, and only grow.
use Rattle.std.proofs.Common.{◌≡◌, ◌⊎◌, inl, inr, ℕ, ◌+◌, ◌*◌, ◌≤◌, max, Bool, true, false, if◌then◌else◌, List, [], ◌∷◌, refl, sym, ◌∙◌, ap, arith}
use Rattle.std.proofs.lemmas.Bool.{false≢true}
use Rattle.sig_types.specs.Phases.{is_in, is_phase, all_phases}
use Rattle.sig_types.proofs.Lists.{in-cons, phase-listed}
use Rattle.sig_tables.specs.declared.tables.Tables.{Tables}
use Rattle.sig_tables.specs.Tables.{is_enabled, least_green, walk_time, pedestrian_clear_time, yellow_time, red_clear_time}
use Rattle.sig_tables.specs.Sums.{greatest}
use Rattle.sig_tables.specs.Past.{Moment}
use Rattle.sig_tables.specs.Looking.{in_a_row, begun}
use Rattle.coordination_laws.specs.Search.{Sums, GreatestKeeps, KeepsEach, IsLate}
use Rattle.plan_facts.specs.Greatest.{most, was_enabled, greatest_time, red_revert, clearance_so_far}
use Rattle.plan_facts.specs.Greatest.{service_so_far, greatest_clearance, greatest_service, greatest_revert, pickup_bound}
use Rattle.coordination_laws.specs.Versions.{IsVersion, greatest_at, HasYellow}

-- ---- one column
pub most-bounds : (column : Tables → ℕ) (t : Tables) (past : List Moment) → IsVersion t past → column t ≤ most column past
most-bounds column t [] h = absurd h
most-bounds column t (m ∷ past) (inl same) = let e : column t ≡ column m.tables = ap column same in omega arith
most-bounds column t (m ∷ past) (inr older) = let h : column t ≤ most column past = most-bounds column t past older in omega arith

pub was-enabled : (t : Tables) (p : ℕ) (past : List Moment) → is_enabled t p ≡ true → IsVersion t past → was_enabled p past ≡ true
was-enabled t p [] e h = absurd h
was-enabled t p (m ∷ past) e (inl same) = rw (sym (ap (λ (u : Tables). is_enabled u p) same) ∙ e) refl
was-enabled t p (m ∷ past) e (inr older) = pick (is_enabled m.tables p) (was-enabled t p past e older)
  where
    pick : (b : Bool) → was_enabled p past ≡ true → (if b then true else was_enabled p past) ≡ true
    pick true h = refl
    pick false h = h

-- a time of a phase that some version enables is at most the greatest so far
pub time-bounds : (time : Tables → ℕ → ℕ) (t : Tables) (p : ℕ) (past : List Moment) → was_enabled p past ≡ true → IsVersion t past
    → time t p ≤ greatest_time time p past
time-bounds time t p past e h = pick (was_enabled p past) e
  where
    pick : (b : Bool) → b ≡ true → time t p ≤ (if b then most (λ u. time u p) past else 0)
    pick true k = most-bounds (λ u. time u p) t past h
    pick false k = absurd (false≢true k)

-- it only grows
pub time-grows : (time : Tables → ℕ → ℕ) (p : ℕ) (m : Moment) (past : List Moment) → greatest_time time p past ≤ greatest_time time p (m ∷ past)
time-grows time p m past = pick (is_enabled m.tables p) (was_enabled p past)
  where
    pick : (a b : Bool) → (if b then most (λ u. time u p) past else 0)
        ≤ (if (if a then true else b) then max (time m.tables p) (most (λ u. time u p) past) else 0)
    pick true true = omega arith
    pick true false = omega arith
    pick false true = omega arith
    pick false false = omega arith

-- and what is not a phase has none
pub no-time : (time : Tables → ℕ → ℕ) (p : ℕ) (past : List Moment) → is_phase p ≡ false → greatest_time time p past ≡ 0
no-time time p past h = rw (never past) refl
  where
    never : (past : List Moment) → was_enabled p past ≡ false
    never [] = refl
    never (m ∷ past) = rw (h, never past) refl

-- ---- the greatest of all phases
greatest-bounds : (measure : ℕ → ℕ) (p : ℕ) (xs : List ℕ) → is_in xs p ≡ true → measure p ≤ greatest measure xs
greatest-bounds measure p [] h = absurd (false≢true h)
greatest-bounds measure p (x ∷ xs) h = elim (in-cons x xs p h) [
  | inl same ↦ let e : measure p ≡ measure x = ap measure same in omega arith
  | inr rest ↦ let b : measure p ≤ greatest measure xs = greatest-bounds measure p xs rest in omega arith
]

greatest-grows : (f g : ℕ → ℕ) (xs : List ℕ) → ((p : ℕ) → f p ≤ g p) → greatest f xs ≤ greatest g xs
greatest-grows f g [] h = omega arith
greatest-grows f g (x ∷ xs) h = let a : f x ≤ g x = h x in let b : greatest f xs ≤ greatest g xs = greatest-grows f g xs h in omega arith

-- a measure that is 0 but at phases is at most its greatest at them
bounded : (measure : ℕ → ℕ) (p : ℕ) → (is_phase p ≡ false → measure p ≡ 0) → measure p ≤ greatest measure all_phases
bounded measure p none = pick (is_phase p) refl
  where
    pick : (b : Bool) → is_phase p ≡ b → measure p ≤ greatest measure all_phases
    pick true e = greatest-bounds measure p all_phases (phase-listed p e)
    pick false e = let z : measure p ≡ 0 = none e in omega arith

pub clearance-bounds : (past : List Moment) (p : ℕ) → clearance_so_far past p ≤ greatest_clearance past
clearance-bounds past p = bounded (clearance_so_far past) p (λ h. rw (no-time yellow_time p past h, no-time red_clear_time p past h) refl)

pub service-bounds : (past : List Moment) (p : ℕ) → service_so_far past p ≤ greatest_service past
service-bounds past p = bounded (service_so_far past) p
    (λ h. rw (no-time least_green p past h, no-time walk_time p past h, no-time pedestrian_clear_time p past h) refl)

pub revert-bounds : (past : List Moment) (p : ℕ) → greatest_time red_revert p past ≤ greatest_revert past
revert-bounds past p = bounded (λ q. greatest_time red_revert q past) p (λ h. no-time red_revert p past h)

pub clearance-grows : (m : Moment) (past : List Moment) → greatest_clearance past ≤ greatest_clearance (m ∷ past)
clearance-grows m past = greatest-grows (clearance_so_far past) (clearance_so_far (m ∷ past)) all_phases
    (λ p. let a : greatest_time yellow_time p past ≤ greatest_time yellow_time p (m ∷ past) = time-grows yellow_time p m past in
    let b : greatest_time red_clear_time p past ≤ greatest_time red_clear_time p (m ∷ past) = time-grows red_clear_time p m past in
    sums _ _ _ _ a b)
  where
    sums : (a b c d : ℕ) → a ≤ c → b ≤ d → a + b ≤ c + d
    sums a b c d h k = omega arith

pub service-grows : (m : Moment) (past : List Moment) → greatest_service past ≤ greatest_service (m ∷ past)
service-grows m past = greatest-grows (service_so_far past) (service_so_far (m ∷ past)) all_phases
    (λ p. sums _ _ _ _ _ _ (time-grows least_green p m past) (time-grows walk_time p m past) (time-grows pedestrian_clear_time p m past))
  where
    sums : (a b c d e f : ℕ) → a ≤ d → b ≤ e → c ≤ f → max a (b + c) ≤ max d (e + f)
    sums a b c d e f h k l = omega arith

pub revert-grows : (m : Moment) (past : List Moment) → greatest_revert past ≤ greatest_revert (m ∷ past)
revert-grows m past = greatest-grows (λ p. greatest_time red_revert p past) (λ p. greatest_time red_revert p (m ∷ past)) all_phases
    (λ p. time-grows red_revert p m past)

-- the bound of a pickup only grows
pub pickup-grows : (m : Moment) (past : List Moment) → pickup_bound past ≤ pickup_bound (m ∷ past)
pickup-grows m past = sums _ _ _ _ _ _ (clearance-grows m past) (service-grows m past) (revert-grows m past)
  where
    sums : (a b c d e f : ℕ) → a ≤ d → b ≤ e → c ≤ f → 2 * a + b + c + 4 ≤ 2 * d + e + f + 4
    sums a b c d e f h k l = omega arith

-- ---- what the search asks of them
pub greatest-sums : (past : List Moment) (p : ℕ) → Sums (greatest_at past p)
greatest-sums past p = record {
  signals = upper _ _ _ (service-bounds past p);
  clearance = clearance-bounds past p;
  some = least _;
}
  where
    upper : (a b c : ℕ) → max a b ≤ c → b ≤ c
    upper a b c h = omega arith

    least : (a : ℕ) → 1 ≤ max 1 a
    least a = omega arith

-- tables that were in force keep the greatest times, for each phase that some version enables
pub version-keeps : (past : List Moment) (t : Tables) (p : ℕ) → IsVersion t past → was_enabled p past ≡ true → 1 ≤ yellow_time t p
    → GreatestKeeps (greatest_at past p) t p
version-keeps past t p h e yellow = record {
  least = upper _ _ _ _ (time-bounds least_green t p past e h) (service-bounds past p);
  walk = time-bounds walk_time t p past e h;
  flash = time-bounds pedestrian_clear_time t p past e h;
  yellow = time-bounds yellow_time t p past e h;
  red = time-bounds red_clear_time t p past e h;
  revert = reverts _ _ _ (time-bounds red_revert t p past e h) (revert-bounds past p);
  some = yellow;
}
  where
    upper : (a b c d : ℕ) → a ≤ b → max b c ≤ d → a ≤ d
    upper a b c d h k = omega arith

    reverts : (a b c : ℕ) → a ≤ b → b ≤ c → max 1 a ≤ max 1 c
    reverts a b c h k = omega arith

pub keeps-each : (past : List Moment) (t : Tables) → IsVersion t past → HasYellow t → KeepsEach (greatest_at past) t
keeps-each past t h yellow = record {
  sums = greatest-sums past;
  each = λ p e. version-keeps past t p h (was-enabled t p past e h) (yellow p e);
}

-- the tables at which a test began to pass were in force then, or are those that come before
begun-choice : (test : Moment → Bool) (t : Tables) (l : Moment) (past : List Moment) (b : Bool)
    → (begun test l.tables past ≡ l.tables) ⊎ IsVersion (begun test l.tables past) past
    → ((if b then begun test l.tables past else t) ≡ t) ⊎ IsVersion (if b then begun test l.tables past else t) (l ∷ past)
begun-choice test t l past true (inl same) = inr (inl same)
begun-choice test t l past true (inr older) = inr (inr older)
begun-choice test t l past false h = inl refl

begun-older : (test : Moment → Bool) (t : Tables) (past : List Moment) → (begun test t past ≡ t) ⊎ IsVersion (begun test t past) past
begun-older test t [] = inl refl
begun-older test t (l ∷ past) = begun-choice test t l past (test l) (begun-older test l.tables past)

pub begun-version : (test : Moment → Bool) (now : Tables) (past : List Moment) → 1 ≤ in_a_row test past → IsVersion (begun test now past) past
begun-version test now [] h = absurd (omega arith)
begun-version test now (m ∷ past) h = pick (test m) refl
  where
    pick : (b : Bool) → test m ≡ b → IsVersion (if b then begun test m.tables past else now) (m ∷ past)
    pick true e = begun-older test m.tables past
    pick false e = absurd (let z : in_a_row test (m ∷ past) ≡ 0 = rw e refl in omega arith)

-- from the bound on, less one, the greatest service, clearance and red revert are over
pub is-late : (past : List Moment) (ticks : ℕ) → pickup_bound past ≤ ticks + 2 → IsLate (greatest_at past) ticks
is-late past ticks h = record { outside = λ p. first _ _ _ h; goal = λ p. second _ _ _ h }
  where
    first : (c s v : ℕ) → 2 * c + s + v + 4 ≤ ticks + 2 → s + c + 1 ≤ ticks
    first c s v k = omega arith

    second : (c s v : ℕ) → 2 * c + s + v + 4 ≤ ticks + 2 → c + max 1 v ≤ ticks + 1
    second c s v k = omega arith

-- ---- a tick under tables that were in force before changes none of them
most-same : (column : Tables → ℕ) (m : Moment) (past : List Moment) → IsVersion m.tables past → most column (m ∷ past) ≡ most column past
most-same column m past h = let b : column m.tables ≤ most column past = most-bounds column m.tables past h in omega arith

enabled-same : (p : ℕ) (m : Moment) (past : List Moment) → IsVersion m.tables past → was_enabled p (m ∷ past) ≡ was_enabled p past
enabled-same p m past h = pick (is_enabled m.tables p) refl
  where
    pick : (b : Bool) → is_enabled m.tables p ≡ b → (if b then true else was_enabled p past) ≡ was_enabled p past
    pick true e = sym (was-enabled m.tables p past e h)
    pick false e = refl

time-same : (time : Tables → ℕ → ℕ) (p : ℕ) (m : Moment) (past : List Moment) → IsVersion m.tables past
    → greatest_time time p (m ∷ past) ≡ greatest_time time p past
time-same time p m past h =
    ap (λ (b : Bool). if b then most (λ t. time t p) (m ∷ past) else 0) (enabled-same p m past h)
    ∙ ap (λ (x : ℕ). if was_enabled p past then x else 0) (most-same (λ t. time t p) m past h)

greatest-alike : (f g : ℕ → ℕ) (xs : List ℕ) → ((p : ℕ) → f p ≡ g p) → greatest f xs ≡ greatest g xs
greatest-alike f g [] h = refl
greatest-alike f g (x ∷ xs) h = let a : f x ≡ g x = h x in let b : greatest f xs ≡ greatest g xs = greatest-alike f g xs h in omega arith

pub pickup-same : (m : Moment) (past : List Moment) → IsVersion m.tables past → pickup_bound (m ∷ past) ≡ pickup_bound past
pickup-same m past h = sums _ _ _ _ _ _
    (greatest-alike (clearance_so_far (m ∷ past)) (clearance_so_far past) all_phases
    (λ p. add _ _ _ _ (time-same yellow_time p m past h) (time-same red_clear_time p m past h)))
    (greatest-alike (service_so_far (m ∷ past)) (service_so_far past) all_phases
    (λ p. larger _ _ _ _ _ _ (time-same least_green p m past h) (time-same walk_time p m past h) (time-same pedestrian_clear_time p m past h)))
    (greatest-alike (λ p. greatest_time red_revert p (m ∷ past)) (λ p. greatest_time red_revert p past) all_phases (λ p. time-same red_revert p m past h))
  where
    add : (a b c d : ℕ) → a ≡ c → b ≡ d → a + b ≡ c + d
    add a b c d h k = omega arith

    larger : (a b c d e f : ℕ) → a ≡ d → b ≡ e → c ≡ f → max a (b + c) ≡ max d (e + f)
    larger a b c d e f h k l = omega arith

    sums : (a b c d e f : ℕ) → a ≡ d → b ≡ e → c ≡ f → 2 * a + b + c + 4 ≡ 2 * d + e + f + 4
    sums a b c d e f h k l = omega arith
