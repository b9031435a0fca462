-- Each tick carries along what a search or coordination has left, and meets what is owed.
use Rattle.std.proofs.Common.{◌≡◌, ◌⊎◌, inl, inr, ℕ, suc, ◌+◌, ◌≤◌, ◌<◌, Bool, true, false, if◌then◌else◌, List, [], ◌∷◌, refl, sym, ◌∙◌, ap, subst, arith}
use Rattle.std.proofs.lemmas.Bool.{false≢true}
use Rattle.sig_types.specs.declared.frame.Mode.{Mode}
use Rattle.sig_types.specs.declared.frame.Mode.TheVariants.{Seek, Coord}
use Rattle.sig_tables.specs.declared.tables.Tables.{Tables}
use Rattle.sig_tables.specs.Slots.{cycle_time}
use Rattle.sig_tables.specs.Choosing.{are_coordinated_green}
use Rattle.sig_tables.specs.Past.{Moment, History, first_moment}
use Rattle.sig_tables.specs.Looking.{last_frame}
use Rattle.sig_tables.specs.Decide.{past_at}
use Rattle.plan_facts.specs.Disturbances.{Drift, drifts, drift_of, no_drift, is_disturbed, quiet_for}
use Rattle.plan_facts.specs.Bounds.{zero_bound}
use Rattle.plan_facts.specs.Meets.{is_zero, is_some, is_green, zero_or_now, first_zero, has_zero, MeetsNow, MeetsEach, Meets, NotSooner}
use Rattle.coordination_laws.specs.Lasting.{SeekTick, Searches}
use Rattle.coordination_laws.proofs.Greatest.{pickup-grows}
use Rattle.coordination_laws.proofs.SearchingInTime.{search-short, search-grows, picked-up, least-bound}
use Rattle.coordination_laws.proofs.Stepping.{step-keeps, pickup-in-time, zero-green}
use Rattle.coordination_laws.specs.Cycles.{PicksUp, OnPath}
use Rattle.coordination_laws.proofs.Zeros.{quiet-none, quiet-more, first-quiet}
use Rattle.coordination_laws.proofs.Cycles.{cycle-pickup, cycle-step, cycle-in-time}
use Rattle.coordination_laws.proofs.Offsets.{pickup-begins, zero-begins, path-begins, path-step, path-holds, path-no-sooner}
use Rattle.coordination_laws.specs.Facts.{is_coord, SeekFacts, StepFacts, Tells, Elsewhere, Seeks, Steps, TellsEach, Seeking, InStep, Carried}
use Rattle.coordination_laws.proofs.Quiet.{disturbed-none, quiet-zero, elsewhere-zero, bound-some, bound-pickup, bound-cycle, bound-same}
use Rattle.coordination_laws.proofs.Quiet.{within-soon, soon-within, zero-owed, offset-owed, not-defined-zero, not-defined-offset, no-zero-green}

-- ---- small facts
none-still : (d : Drift) (m : Moment) (past : List Moment) → is_disturbed d (m ∷ past) ≡ false → has_zero d past ≡ false → is_zero (m ∷ past) ≡ false
    → has_zero d (m ∷ past) ≡ false
none-still d m past quiet none other = ap is_some (first-quiet d m past quiet ∙ pick (first_zero d past) none)
  where
    pick : (zs : List Moment) → is_some zs ≡ false → zero_or_now zs (m ∷ past) ≡ []
    pick [] e = ap (λ (b : Bool). if b then m ∷ past else []) other
    pick (z ∷ zs) e = absurd (false≢true (sym e))

-- the pattern of a mode
abbrev pattern_in : Mode → ℕ
pattern_in (Seek n) = n
pattern_in (Coord n) = n
pattern_in mode = 0

quiet-if : (d : Drift) (m : Moment) (past : List Moment) → has_zero d (m ∷ past) ≡ true → is_disturbed d (m ∷ past) ≡ false
quiet-if d m past h = pick (is_disturbed d (m ∷ past)) refl
  where
    pick : (b : Bool) → is_disturbed d (m ∷ past) ≡ b → b ≡ false
    pick true e = absurd (false≢true (sym (disturbed-none d m past e) ∙ h))
    pick false e = refl

-- ---- a tick that seeks a pattern or picks it up
-- before a quiet one no local zero has come, and it is not overdue
before-seek : (d : Drift) (n : ℕ) (m l : Moment) (past : List Moment) → SeekFacts d n m l past → Carried d l past → is_disturbed d (m ∷ l ∷ past) ≡ false
    → (has_zero d (l ∷ past) ≡ false) × (quiet_for d (l ∷ past) < zero_bound (m ∷ l ∷ past) m.tables n)
before-seek d n m l past f c quiet = elim f.tick [
  | inl few ↦
      let none : quiet_for d (l ∷ past) ≡ 0 = no_tick _ _ (quiet-more d m (l ∷ past) quiet) few in
      (quiet-zero d (l ∷ past) none, below _ _ none (bound-some (m ∷ l ∷ past) m.tables n))
  | inr (mode, tick) ↦
      let s = c.seeking n mode in
      (s.none, through _ _ _ _ s.soon (pickup-grows m (l ∷ past)) (bound-pickup (m ∷ l ∷ past) m.tables n))
]
  where
    no_tick : (a b : ℕ) → a ≡ b + 1 → a ≤ 1 → b ≡ 0
    no_tick a b h k = omega arith

    below : (a b : ℕ) → a ≡ 0 → 0 < b → a < b
    below a b h k = omega arith

    through : (a b c d : ℕ) → a < b → b ≤ c → c ≤ d → a < d
    through a b c d h k l = omega arith

-- where it is not picked up, the search continues
seek-on : (d : Drift) (n : ℕ) (m l : Moment) (past : List Moment) → SeekFacts d n m l past → Carried d l past → are_coordinated_green m.tables n m.frame.veh ≡ false
    → Seeking d m.tables n (m ∷ l ∷ past)
seek-on d n m l past f c waits = decide (is_disturbed d (m ∷ l ∷ past)) refl f.tick
  where
    mode : m.frame.mode ≡ Seek n
    mode = f.reached ∙ ap (λ (b : Bool). if b then Coord n else Seek n) waits

    unmet : is_zero (m ∷ l ∷ past) ≡ false
    unmet = elsewhere-zero m.frame.mode m.frame.counter l.frame (ap is_coord mode)

    none : has_zero d (m ∷ l ∷ past) ≡ false
    none = pick (is_disturbed d (m ∷ l ∷ past)) refl
      where
        pick : (b : Bool) → is_disturbed d (m ∷ l ∷ past) ≡ b → has_zero d (m ∷ l ∷ past) ≡ false
        pick true e = disturbed-none d m (l ∷ past) e
        pick false e = none-still d m (l ∷ past) e (before-seek d n m l past f c e).0 unmet

    restart : quiet_for d (m ∷ l ∷ past) ≤ 1 → Seeking d m.tables n (m ∷ l ∷ past)
    restart few = record {
      start = m ∷ l ∷ past;
      ticks = 0;
      searches = refl;
      quiet = few;
      version = inl refl;
      yellow = f.yellow;
      any = f.any;
      enabled = f.enabled;
      none = none;
      soon = few-some _ _ few (least-bound (m ∷ l ∷ past));
    }
      where
        few-some : (a b : ℕ) → a ≤ 1 → 4 ≤ b → a < b
        few-some a b h k = omega arith

    decide : (b : Bool) → is_disturbed d (m ∷ l ∷ past) ≡ b
        → (quiet_for d (m ∷ l ∷ past) ≤ 1) ⊎ ((l.frame.mode ≡ Seek n) × SeekTick m.tables n m l past) → Seeking d m.tables n (m ∷ l ∷ past)
    decide b e (inl few) = restart few
    decide true e (inr both) = restart (none-few _ (quiet-none d m (l ∷ past) e))
      where
        none-few : (a : ℕ) → a ≡ 0 → a ≤ 1
        none-few a h = omega arith
    decide false e (inr both) = record {
      start = old.start;
      ticks = suc old.ticks;
      searches = searches;
      quiet = within;
      version = old.version;
      yellow = f.yellow;
      any = old.any;
      enabled = f.enabled;
      none = none;
      soon = short _ _ _ _ within (search-short m.tables n old.start old.version f.yellow old.any f.enabled (suc old.ticks) (m ∷ l ∷ past) searches waits)
          (search-grows m.tables n old.start (suc old.ticks) (m ∷ l ∷ past) searches);
    }
      where
        old : Seeking d m.tables n (l ∷ past)
        old = subst (λ (u : Tables). Seeking d u n (l ∷ past)) (sym (f.before e).0) (c.seeking n both.0)

        searches : Searches m.tables n old.start (suc old.ticks) (m ∷ l ∷ past)
        searches = (both.1, old.searches)

        one : (a b k : ℕ) → a ≡ b + 1 → b ≤ k + 1 → a ≤ suc k + 1
        one a b k h i = omega arith

        within : quiet_for d (m ∷ l ∷ past) ≤ suc old.ticks + 1
        within = one _ _ _ (quiet-more d m (l ∷ past) e) old.quiet

        short : (q k p r : ℕ) → q ≤ k + 1 → k + 2 ≤ p → p ≤ r → q < r
        short q k p r h i j = omega arith

-- where it is, the coordinated ticks begin
seek-picks : (d : Drift) (n : ℕ) (m l : Moment) (past : List Moment) → SeekFacts d n m l past → Carried d l past → are_coordinated_green m.tables n m.frame.veh ≡ true
    → InStep d m.tables n (m ∷ l ∷ past)
seek-picks d n m l past f c green = record {
  room = f.room;
  cycle = cycle-pickup d m.tables n m l past f.room up (why (is_disturbed d (m ∷ l ∷ past)) refl);
  time = pickup-in-time m.tables n m (l ∷ past) (f.alone green) f.counter;
  path = λ has. path (quiet-if d m (l ∷ past) has);
}
  where
    up : PicksUp n m l
    up = record { mode = f.reached ∙ ap (λ (b : Bool). if b then Coord n else Seek n) green; apart = f.apart; counter = f.counter }

    comes : is_disturbed d (m ∷ l ∷ past) ≡ false → is_zero (m ∷ l ∷ past) ≡ true
    comes quiet = picked-up m.tables n m l past f.reached green f.counter (f.before quiet).1

    why : (b : Bool) → is_disturbed d (m ∷ l ∷ past) ≡ b → (is_zero (m ∷ l ∷ past) ≡ true) ⊎ (is_disturbed d (m ∷ l ∷ past) ≡ true)
    why true e = inr e
    why false e = inl (comes e)

    path : is_disturbed d (m ∷ l ∷ past) ≡ false → OnPath d m.tables n (zero_bound (m ∷ l ∷ past) m.tables n) (m ∷ l ∷ past)
    path quiet = let b = before-seek d n m l past f c quiet in
        path-begins d m.tables n (zero_bound (m ∷ l ∷ past) m.tables n) m l past up.mode quiet b.0 (comes quiet) b.1
        (pickup-begins n m l past up) f.target f.room f.time

seek-carries : (d : Drift) (n : ℕ) (m l : Moment) (past : List Moment) → SeekFacts d n m l past → Carried d l past → Carried d m (l ∷ past)
seek-carries d n m l past f c = pick (are_coordinated_green m.tables n m.frame.veh) refl
  where
    pick : (b : Bool) → are_coordinated_green m.tables n m.frame.veh ≡ b → Carried d m (l ∷ past)
    pick true e = let mode : m.frame.mode ≡ Coord n = f.reached ∙ ap (λ (b : Bool). if b then Coord n else Seek n) e in record {
      seeking = λ k other. absurd (false≢true (sym (ap is_coord other) ∙ ap is_coord mode));
      in_step = λ k other. subst (λ (i : ℕ). InStep d m.tables i (m ∷ l ∷ past)) (ap pattern_in (sym mode ∙ other)) (seek-picks d n m l past f c e);
    }
    pick false e = let mode : m.frame.mode ≡ Seek n = f.reached ∙ ap (λ (b : Bool). if b then Coord n else Seek n) e in record {
      seeking = λ k other. subst (λ (i : ℕ). Seeking d m.tables i (m ∷ l ∷ past)) (ap pattern_in (sym mode ∙ other)) (seek-on d n m l past f c e);
      in_step = λ k other. absurd (false≢true (sym (ap is_coord mode) ∙ ap is_coord other));
    }

seek-meets : (d : Drift) (m l : Moment) (past : List Moment) → SeekFacts d m.command m l past → Carried d l past → MeetsNow d (m ∷ l ∷ past)
seek-meets d m l past f c = pick (are_coordinated_green m.tables m.command m.frame.veh) refl
  where
    pick : (b : Bool) → are_coordinated_green m.tables m.command m.frame.veh ≡ b → MeetsNow d (m ∷ l ∷ past)
    pick true e = record {
      green = shown (is_zero (m ∷ l ∷ past));
      zero = zero-owed d m (l ∷ past) (cycle-in-time d m.tables m.command (zero_bound (m ∷ l ∷ past) m.tables m.command)
          (m ∷ l ∷ past) step.cycle (bound-cycle (m ∷ l ∷ past) m.tables m.command));
      offset = offset-owed d m (l ∷ past) (λ follows has. path-holds d m.tables m.command _ (m ∷ l ∷ past) (step.path has) follows);
    }
      where
        step : InStep d m.tables m.command (m ∷ l ∷ past)
        step = seek-picks d m.command m l past f c e

        mode : m.frame.mode ≡ Coord m.command
        mode = f.reached ∙ ap (λ (b : Bool). if b then Coord m.command else Seek m.command) e

        shown : (b : Bool) → (if b then is_green m.frame.mode m.tables m.frame.veh else true) ≡ true
        shown true = ap (λ (x : Mode). is_green x m.tables m.frame.veh) mode ∙ e
        shown false = refl
    pick false e = record {
      green = no-zero-green m (l ∷ past) (elsewhere-zero m.frame.mode m.frame.counter l.frame (ap is_coord mode));
      zero = zero-owed d m (l ∷ past) (within-soon d (zero_bound (m ∷ l ∷ past) m.tables m.command) (m ∷ l ∷ past)
          (through _ _ _ search.soon (bound-pickup (m ∷ l ∷ past) m.tables m.command)));
      offset = offset-owed d m (l ∷ past) (λ follows has. absurd (false≢true (sym search.none ∙ has)));
    }
      where
        search : Seeking d m.tables m.command (m ∷ l ∷ past)
        search = seek-on d m.command m l past f c e

        mode : m.frame.mode ≡ Seek m.command
        mode = f.reached ∙ ap (λ (b : Bool). if b then Coord m.command else Seek m.command) e

        through : (a b c : ℕ) → a < b → b ≤ c → a < c
        through a b c h k = omega arith

-- ---- a coordinated tick
step-on : (d : Drift) (n : ℕ) (m l : Moment) (past : List Moment) → StepFacts d n m l past → Carried d l past → InStep d m.tables n (m ∷ l ∷ past)
step-on d n m l past f c = record {
  room = f.room;
  cycle = cycle-step d m.tables n m l past f.room f.counts old.cycle;
  time = (step-keeps m.tables n m l past f.pair f.plan f.times f.tick old.time).0;
  path = λ has. path has (quiet-if d m (l ∷ past) has);
}
  where
    old : InStep d m.tables n (l ∷ past)
    old = subst (λ (u : Tables). InStep d u n (l ∷ past)) (sym f.tables) (c.in_step n f.counts.before)

    most : ℕ
    most = zero_bound (m ∷ l ∷ past) m.tables n

    same : zero_bound (m ∷ l ∷ past) m.tables n ≡ zero_bound (l ∷ past) m.tables n
    same = bound-same m (l ∷ past) m.tables n (inl f.tables)

    early : has_zero d (l ∷ past) ≡ false → quiet_for d (l ∷ past) < zero_bound (m ∷ l ∷ past) m.tables n
    early none = soon-within d most (l ∷ past) none (cycle-in-time d m.tables n most (l ∷ past) old.cycle (bound-cycle (m ∷ l ∷ past) m.tables n))

    path : has_zero d (m ∷ l ∷ past) ≡ true → is_disturbed d (m ∷ l ∷ past) ≡ false
        → OnPath d m.tables n (zero_bound (m ∷ l ∷ past) m.tables n) (m ∷ l ∷ past)
    path has quiet = pick (has_zero d (l ∷ past)) (is_zero (m ∷ l ∷ past)) refl refl
      where
        pick : (a b : Bool) → has_zero d (l ∷ past) ≡ a → is_zero (m ∷ l ∷ past) ≡ b
            → OnPath d m.tables n (zero_bound (m ∷ l ∷ past) m.tables n) (m ∷ l ∷ past)
        pick true b e h = path-step d m.tables n most m l past quiet f.counts f.number (f.later quiet)
            (ap (cycle_time m.tables) f.command)
            (subst (λ (x : ℕ). OnPath d m.tables n x (l ∷ past)) (sym same) (old.path e))
        pick false true e h = path-begins d m.tables n most m l past f.counts.mode quiet e h (early e)
            (zero-begins m.tables n m l past f.counts h) f.target f.room f.time
        pick false false e h = absurd (false≢true (sym (none-still d m (l ∷ past) quiet e h) ∙ has))

step-carries : (d : Drift) (n : ℕ) (m l : Moment) (past : List Moment) → StepFacts d n m l past → Carried d l past → Carried d m (l ∷ past)
step-carries d n m l past f c = record {
  seeking = λ k other. absurd (false≢true (sym (ap is_coord other) ∙ ap is_coord f.counts.mode));
  in_step = λ k other. subst (λ (i : ℕ). InStep d m.tables i (m ∷ l ∷ past)) (ap pattern_in (sym f.counts.mode ∙ other)) (step-on d n m l past f c);
}

step-meets : (d : Drift) (m l : Moment) (past : List Moment) → StepFacts d m.command m l past → Carried d l past → MeetsNow d (m ∷ l ∷ past)
step-meets d m l past f c = record {
  green = zero-green m.tables m.command m (l ∷ past) f.pair refl f.counts.mode (step-keeps m.tables m.command m l past f.pair f.plan f.times f.tick old.time).1;
  zero = zero-owed d m (l ∷ past)
      (cycle-in-time d m.tables m.command (zero_bound (m ∷ l ∷ past) m.tables m.command) (m ∷ l ∷ past) now.cycle
      (bound-cycle (m ∷ l ∷ past) m.tables m.command));
  offset = offset-owed d m (l ∷ past) (λ follows has. path-holds d m.tables m.command _ (m ∷ l ∷ past) (now.path has) follows);
}
  where
    now : InStep d m.tables m.command (m ∷ l ∷ past)
    now = step-on d m.command m l past f c

    old : InStep d m.tables m.command (l ∷ past)
    old = subst (λ (u : Tables). InStep d u m.command (l ∷ past)) (sym f.tables) (c.in_step m.command f.counts.before)

-- ---- any other tick
other-carries : (d : Drift) (m : Moment) (past : List Moment) → is_coord m.frame.mode ≡ false → ((n : ℕ) → m.frame.mode ≡ Seek n → ⊥) → Carried d m past
other-carries d m past mode free = record {
  seeking = λ n e. absurd (free n e);
  in_step = λ n e. absurd (false≢true (sym mode ∙ ap is_coord e));
}

disturbed-meets : (d : Drift) (m : Moment) (past : List Moment) → is_coord m.frame.mode ≡ false → is_disturbed d (m ∷ past) ≡ true → MeetsNow d (m ∷ past)
disturbed-meets d m past mode e = record {
  green = no-zero-green m past (elsewhere-zero m.frame.mode m.frame.counter (last_frame past) mode);
  zero = zero-owed d m past (within-soon d (zero_bound (m ∷ past) m.tables m.command) (m ∷ past)
      (below _ _ (quiet-none d m past e) (bound-some (m ∷ past) m.tables m.command)));
  offset = offset-owed d m past (λ follows has. absurd (false≢true (sym (disturbed-none d m past e) ∙ has)));
}
  where
    below : (a b : ℕ) → a ≡ 0 → 0 < b → a < b
    below a b h k = omega arith

tick-carries : (d : Drift) (m l : Moment) (past : List Moment) → Tells d m l past → Carried d l past → Carried d m (l ∷ past)
tick-carries d m l past (Elsewhere mode idle free) c = other-carries d m (l ∷ past) mode free
tick-carries d m l past (Seeks facts) c = seek-carries d m.command m l past facts c
tick-carries d m l past (Steps facts) c = step-carries d m.command m l past facts c

tick-meets : (d : Drift) (m l : Moment) (past : List Moment) → Tells d m l past → Carried d l past → MeetsNow d (m ∷ l ∷ past)
tick-meets d m l past (Elsewhere mode (inl idle) free) c = record {
  green = no-zero-green m (l ∷ past) (elsewhere-zero m.frame.mode m.frame.counter l.frame mode);
  zero = not-defined-zero d m (l ∷ past) idle;
  offset = not-defined-offset d m (l ∷ past) idle;
}
tick-meets d m l past (Elsewhere mode (inr e) free) c = disturbed-meets d m (l ∷ past) mode e
tick-meets d m l past (Seeks facts) c = seek-meets d m l past facts c
tick-meets d m l past (Steps facts) c = step-meets d m l past facts c

-- ---- all ticks
carries : (d : Drift) (m : Moment) (past : List Moment) → TellsEach d (m ∷ past) → Carried d m past
carries d m [] tells = other-carries d m [] tells.0 tells.1
carries d m (l ∷ past) tells = tick-carries d m l past tells.0 (carries d l past tells.1)

pub meets-each : (d : Drift) (past : List Moment) → TellsEach d past → MeetsEach d past
meets-each d [] tells = absurd tells
meets-each d (m ∷ []) tells = (disturbed-meets d m [] tells.0 refl, tt)
meets-each d (m ∷ l ∷ past) tells = (tick-meets d m l past tells.0 (carries d l past tells.1), meets-each d (l ∷ past) tells.1)

-- no sooner than in the last of the needed cycles
pub no-sooner : (d : Drift) (n : ℕ) (past : List Moment) → drifts d ≡ false → TellsEach d past → NotSooner d n past
no-sooner d n [] none tells = tt
no-sooner d n (m ∷ past) none tells = λ mode zero some met.
    let now : InStep d m.tables n (m ∷ past) = (carries d m past tells).in_step n mode in
    path-no-sooner d m.tables n (zero_bound (m ∷ past) m.tables n) m past none now.room (now.path zero) some met

-- the moment before any tick neither seeks a pattern nor is coordinated
abbrev is_seek : Mode → Bool
is_seek (Seek n) = true
is_seek mode = false

pub tells-opening : (d : Drift) (t : Tables) → TellsEach d (first_moment t ∷ [])
tells-opening d t = (refl, λ n e. absurd (false≢true (ap is_seek e)))

-- a history whose clock does not drift
pub meets-history : (h : History) → (past_at h).gain ≡ 0 → (past_at h).lose ≡ 0 → TellsEach no_drift (past_at h).moments → Meets h
meets-history h gain lose tells =
    subst (λ (d : Drift). MeetsEach d (past_at h).moments) (sym even) (meets-each no_drift (past_at h).moments tells)
  where
    even : drift_of (past_at h) ≡ no_drift
    even = ap (λ (x : ℕ). record { gain = x; lose = (past_at h).lose }) gain ∙ ap (λ (x : ℕ). record { gain = 0; lose = x }) lose
