-- An interval of the street is a run of the moments that has ended.
use Rattle.std.proofs.Common.{◌≡◌, ℕ, zero, suc, ◌+◌, ◌-◌, ◌<◌, ◌≤◌, Bool, true, false, List, [], ◌∷◌, length, refl, sym, ◌∙◌, ap, subst, arith, inl}
use Rattle.std.proofs.Common.{inr, ◌⊎◌}
use Rattle.sig_types.specs.declared.frame.Frame.{Frame}
use Rattle.sig_tables.specs.declared.tables.Tables.{Tables}
use Rattle.sig_tables.specs.Past.{Moment}
use Rattle.sig_tables.specs.Looking.{last_frame, in_a_row, begun}
use Rattle.tick_laws.specs.Each.{EachMoment}
use Rattle.safety_laws.proofs.SoFar.{so_far, so_far-next, so_far-first}

-- the tables of each moment are those of the version of its frame
abbrev pub HasTables : (ℕ → Tables) → List Moment → Type 0
HasTables tables moments = EachMoment (λ past m. tables m.frame.version ≡ m.tables) moments

module _ (tables : ℕ → Tables) (look : Frame → Bool) where
  -- the run of the last moments that pass: its length, and the tables of its first moment
  pub record Run (past : List Moment) (ran : ℕ) (first : Tables) : Type 0 where
    pub long : in_a_row (λ m. look m.frame) past ≡ ran
    pub latches : (now : Tables) → begun (λ m. look m.frame) now past ≡ first

  -- where the newest doesn't pass
  no-run : (past : List Moment) → look (last_frame past) ≡ false → in_a_row (λ m. look m.frame) past ≡ 0
  no-run [] h = refl
  no-run (m ∷ past) h = rw h refl

  no-tables : (past : List Moment) (now : Tables) → look (last_frame past) ≡ false → begun (λ m. look m.frame) now past ≡ now
  no-tables [] now h = refl
  no-tables (m ∷ past) now h = rw h refl

  -- the first of a run
  run-begins : (m : Moment) (past : List Moment) → look m.frame ≡ true → (past ≡ []) ⊎ (look (last_frame past) ≡ false) → tables m.frame.version ≡ m.tables
      → Run (m ∷ past) 1 (tables m.frame.version)
  run-begins m past h (inl e) t = record {
    long = rw h (ap (λ (x : List Moment). in_a_row (λ n. look n.frame) x + 1) e);
    latches = λ now. rw h (ap (λ (x : List Moment). begun (λ n. look n.frame) m.tables x) e ∙ sym t);
  }
  run-begins m past h (inr n) t = record {
    long = rw h (ap (λ (x : ℕ). x + 1) (no-run past n));
    latches = λ now. rw h (no-tables past m.tables n ∙ sym t);
  }

  -- and a further one
  run-goes : (m : Moment) (past : List Moment) (ran : ℕ) (first : Tables) → look m.frame ≡ true → Run past ran first → Run (m ∷ past) (ran + 1) first
  run-goes m past ran first h r = record {
    long = rw h (ap (λ (x : ℕ). x + 1) r.long);
    latches = λ now. rw h (r.latches m.tables);
  }

  -- the tables in force at a tick
  abbrev pub force : List Moment → ℕ → Tables
  force moments tick = tables (last_frame (so_far tick moments)).version

  head-tables : (m : Moment) (past all : List Moment) → all ≡ m ∷ past → HasTables tables all → tables m.frame.version ≡ m.tables
  head-tables m past all e h = (subst (λ (x : List Moment). HasTables tables x) e h).0

  head-look : (m : Moment) (past all : List Moment) (b : Bool) → all ≡ m ∷ past → look (last_frame all) ≡ b → look m.frame ≡ b
  head-look m past all b e h = subst (λ (x : List Moment). look (last_frame x) ≡ b) e h

  -- the run that begins at tick `first` and continues for j ticks more
  pub ran : (moments : List Moment) (first j : ℕ) → first + j < length moments
      → ((tick : ℕ) → HasTables tables (so_far tick moments))
      → ((tick : ℕ) → first ≤ tick → tick ≤ first + j → look (last_frame (so_far tick moments)) ≡ true)
      → ((tick : ℕ) → tick + 1 ≡ first → look (last_frame (so_far tick moments)) ≡ false)
      → Run (so_far (first + j) moments) (j + 1) (force moments first)
  ran moments zero zero short each during before =
      let one : (m : Moment) × (so_far 0 moments ≡ m ∷ []) = so_far-first moments short in
      let r : Run (one.0 ∷ []) 1 (tables one.0.frame.version)
      = run-begins one.0 [] (head-look one.0 [] (so_far 0 moments) true one.1 (during 0 (omega arith) (omega arith))) (inl refl)
      (head-tables one.0 [] (so_far 0 moments) one.1 (each 0)) in
      subst (λ (x : List Moment). Run x 1 (tables (last_frame x).version)) (sym one.1) r
  ran moments (suc first) zero short each during before =
      let s : first + 1 < length moments = omega (arith, short) in
      let next : (m : Moment) × (so_far (first + 1) moments ≡ m ∷ so_far first moments) = so_far-next first moments s in
      let r : Run (next.0 ∷ so_far first moments) 1 (tables next.0.frame.version)
      = run-begins next.0 (so_far first moments) (head-look next.0 _ (so_far (first + 1) moments) true next.1 (during (first + 1) (omega arith) (omega arith)))
      (inr (before first (omega arith))) (head-tables next.0 _ (so_far (first + 1) moments) next.1 (each (first + 1))) in
      let one : Run (so_far (first + 1) moments) 1 (force moments (first + 1))
      = subst (λ (x : List Moment). Run x 1 (tables (last_frame x).version)) (sym next.1) r in
      let more : first + 1 ≡ suc first = omega arith in
      let same : suc first ≡ suc first + 0 = omega arith in
      subst (λ (k : ℕ). Run (so_far k moments) 1 (force moments (suc first))) same (subst (λ (k : ℕ). Run (so_far k moments) 1 (force moments k)) more one)
  ran moments first (suc j) short each during before =
      let s : first + j + 1 < length moments = omega (arith, short) in
      let next : (m : Moment) × (so_far (first + j + 1) moments ≡ m ∷ so_far (first + j) moments) = so_far-next (first + j) moments s in
      let known : Run (so_far (first + j) moments) (j + 1) (force moments first)
      = ran moments first j (omega (arith, short)) each (λ tick l m. during tick l (omega (arith, m))) before in
      let r : Run (next.0 ∷ so_far (first + j) moments) (j + 1 + 1) (force moments first)
      = run-goes next.0 (so_far (first + j) moments) (j + 1) (force moments first)
      (head-look next.0 _ (so_far (first + j + 1) moments) true next.1 (during (first + j + 1) (omega arith) (omega arith))) known in
      let all : Run (so_far (first + j + 1) moments) (j + 1 + 1) (force moments first)
      = subst (λ (x : List Moment). Run x (j + 1 + 1) (force moments first)) (sym next.1) r in
      let more : first + j + 1 ≡ first + suc j = omega arith in
      let long : j + 1 + 1 ≡ suc j + 1 = omega arith in
      subst (λ (k : ℕ). Run (so_far k moments) (suc j + 1) (force moments first)) more
      (subst (λ (k : ℕ). Run (so_far (first + j + 1) moments) k (force moments first)) long all)

  -- where an interval ends, the moments have ended its run
  pub record Ended (moments : List Moment) (first end : ℕ) : Type 0 where
    pub m : Moment
    pub past : List Moment
    pub all : so_far end moments ≡ m ∷ past
    pub was : so_far (end - 1) moments ≡ past
    pub long : first + in_a_row (λ k. look k.frame) past ≡ end
    pub latches : (now : Tables) → begun (λ k. look k.frame) now past ≡ force moments first
