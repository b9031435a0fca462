-- The runs with one moment more.
use Rattle.std.proofs.Common.{◌≡◌, ◌≢◌, ◌≤◌, ◌+◌, ◌⊎◌, inl, inr, ℕ, nat_lt, List, [], ◌∷◌, ◌++◌, take, replicate, ap, arith, add-one}
use Rattle.std.proofs.lemmas.Bool.{cases_Bool, ltb-false}
use Rattle.sig_tables.specs.Past.{Moment}
use Rattle.look_back.specs.declared.sample.Sample.{Sample}
use Rattle.look_back.specs.declared.frame_runs.FrameRun.{FrameRun}
use Rattle.circular_buffer.specs.Buffer.{Buffer, buffer}
use Rattle.look_back.specs.declared.frame_runs.FrameRuns.{FrameRuns}
use Rattle.look_back.specs.Look.{Tells}
use Rattle.look_back.specs.FrameRunsKeep.{FrameRunsKeep}
use Rattle.look_back.specs.Spread.{frame_run, spread, EachLasts, more_of, TellLast}
use Rattle.look_back.proofs.Spreads.{cut, cut-lasts, add-other, add-full}

-- one moment more of the newest run, of which the same is kept
pub adds-like : (t : ℕ) (g : Sample) (older : List FrameRun) (m : Moment) (past : List Moment) → Tells g m
    → TellLast 4096 (spread (frame_run g t ∷ older)) past → TellLast 4096 (spread (frame_run g (more_of t) ∷ older)) (m ∷ past)
adds-like t g older m past tells h = elim (cases_Bool (nat_lt t 4096)) [
  | inl e ↦ rw (e, add-one) (add-other 4096 g (replicate t g ++ spread older) m past tells h)
  | inr e ↦ rw e (add-full 4096 t g (spread older) m past (ltb-false t 4096 e) tells h)
]

-- a new run in front of these
pub adds-new : (g : Sample) (ss : List FrameRun) (m : Moment) (past : List Moment) → Tells g m → EachLasts ss
    → TellLast 4096 (spread ss) past → TellLast 4096 (spread (frame_run g 1 ∷ take 4096 ss)) (m ∷ past)
adds-new g ss m past tells lasts h =
    add-other 4096 g (spread (take 4096 ss)) m past tells (cut 4096 4096 ss past (omega arith) lasts h)

-- the first run of all
pub adds-first : (g : Sample) (s : FrameRun) (older : List FrameRun) (m : Moment) (past : List Moment) → Tells g m → s.ticks ≡ 0 → older ≡ []
    → TellLast 4096 (spread (s ∷ older)) past → TellLast 4096 (spread (frame_run g 1 ∷ older)) (m ∷ past)
adds-first g s older m past tells none empty h =
    let nothing : TellLast 4096 [] past = rw (empty, none) at h in rw empty (add-other 4096 g [] m past tells nothing)

-- a run with one moment more has one
pub more-lasts : (t : ℕ) → 1 ≤ more_of t
more-lasts t = elim (cases_Bool (nat_lt t 4096)) [
  | inl e ↦ let k : 1 ≤ t + 1 = omega arith in rw e k
  | inr e ↦ let le : 4096 ≤ t = ltb-false t 4096 e in let k : 1 ≤ t = omega arith in rw e k
]

-- if the newest run is empty, so is the list of older ones
pub none-older : (t : ℕ) (older : List FrameRun) → (1 ≤ t) ⊎ (older ≡ []) → t ≡ 0 → older ≡ []
none-older t older (inl some) none = absurd (omega arith)
none-older t older (inr empty) none = empty

-- where no frame has come
pub none-kept : (s : FrameRuns) → s.newest.ticks ≡ 0 → s.older ≡ buffer [] 4096 → FrameRunsKeep s []
none-kept s none empty =
    let e : s.older.items ≡ [] = ap (λ (b : Buffer FrameRun). b.items) empty in
    record {
      tells = rw (none, e) tt;
      newest = inr e;
      older = rw e tt;
      room = ap (λ (b : Buffer FrameRun). b.capacity) empty;
    }

-- a new run, where the newest one goes to the older ones
pub keeps-new : (g : Sample) (s : FrameRuns) (older : Buffer FrameRun) (m : Moment) (past : List Moment) → FrameRunsKeep s past → s.newest.ticks ≢ 0
    → older ≡ buffer (take s.older.capacity (s.newest ∷ s.older.items)) s.older.capacity → Tells g m
    → FrameRunsKeep (record { newest = frame_run g 1; older = older }) (m ∷ past)
keeps-new g s older m past keeps some e tells =
    let one : 1 ≤ s.newest.ticks = omega arith in
    let lasts : EachLasts (s.newest ∷ s.older.items) = (one, keeps.older) in
    let full : older ≡ buffer (take 4096 (s.newest ∷ s.older.items)) 4096 = rw keeps.room at e in
    let items : older.items ≡ take 4096 (s.newest ∷ s.older.items) = ap (λ (b : Buffer FrameRun). b.items) full in
    record {
      tells = rw items (adds-new g (s.newest ∷ s.older.items) m past tells lasts keeps.tells);
      newest = inl (omega arith);
      older = rw items (cut-lasts 4096 (s.newest ∷ s.older.items) lasts);
      room = ap (λ (b : Buffer FrameRun). b.capacity) full;
    }
