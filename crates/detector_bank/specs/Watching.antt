-- The code's state of a detector represents what its pulses give. It doesn't change in a round without a pulse of the
-- detector.
use Rattle.std.specs.Prelude.{ℕ, ◌+◌, ◌-◌, ◌*◌, ◌%◌, ◌≡◌, ◌≢◌, ◌<◌, ◌≤◌, ◌==◌, ◌||◌, ◌&&◌, nat_lt, nat_le, Bool, true, false, if◌then◌else◌, List, [], ◌∷◌, length, get_or}
use Rattle.std.specs.List.{filter}
use Rattle.std.specs.List.Sorted.{IsNonDecreasingBy}
use Rattle.sig_types.specs.declared.phase_set.PhaseSet.{PhaseSet}
use Rattle.sig_types.specs.PhaseSet.{has}
use Rattle.detector_bank.specs.declared.bank.Detector.{Detector}
use Rattle.detector_bank.specs.declared.bank.Pulse.{Pulse}
use Rattle.detector_bank.specs.declared.watch.Watch.{Watch}
use Rattle.detector_bank.specs.declared.detector_state.DetectorState.{DetectorState}
use Rattle.detector_bank.specs.declared.walk.Walk.{Walk}
use Rattle.detector_bank.specs.declared.changes.Calling.{Calling}
use Rattle.detector_bank.specs.Pulses.{flags, state, edges_in}
use Rattle.detector_bank.specs.Bank.{quiet, present, latest_edges, lately_past, calls, called}

-- for how many rounds in a row the detector is active, up to round `j`
abbrev pub present_at : Watch → ℕ → ℕ
present_at w j = if w.on || (w.last_on == j) then j - w.last_inactive else 0

-- the detector was past its delay in round `j` or in one of the `n` rounds before it
abbrev pub lately_at : Watch → ℕ → ℕ → ℕ → Bool
lately_at w delay n j = nat_lt delay (present_at w j) || (nat_lt 0 w.last_past_delay && nat_le j (w.last_past_delay + n))

-- the number of its edges in a round, which is one of the latest sixty
abbrev pub edges_at : Watch → ℕ → ℕ
edges_at w r = if get_or w.rounds (r % 60) 0 == r then get_or w.edges (r % 60) 0 else 0

-- after round `j` the numbers of edges in the latest sixty rounds are stored, each with its round
pub record Counts (w : Watch) (d : Detector) (ps : List Pulse) (j : ℕ) : Type 0 where
  pub past : (i : ℕ) → get_or w.rounds i 0 ≤ j
  pub edges : (r : ℕ) → r ≤ j → j < r + 60 → edges_in d ps r ≡ edges_at w r

-- after round `j` the state of a detector is correct: on or off, the round of its last pulse, since when it is
-- active, when it was last past its delay, and its edges
pub record Watches (w : Watch) (d : Detector) (ps : List Pulse) (j : ℕ) : Type 0 where
  pub few : length ps ≤ 1000000
  pub on : w.on ≡ state d ps j
  pub last_pulse : w.last_pulse + quiet d ps j ≡ j
  pub present : present d ps j ≡ present_at w j
  pub last_on : w.last_on ≤ j
  pub last_inactive : w.last_inactive ≤ j
  pub last_past_delay : w.last_past_delay ≤ j
  pub lately : (n : ℕ) → lately_past d ps n j ≡ lately_at w d.delay n j
  pub ended : w.on ≡ false → nat_lt d.delay (present_at w j) ≡ true → w.last_past_delay ≡ j
  pub most : latest_edges d ps 60 j ≤ w.most
  pub counts : Counts w d ps j

-- the key by which pulses are sorted: pulses of one detector are together, in the order of rounds
abbrev pub key_of : ℕ → ℕ → ℕ → ℕ
key_of cabinet detector round = (cabinet % 1024 * 256 + detector) * 4294967296 + round

-- the key of a pulse
abbrev pub key : Pulse → ℕ
key p = key_of p.cabinet p.detector p.round

-- the pulses with this key
abbrev pub at_key : ℕ → List Pulse → List Pulse
at_key n ps = filter (λ p. key p == n) ps

-- the first list has the pulses of the second in the order of their keys
pub record Sorts (sorted ps : List Pulse) : Type 0 where
  pub few : length ps ≤ 1000000
  pub rises : IsNonDecreasingBy key sorted
  pub same : (n : ℕ) → at_key n sorted ≡ at_key n ps

-- the keys of the pulses before a place are below this key
abbrev pub Before : List Pulse → ℕ → ℕ → Type 0
Before sorted place n = (k : ℕ) (p : Pulse) → k < place → key (get_or sorted k p) < n

-- after round `j` and before the round `due`, the detector has no pulse, and whether it calls doesn't change
pub record Posted (p : DetectorState) (due : ℕ) (sorted : List Pulse) (d : Detector) (ps : List Pulse) (j : ℕ) : Type 0 where
  pub watch : Watches p.watch d ps j
  pub before : Before sorted p.next (key_of d.cabinet d.detector (j + 1))
  pub none : (i : ℕ) → j < i → i < due → flags d ps i ≡ []
  pub told : p.calls ≡ calls d ps j
  pub still : (i : ℕ) → j ≤ i → i < due → Watches p.watch d ps i → calls d ps i ≡ calls d ps j

-- the walk has a state and a next round for each detector
pub record WalkFits (w : Walk) (ds : List Detector) : Type 0 where
  pub few : length w.sorted.items ≤ 1000000
  pub detector_states : length w.detector_states.items ≡ length ds
  pub dues : length w.dues.items ≡ length ds

-- after round `j` the walk represents what the pulses of each detector give
pub record WalkStands (w : Walk) (ds : List Detector) (ps : List Pulse) (j : ℕ) : Type 0 where
  pub sorts : Sorts w.sorted.items ps
  pub each : (k : ℕ) (p : DetectorState) (d : Detector) → k < length ds → Posted (get_or w.detector_states.items k p) (get_or w.dues.items k 0) w.sorted.items (get_or ds k d) ps j

-- one detector was examined in a round, and the others weren't
pub record Looks (old new : Walk) (d : Detector) (k round : ℕ) : Type 0 where
  pub sorted : new.sorted.items ≡ old.sorted.items
  pub many : length new.detector_states.items ≡ length old.detector_states.items
  pub as_many : length new.dues.items ≡ length old.dues.items
  pub detector_states : (i : ℕ) (p : DetectorState) → i ≢ k → get_or new.detector_states.items i p ≡ get_or old.detector_states.items i p
  pub dues : (i : ℕ) → i ≢ k → get_or new.dues.items i 0 ≡ get_or old.dues.items i 0
  pub here : (ps : List Pulse) (j : ℕ) (p : DetectorState) → round ≡ j + 1 → Sorts old.sorted.items ps
      → Posted (get_or old.detector_states.items k p) (get_or old.dues.items k 0) old.sorted.items d ps j
      → Posted (get_or new.detector_states.items k p) (get_or new.dues.items k 0) old.sorted.items d ps (j + 1)

-- the number of these detectors at a cabinet that have this phase and call it
abbrev pub tally : List Detector → List DetectorState → ℕ → ℕ → ℕ
tally [] detector_states cabinet phase = 0
tally (d ∷ ds) [] cabinet phase = 0
tally (d ∷ ds) (p ∷ detector_states) cabinet phase = (if (d.cabinet == cabinet) && ((d.phase == phase) && p.calls) then 1 else 0) + tally ds detector_states cabinet phase

-- the counts of the detectors that call, and the sets of phases with at least one
pub record Tallies (c : Calling) (ds : List Detector) (detector_states : List DetectorState) : Type 0 where
  pub counts : (k p : ℕ) → k < 64 → p < 16 → get_or c.counts (k * 16 + p) 0 ≡ tally ds detector_states (k + 1) (p + 1)
  pub sets : (k p : ℕ) (s : PhaseSet) → k < 64 → p < 16 → has (get_or c.sets k s) (p + 1) ≡ nat_lt 0 (tally ds detector_states (k + 1) (p + 1))

-- the sets of called phases, one for each cabinet, are those of round `j`
pub record AreCalled (sets : List PhaseSet) (ds : List Detector) (ps : List Pulse) (j : ℕ) : Type 0 where
  pub each : (c p : ℕ) (s : PhaseSet) → c < 64 → 1 ≤ p → p ≤ 16 → has (get_or sets c s) p ≡ called ds ps (c + 1) p j
