-- A bank of detectors, round by round: when a detector has failed, when it is past its delay, and when it calls its
-- phase. Rounds are counted from 1; `j` is a round.
use Rattle.std.specs.Prelude.{ℕ, zero, suc, ◌+◌, ◌==◌, ◌&&◌, ◌||◌, nat_le, nat_lt, Bool, false, if◌then◌else◌, List, [], ◌∷◌}
use Rattle.detector_bank.specs.declared.bank.Detector.{Detector}
use Rattle.detector_bank.specs.declared.bank.Pulse.{Pulse}
use Rattle.detector_bank.specs.Pulses.{flags, some_pulse, edges_in, active}

-- how many rounds in a row, up to round `j`, are without a pulse of the detector
abbrev pub quiet : Detector → List Pulse → ℕ → ℕ
quiet d ps zero = 0
quiet d ps (suc j) = if some_pulse (flags d ps (suc j)) then 0 else quiet d ps j + 1

-- for how many rounds in a row, up to round `j`, the detector is active
abbrev pub present : Detector → List Pulse → ℕ → ℕ
present d ps zero = 0
present d ps (suc j) = if active d ps (suc j) then present d ps j + 1 else 0

-- the number of edges of the detector in the `n` rounds up to round `j`
abbrev pub latest_edges : Detector → List Pulse → ℕ → ℕ → ℕ
latest_edges d ps zero j = 0
latest_edges d ps (suc n) zero = 0
latest_edges d ps (suc n) (suc j) = edges_in d ps (suc j) + latest_edges d ps n j

-- no activity: the detector has had no pulse for at least `no_activity` rounds. A setting of 0 turns this diagnostic
-- off
abbrev pub has_no_activity : Detector → List Pulse → ℕ → Bool
has_no_activity d ps j = nat_lt 0 d.no_activity && nat_le d.no_activity (quiet d ps j)

-- maximum presence: the detector has been active for at least `max_presence` rounds. A setting of 0 turns this
-- diagnostic off
abbrev pub is_locked_on : Detector → List Pulse → ℕ → Bool
is_locked_on d ps j = nat_lt 0 d.max_presence && nat_le d.max_presence (present d ps j)

-- erratic: the detector has had more than `erratic` edges in the latest 60 rounds. A setting of 0 turns this
-- diagnostic off
abbrev pub is_erratic : Detector → List Pulse → ℕ → Bool
is_erratic d ps j = nat_lt 0 d.erratic && nat_lt d.erratic (latest_edges d ps 60 j)

-- the detector has failed in round `j`: one of the three diagnostics applies
abbrev pub failed : Detector → List Pulse → ℕ → Bool
failed d ps j = has_no_activity d ps j || (is_locked_on d ps j || is_erratic d ps j)

-- the detector is past its delay: it is active in round `j` and in the `delay` rounds before it
abbrev pub past_delay : Detector → List Pulse → ℕ → Bool
past_delay d ps j = nat_lt d.delay (present d ps j)

-- the detector was past its delay in round `j` or in one of the `n` rounds before it
abbrev pub lately_past : Detector → List Pulse → ℕ → ℕ → Bool
lately_past d ps n zero = false
lately_past d ps zero (suc j) = past_delay d ps (suc j)
lately_past d ps (suc n) (suc j) = past_delay d ps (suc j) || lately_past d ps n j

-- the detector calls its phase: it has failed, or it was past its delay at most `extend` rounds ago
abbrev pub calls : Detector → List Pulse → ℕ → Bool
calls d ps j = failed d ps j || lately_past d ps d.extend j

-- one of these detectors calls the phase at the cabinet; in round 0 none does
abbrev pub called : List Detector → List Pulse → ℕ → ℕ → ℕ → Bool
called [] ps cabinet phase j = false
called (d ∷ ds) ps cabinet phase j = ((d.cabinet == cabinet) && ((d.phase == phase) && calls d ps j)) || called ds ps cabinet phase j
