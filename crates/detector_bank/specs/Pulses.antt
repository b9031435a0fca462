-- The pulses of a detector, round by round: its pulses in a round, its state after them, and how many of them are
-- edges. The list of pulses may have the rounds in any order; the pulses of one round count in the order of the list.
use Rattle.std.specs.Prelude.{ℕ, zero, suc, ◌+◌, ◌==◌, ◌&&◌, ◌||◌, Bool, true, false, not, if◌then◌else◌, List, [], ◌∷◌}
use Rattle.std.specs.List.{filter}
use Rattle.detector_bank.specs.declared.bank.Detector.{Detector}
use Rattle.detector_bank.specs.declared.bank.Pulse.{Pulse}

-- the pulses of a round, in the order of the list
abbrev pub in_round : ℕ → List Pulse → List Pulse
in_round j ps = filter (λ p. p.round == j) ps

-- the pulse is from this detector
abbrev pub is_of : Detector → Pulse → Bool
is_of d p = (p.cabinet == d.cabinet) && (p.detector == d.detector)

-- the states, on or off, in those of these pulses that are from the detector
abbrev pub flags_of : Detector → List Pulse → List Bool
flags_of d [] = []
flags_of d (p ∷ ps) = if is_of d p then p.on ∷ flags_of d ps else flags_of d ps

-- the states, on or off, in the pulses of the detector in a round
abbrev pub flags : Detector → List Pulse → ℕ → List Bool
flags d ps j = flags_of d (in_round j ps)

-- the state after these pulses: that of the last pulse; if there are no pulses, the state before
abbrev pub after : Bool → List Bool → Bool
after state [] = state
after state (on ∷ more) = after on more

-- at least one of the pulses is on
abbrev pub any_on : List Bool → Bool
any_on [] = false
any_on (on ∷ more) = on || any_on more

-- there is at least one pulse
abbrev pub some_pulse : List Bool → Bool
some_pulse [] = false
some_pulse (on ∷ more) = true

-- the number of edges among these pulses; a pulse is an edge if it is on and the state before it is off
abbrev pub edges_from : Bool → List Bool → ℕ
edges_from state [] = 0
edges_from state (on ∷ more) = (if on && not state then 1 else 0) + edges_from on more

-- the state of the detector after all pulses of rounds 1 to j; before them it is off
abbrev pub state : Detector → List Pulse → ℕ → Bool
state d ps zero = false
state d ps (suc j) = after (state d ps j) (flags d ps (suc j))

-- the number of edges of the detector in a round
abbrev pub edges_in : Detector → List Pulse → ℕ → ℕ
edges_in d ps zero = 0
edges_in d ps (suc j) = edges_from (state d ps j) (flags d ps (suc j))

-- the detector is active in a round: it is on at the end of the round, or one of its pulses in the round is on
abbrev pub active : Detector → List Pulse → ℕ → Bool
active d ps zero = false
active d ps (suc j) = state d ps (suc j) || any_on (flags d ps (suc j))
