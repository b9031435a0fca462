-- The results of a bank as lists: each change of a call, and the edges of the detectors that have not failed.
use Rattle.std.specs.Prelude.{ℕ, zero, suc, ◌==◌, ◌<◌, ◌≤◌, ◌&&◌, ◌||◌, nat_lt, Bool, true, false, if◌then◌else◌, List, [], ◌∷◌, ◌++◌, length, get_or}
use Rattle.detector_bank.specs.declared.bank.Detector.{Detector}
use Rattle.detector_bank.specs.declared.bank.Pulse.{Pulse}
use Rattle.detector_bank.specs.declared.bank.Call.{Call}
use Rattle.detector_bank.specs.declared.bank.Edge.{Edge}
use Rattle.detector_bank.specs.Pulses.{edges_in}
use Rattle.detector_bank.specs.Bank.{failed, called}

-- each detector is at a cabinet from 1 to 64 and calls a phase from 1 to 16
abbrev pub EachStands : List Detector → Type 0
EachStands ds =
    (k : ℕ) (d : Detector) → k < length ds
    → (1 ≤ (get_or ds k d).cabinet) × ((get_or ds k d).cabinet ≤ 64) × (1 ≤ (get_or ds k d).phase) × ((get_or ds k d).phase ≤ 16)

-- the change of the call of a phase in a round, by whether the phase is called now and whether it was called before:
-- the call begins, the call ends, or nothing changes
abbrev pub change : ℕ → ℕ → ℕ → Bool → Bool → List Call
change round cabinet phase true true = []
change round cabinet phase true false = record { round = round; cabinet = cabinet; phase = phase; on = true } ∷ []
change round cabinet phase false true = record { round = round; cabinet = cabinet; phase = phase; on = false } ∷ []
change round cabinet phase false false = []

-- the changes of the phases 1 to `n` of a cabinet, from round `j` to the next round
abbrev pub phase_changes : List Detector → List Pulse → ℕ → ℕ → ℕ → List Call
phase_changes ds ps j cabinet zero = []
phase_changes ds ps j cabinet (suc n) =
    phase_changes ds ps j cabinet n ++ change (suc j) cabinet (suc n) (called ds ps cabinet (suc n) (suc j)) (called ds ps cabinet (suc n) j)

-- the changes of all 16 phases of a cabinet, from round `j` to the next round
unfoldable pub all_phases_changes : List Detector → List Pulse → ℕ → ℕ → List Call
all_phases_changes ds ps j cabinet = phase_changes ds ps j cabinet 16

-- the changes of the cabinets 1 to `n`, from round `j` to the next round
abbrev pub cabinet_changes : List Detector → List Pulse → ℕ → ℕ → List Call
cabinet_changes ds ps j zero = []
cabinet_changes ds ps j (suc n) = cabinet_changes ds ps j n ++ all_phases_changes ds ps j (suc n)

-- the changes of all 64 cabinets, from round `j` to the next round
unfoldable pub round_changes : List Detector → List Pulse → ℕ → List Call
round_changes ds ps j = cabinet_changes ds ps j 64

-- the calls of the rounds 1 to `j`: each change of the call of a phase, in the order of rounds, cabinets and phases
abbrev pub calls_until : List Detector → List Pulse → ℕ → List Call
calls_until ds ps zero = []
calls_until ds ps (suc j) = calls_until ds ps j ++ round_changes ds ps j

-- a detector is before another: the order is by cabinet, and within a cabinet by number
abbrev pub precedes : Detector → Detector → Bool
precedes a b = nat_lt a.cabinet b.cabinet || ((a.cabinet == b.cabinet) && nat_lt a.detector b.detector)

-- the detectors, which are in order, with one more detector in its place
abbrev pub put_in_order : Detector → List Detector → List Detector
put_in_order d [] = d ∷ []
put_in_order d (e ∷ es) = if precedes d e then d ∷ e ∷ es else e ∷ put_in_order d es

-- these detectors, in order
abbrev pub in_order : List Detector → List Detector
in_order [] = []
in_order (d ∷ ds) = put_in_order d (in_order ds)

-- the edges of a detector in a round, if it has any and hasn't failed
abbrev pub edge_of : List Pulse → ℕ → Detector → List Edge
edge_of ps j d =
    if failed d ps j || (edges_in d ps j == 0) then []
    else record { round = j; cabinet = d.cabinet; detector = d.detector; count = edges_in d ps j } ∷ []

-- the edges of these detectors in a round
abbrev pub round_edges : List Pulse → ℕ → List Detector → List Edge
round_edges ps j [] = []
round_edges ps j (d ∷ ds) = edge_of ps j d ++ round_edges ps j ds

-- the edges of these detectors in the rounds 1 to `j`, in the order of rounds
abbrev pub edges_until : List Detector → List Pulse → ℕ → List Edge
edges_until ds ps zero = []
edges_until ds ps (suc j) = edges_until ds ps j ++ round_edges ps (suc j) ds
