-- The faults of the link: which message has a fault, and what the fault does to it.
use Rattle.std.specs.Prelude.{ℕ, ◌==◌, ◌&&◌, not, nat_lt, Bool, true, false, if◌then◌else◌, List, [], ◌∷◌, length, take, get_or, set, Option, Some, None}
use Rattle.std.specs.List.{find}
use Rattle.sig_types.specs.declared.notes.Way.{Way}
use Rattle.sig_types.specs.declared.notes.Way.TheVariants.{Poll, Load, Prio}
use Rattle.std.specs.Int.Bits.{bit_xor}
use Rattle.scenario_data.specs.declared.scenario.Direction.{Direction}
use Rattle.scenario_data.specs.declared.scenario.Direction.TheVariants.{Down, Up}
use Rattle.scenario_data.specs.declared.scenario.FaultKind.{FaultKind}
use Rattle.scenario_data.specs.declared.scenario.FaultKind.TheVariants.{Lose, Repeat, Late, Flip, Cut}
use Rattle.scenario_data.specs.declared.scenario.Fault.{Fault}
use Rattle.link_sim.specs.declared.Line.{Line}

-- the streams are the same
abbrev pub same_way : Way → Way → Bool
same_way Poll Poll = true
same_way Load Load = true
same_way Prio Prio = true
same_way _ _ = false

-- the directions are the same
abbrev pub same_direction : Direction → Direction → Bool
same_direction Down Down = true
same_direction Up Up = true
same_direction _ _ = false

-- the fault is for the message at this place of the line in this round; places are counted from 0
abbrev pub meets : Line → ℕ → ℕ → Fault → Bool
meets line round place f =
    (f.round == round) && (f.cabinet == line.cab) && same_way f.stream line.way && same_direction f.way line.direction
    && (f.index == place)

-- the fault of a message: the first fault in the list that is for it
abbrev pub fault_of : List Fault → Line → ℕ → ℕ → Option Fault
fault_of faults line round place = find (meets line round place) faults

-- the octets, with the bits that are set in `octet` inverted in the octet at this place; unchanged if there is no
-- such place
abbrev pub flipped : List ℕ → ℕ → ℕ → List ℕ
flipped octets place octet =
    if nat_lt place (length octets) then set octets place (bit_xor (get_or octets place 0) octet) else octets

-- the copies of a message with a fault that arrive in the same round. A lost message has none, and a repeated message
-- has two. A damaged or truncated message arrives changed. A late message arrives now and again `by` rounds later; if
-- `by` is 0 it arrives twice now
abbrev pub at_once : FaultKind → ℕ → ℕ → List ℕ → List (List ℕ)
at_once Lose by octet text = []
at_once Repeat by octet text = text ∷ text ∷ []
at_once Late by octet text = if by == 0 then text ∷ text ∷ [] else text ∷ []
at_once Flip by octet text = flipped text by octet ∷ []
at_once Cut by octet text = take by text ∷ []

-- the copy of a message that arrives `rounds` rounds later; only a late fault makes one
abbrev pub copy_after : FaultKind → ℕ → ℕ → List ℕ → List (List ℕ)
copy_after Lose by rounds text = []
copy_after Repeat by rounds text = []
copy_after Late by rounds text = if (by == rounds) && not (by == 0) then text ∷ [] else []
copy_after Flip by rounds text = []
copy_after Cut by rounds text = []

-- the copies of a message that arrive in the same round, if it has this fault or none
abbrev pub arriving : Option Fault → List ℕ → List (List ℕ)
arriving None text = text ∷ []
arriving (Some f) text = at_once f.kind f.by f.octet text

-- the copy of a message that arrives `rounds` rounds later, if it has this fault or none
abbrev pub copied : Option Fault → ℕ → List ℕ → List (List ℕ)
copied None rounds text = []
copied (Some f) rounds text = copy_after f.kind f.by rounds text
