-- Inputs with members that are only numbers and flags, and the value of each.
use Rattle.std.specs.Prelude.{ℕ, ◌≡◌, ◌≤◌, List, Bool, Option, Some, None, codes}
use Rattle.serde_json.specs.Data.{unsigned, boolean, number, Members, no_members, member}
use Rattle.sig_types.specs.declared.frame.Field.{Field}
use Rattle.sig_types.specs.declared.frame.Field.TheVariants.{Veh, Ped, Preempt}
use Rattle.scenario_data.specs.declared.scenario.Input.{Input}
use Rattle.scenario_file.specs.declared.plain.NumberName.{NumberName}
use Rattle.scenario_file.specs.declared.plain.NumberName.TheVariants.{Cabinet, Ped as PedNumber, Preempt as PreemptNumber, Round, Veh as VehNumber}
use Rattle.scenario_file.specs.declared.plain.Plain.{Plain}

-- the name of a number
abbrev pub number_name : NumberName → List ℕ
number_name Cabinet = codes "cabinet"
number_name PedNumber = codes "ped"
number_name PreemptNumber = codes "preempt"
number_name Round = codes "round"
number_name VehNumber = codes "veh"

-- a member with this number, if there is one, followed by these members
abbrev pub number_then : List ℕ → Option ℕ → Members → Members
number_then name None ms = ms
number_then name (Some n) ms = member name (number (unsigned n)) ms

-- a member with this flag, if there is one, followed by these members
abbrev pub flag_then : List ℕ → Option Bool → Members → Members
flag_then name None ms = ms
flag_then name (Some b) ms = member name (boolean b) ms

-- the members of an input, in the order of the bytes of their names
abbrev pub plain_members : Plain → Members
plain_members p =
    number_then (codes "cabinet") p.cabinet
    (flag_then (codes "on") p.on
    (number_then (codes "ped") p.ped (number_then (codes "preempt") p.preempt (number_then (codes "round") p.round (number_then (codes "veh") p.veh no_members)))))

-- the members of an input between its cabinet and its round, followed by these members
abbrev pub before_round : Field → Members → Members
before_round (Veh phase on) ms = member (codes "on") (boolean on) ms
before_round (Ped phase) ms = member (codes "ped") (number (unsigned phase)) ms
before_round (Preempt n on) ms = member (codes "on") (boolean on) (member (codes "preempt") (number (unsigned n)) ms)

-- the members of an input after its round
abbrev pub behind_round : Field → Members
behind_round (Veh phase on) = member (codes "veh") (number (unsigned phase)) no_members
behind_round (Ped phase) = no_members
behind_round (Preempt n on) = no_members

-- the members of the object that describes an input
abbrev pub input_members : Input → Members
input_members i =
    member (codes "cabinet") (number (unsigned i.cabinet))
    (before_round i.field (member (codes "round") (number (unsigned i.round)) (behind_round i.field)))

-- the members are those of a detector, a push button or a preempt input, and no others
abbrev pub FieldStands : Field → Plain → Type 0
FieldStands (Veh phase on) p = (p.veh ≡ Some phase) × (p.ped ≡ None) × (p.preempt ≡ None) × (p.on ≡ Some on)
FieldStands (Ped phase) p = (p.veh ≡ None) × (p.ped ≡ Some phase) × (p.preempt ≡ None) × (p.on ≡ None)
FieldStands (Preempt n on) p = (p.veh ≡ None) × (p.ped ≡ None) × (p.preempt ≡ Some n) × (p.on ≡ Some on)

-- the number is from 1 to `most`
abbrev pub Fits : ℕ → ℕ → Type 0
Fits most n = (1 ≤ n) × (n ≤ most)

-- the phase of a detector or a push button is from 1 to 16, and a preempt is from 1 to 8
abbrev pub FieldFits : Field → Type 0
FieldFits (Veh phase on) = Fits 16 phase
FieldFits (Ped phase) = Fits 16 phase
FieldFits (Preempt n on) = Fits 8 n

-- the input has no fault in a scenario with the maximum number of rounds and cabinets
pub record InputFits (i : Input) : Type 0 where
  pub round : Fits 86400 i.round
  pub cabinet : Fits 64 i.cabinet
  pub field : FieldFits i.field
