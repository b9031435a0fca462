-- What a value without faults says of messages: requests, frames, faults of the link, and the schedule of patterns.
use Rattle.std.proofs.Common.{◌≡◌, ◌≤◌, ◌<◌, ℕ, Bool, true, false, List, [], ◌∷◌, if◌then◌else◌, arith}
use Rattle.std.specs.List.{AllByRecursion}
use Rattle.serde_json.specs.Data.{Data}
use Rattle.scenario_data.specs.declared.scenario.PriorityAct.TheVariants.{Request as AskRequest, Cancel}
use Rattle.scenario_read.specs.Paths.{Step, then_named}
use Rattle.scenario_read.specs.Kinds.{items_in}
use Rattle.scenario_read.specs.Fields.{Field, held, stands, only_one, chosen_faults, object_of}
use Rattle.scenario_read.specs.Table.{number_at, second, entry_section, entry_pattern, entry_shape, clock, poll_every, clock_every, pattern_every, retries, schedule, master_shape, cancel, request_number, class, level, phase, arrival, departure, request_fields, priority_shape, request_of, act_of, departure_faults, priority_item, round, cabinet_number, stream, frame_hex, frame_shape, way, index, fault_kind, by, octet, fault_shape}
use Rattle.scenario_read.specs.Content.{entry_of, list_in, priority_of, frame_of, fault_of}
use Rattle.scenario_read.proofs.NoFaults.{none-left}
use Rattle.snmp_msg.specs.Shortest.{AreOctets}
use Rattle.runnable.specs.Octets.{IsShortRequest, IsShortAct}
use Rattle.scenario_checked.proofs.RangesParts.{whole-in, list-in as list-holds, held-in, object-in, AllClean, all-clean}
use Rattle.scenario_checked.proofs.RangesLists.{each-holds}
use Rattle.scenario_checked.proofs.RangesCells.{hex-in}

-- ---- the schedule

entry-in : (path : List Step) (d : Data) → object_of entry_shape path d ≡ [] → (entry_of d).pattern < 256
entry-in path d e =
    let own = all-clean path d (second ∷ entry_section ∷ entry_pattern ∷ []) (object-in entry_shape path d e).0 in
    let high : number_at entry_pattern d ≤ 255 = (whole-in 0 255 (then_named path entry_pattern.name) (held entry_pattern d) (held-in path d entry_pattern own.1.1.0)).1 in
    omega (arith, high)

pub schedule-in : (path : List Step) (d : Data) → object_of master_shape path d ≡ []
    → AllByRecursion (λ e. e.pattern < 256) (list_in entry_of (held schedule d))
schedule-in path d e =
    let own = all-clean path d (clock ∷ poll_every ∷ clock_every ∷ pattern_every ∷ retries ∷ schedule ∷ []) (object-in master_shape path d e).0 in
    let at : List Step = then_named path schedule.name in
    let list = list-holds 0 1000 (object_of entry_shape) at (held schedule d) (held-in path d schedule own.1.1.1.1.1.0) in
    each-holds (object_of entry_shape) entry_of (λ entry. entry.pattern < 256) entry-in at 0 (items_in (held schedule d)) list.2

-- ---- priority

request-in : (path : List Step) (d : Data) → AllClean path d request_fields → IsShortRequest (request_of d)
request-in path d own =
    let a : number_at request_number d ≤ 10 = (whole-in 1 10 (then_named path request_number.name) (held request_number d) (held-in path d request_number own.0)).1 in
    let b : number_at class d ≤ 10 = (whole-in 1 10 (then_named path class.name) (held class d) (held-in path d class own.1.0)).1 in
    let c : number_at level d ≤ 10 = (whole-in 1 10 (then_named path level.name) (held level d) (held-in path d level own.1.1.0)).1 in
    let p : number_at phase d ≤ 16 = (whole-in 1 16 (then_named path phase.name) (held phase d) (held-in path d phase own.1.1.1.0)).1 in
    let r : number_at arrival d ≤ 65535 = (whole-in 0 65535 (then_named path arrival.name) (held arrival d) (held-in path d arrival own.1.1.1.1.0)).1 in
    let s : number_at departure d ≤ 65535 = (whole-in 0 65535 (then_named path departure.name) (held departure d) (held-in path d departure own.1.1.1.1.1.0)).1 in
    record {
      number = omega (arith, a);
      class = omega (arith, b);
      level = omega (arith, c);
      phase = omega (arith, p);
      arrival = omega (arith, r);
      departure = omega (arith, s);
    }

-- of the two the ones that are there
abbrev both_standing : Bool → Bool → List (List Field)
both_standing a b = if a then (cancel ∷ []) ∷ (if b then request_fields ∷ [] else []) else if b then request_fields ∷ [] else []

act-in : (path : List Step) (d : Data) (a b : Bool) → chosen_faults path d (only_one (both_standing a b)) ≡ []
    → IsShortAct (if a then Cancel (number_at cancel d) else AskRequest (request_of d))
act-in path d true b e = tt
act-in path d false true e = request-in path d (all-clean path d request_fields e)
act-in path d false false e = absurd (cc)

pub priority-in : (rounds cabinets : ℕ) (path : List Step) (d : Data) → priority_item rounds cabinets path d ≡ []
    → IsShortAct (priority_of rounds cabinets d).act
priority-in rounds cabinets path d e =
    let parts = none-left (object_of (priority_shape rounds cabinets) path d) (departure_faults path (act_of d)) e in
    let other = (object-in (priority_shape rounds cabinets) path d parts.0).1 in
    act-in path d (stands d (cancel ∷ [])) (stands d request_fields) other

-- ---- frames and faults

pub frame-in : (rounds cabinets : ℕ) (path : List Step) (d : Data) → object_of (frame_shape rounds cabinets) path d ≡ []
    → AreOctets (frame_of rounds cabinets d).hex
frame-in rounds cabinets path d e =
    let own = all-clean path d (round rounds ∷ cabinet_number cabinets ∷ stream ∷ frame_hex ∷ []) (object-in (frame_shape rounds cabinets) path d e).0 in
    hex-in 1472 (then_named path frame_hex.name) (held frame_hex d) (held-in path d frame_hex own.1.1.1.0)

pub fault-in : (rounds cabinets : ℕ) (path : List Step) (d : Data) → object_of (fault_shape rounds cabinets) path d ≡ []
    → (fault_of rounds cabinets d).octet < 256
fault-in rounds cabinets path d e =
    let own = all-clean path d (round rounds ∷ cabinet_number cabinets ∷ stream ∷ way ∷ index ∷ fault_kind ∷ by ∷ octet ∷ [])
    (object-in (fault_shape rounds cabinets) path d e).0 in
    let high : number_at octet d ≤ 255 = (whole-in 1 255 (then_named path octet.name) (held octet d) (held-in path d octet own.1.1.1.1.1.1.1.0)).1 in
    omega (arith, high)
