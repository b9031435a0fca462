-- What a binding of a Set orders: a pattern, the clock, a priority request (after NTCIP 1211), or the end of a
-- request. The status of a fault (RFC 1157, 4.1.5) is 2 for a name that can't be set, and 3 for a value of a wrong
-- type or out of range.
use Rattle.std.specs.Prelude.{ℕ, ◌+◌, ◌*◌, ◌≤◌, ◌<◌, ◌==◌, ◌||◌, ◌&&◌, pos, nat_lt, nat_le, Bool, if◌then◌else◌, List, [], ◌∷◌, Option, Some, None, Result, Ok, Err}
use Rattle.sig_types.specs.declared.notes.Request.{Request}
use Rattle.sig_tables.specs.declared.tables.Tables.{Tables}
use Rattle.sig_tables.specs.Cells.{lies}
use Rattle.sig_tables.specs.Slots.{is_defined}
use Rattle.snmp_msg.specs.declared.message.Value.{Value}
use Rattle.snmp_msg.specs.declared.message.Value.TheVariants.{Int, Octets}
use Rattle.snmp_msg.specs.declared.message.Bind.{Bind}
use Rattle.oid_map.specs.declared.names.Name.{Name}
use Rattle.oid_map.specs.declared.names.Name.TheVariants.{PatternControl, Clock, Request as RequestName, Cancel}
use Rattle.oid_map.specs.Reading.{name_at}
use Rattle.agent.specs.declared.ask.Order.{Order}
use Rattle.agent.specs.declared.ask.Order.TheVariants.{Pattern as PatternOrder, Clock as ClockOrder, Request as RequestOrder, Cancel as CancelOrder}

-- the pattern can be commanded: 0 and 254 are free operation, 255 is flash, and every other number must be a pattern
-- that the tables define
abbrev pub can_command : Tables → ℕ → Bool
can_command t n = n == 0 || n == 254 || n == 255 || is_defined t n

-- the order to set the pattern, if this pattern can be commanded
abbrev pub pattern_order : Tables → Value → Result Order ℕ
pattern_order t (Int (pos n)) = if can_command t n then Ok (PatternOrder n) else Err 3
pattern_order t _ = Err 3

-- the order to set the clock to a tick of the day
abbrev pub clock_order : Value → Result Order ℕ
clock_order (Int (pos n)) = if nat_lt n 864000 then Ok (ClockOrder n) else Err 3
clock_order _ = Err 3

-- a priority request of eight octets: number, class, level, phase, arrival and departure. Arrival and departure are
-- in ticks from now and have two octets each, the high octet first
abbrev pub request_in : List ℕ → Option Request
request_in (number ∷ class ∷ level ∷ phase ∷ arrival ∷ arrival' ∷ departure ∷ departure' ∷ []) = Some (record {
  number = number;
  class = class;
  level = level;
  phase = phase;
  arrival = 256 * arrival + arrival';
  departure = 256 * departure + departure';
})
request_in _ = None

-- the request is valid: number, class and level are 1 to 10, the phase is 1 to 16, and the arrival isn't after the
-- departure
abbrev pub is_in_range : Request → Bool
is_in_range r =
    lies r.number 1 10 && lies r.class 1 10 && lies r.level 1 10 && lies r.phase 1 16 && nat_le r.arrival r.departure

-- the order that a valid request gives
abbrev pub if_in_range : Option Request → Result Order ℕ
if_in_range (Some r) = if is_in_range r then Ok (RequestOrder r) else Err 3
if_in_range None = Err 3

-- the order to make a priority request
abbrev pub request_order : Value → Result Order ℕ
request_order (Octets octets) = if_in_range (request_in octets.items)
request_order _ = Err 3

-- the order to end a priority request, by its number
abbrev pub cancel_order : Value → Result Order ℕ
cancel_order (Int (pos n)) = if lies n 1 10 then Ok (CancelOrder n) else Err 3
cancel_order _ = Err 3

-- the order that setting an instance to this value gives, under these tables
abbrev pub order_named : Tables → Option Name → Value → Result Order ℕ
order_named t (Some PatternControl) value = pattern_order t value
order_named t (Some Clock) value = clock_order value
order_named t (Some RequestName) value = request_order value
order_named t (Some Cancel) value = cancel_order value
order_named t _ value = Err 2

-- the order that a binding gives, under these tables
abbrev pub order_of : Tables → Bind → Result Order ℕ
order_of t bind = order_named t (name_at bind.name.items) bind.value

-- the number is valid as the number, class or level of a request: 1 to 10
abbrev pub IsOneToTen : ℕ → Type 0
IsOneToTen n = (1 ≤ n) × (n ≤ 10)

-- the cabinet can carry out the order: a pattern is at most 255, a clock is a tick of the day, and a priority request
-- is valid
abbrev pub IsFit : Order → Type 0
IsFit (PatternOrder n) = n < 256
IsFit (ClockOrder tick) = tick < 864000
IsFit (RequestOrder r) =
    IsOneToTen r.number × IsOneToTen r.class × IsOneToTen r.level × (1 ≤ r.phase) × (r.phase ≤ 16) × (r.arrival ≤ r.departure)
IsFit (CancelOrder number) = IsOneToTen number
