-- The fault of a Set: an INTEGER of one octet holds its status, and its place.
use Rattle.std.proofs.Common.{◌≡◌, ℕ, ◌<◌, ◌≤◌, ◌==◌, ◌∷◌, [], Bool, true, false, List, length, Option, Some, None, Result, Ok, Err, subst, arith}
use Rattle.std.specs.Prelude.{pos, negsuc, nat_lt, is_ok, IfErr, if◌then◌else◌}
use Rattle.std.proofs.lemmas.Option.{same_Some}
use Rattle.sig_types.specs.declared.notes.Request.{Request}
use Rattle.sig_tables.specs.declared.tables.Tables.{Tables}
use Rattle.sig_tables.specs.declared.cells.Cell.{Cell}
use Rattle.sig_tables.specs.declared.cells.CellValue.{CellValue}
use Rattle.sig_tables.specs.Cells.{content_of, lies}
use Rattle.sig_tables.specs.Ranges.{fits_of}
use Rattle.snmp_msg.specs.declared.message.Pdu.{Pdu}
use Rattle.snmp_msg.specs.declared.message.Pdu.TheVariants.{Get, Next, Response, Set}
use Rattle.snmp_msg.specs.declared.message.Value.{Value}
use Rattle.snmp_msg.specs.declared.message.Value.TheVariants.{Int, Octets, Null, Name as NameValue}
use Rattle.snmp_msg.specs.declared.message.Bind.{Bind}
use Rattle.oid_map.specs.declared.names.Name.{Name}
use Rattle.oid_map.specs.declared.names.Name.TheVariants.{Cell as CellName, Index, Group, PatternStatus, PatternControl, Txn, Clock, Counter, Target, ModeCode, Request as RequestName, Cancel, RequestState}
use Rattle.oid_map.specs.Reading.{name_at}
use Rattle.agent.specs.declared.ask.Order.{Order}
use Rattle.agent.specs.declared.ask.Order.TheVariants.{Request as RequestOrder}
use Rattle.agent.specs.declared.ask.Wish.{Wish}
use Rattle.agent.specs.declared.ask.Wish.TheVariants.{Bad}
use Rattle.agent.specs.declared.bindings.Fault.{Fault}
use Rattle.agent.specs.Orders.{can_command, pattern_order, clock_order, request_in, is_in_range, if_in_range, request_order, cancel_order, order_named, order_of}
use Rattle.agent.specs.Downloads.{number_in, id_in, cell_value, put_into, put_named, put_of, begin_wish, with_puts, part_wish, verify_wish, finish_wish, download_object, step_named, step_wish}
use Rattle.agent.specs.Asks.{direct_wish, set_wish, wish_of}
use Rattle.agent.specs.Bindings.{each_gives, IsSmall}
use Rattle.agent.proofs.Gathered.{fault_is_small}

if_low : {A : Type 0} (passes : Bool) (given : A) → IfErr (if passes then Ok given else Err 3) (λ status. status < 128)
if_low true given = tt
if_low false given = omega arith

-- ---- what a binding orders

pattern_low : (t : Tables) (value : Value) → IfErr (pattern_order t value) (λ status. status < 128)
pattern_low t (Int (pos n)) = if_low (can_command t n) _
pattern_low t (Int (negsuc n)) = omega arith
pattern_low t (Octets octets) = omega arith
pattern_low t Null = omega arith
pattern_low t (NameValue name) = omega arith

clock_low : (value : Value) → IfErr (clock_order value) (λ status. status < 128)
clock_low (Int (pos n)) = if_low (nat_lt n 864000) _
clock_low (Int (negsuc n)) = omega arith
clock_low (Octets octets) = omega arith
clock_low Null = omega arith
clock_low (NameValue name) = omega arith

cancel_low : (value : Value) → IfErr (cancel_order value) (λ status. status < 128)
cancel_low (Int (pos n)) = if_low (lies n 1 10) _
cancel_low (Int (negsuc n)) = omega arith
cancel_low (Octets octets) = omega arith
cancel_low Null = omega arith
cancel_low (NameValue name) = omega arith

in_range_low : (r : Option Request) → IfErr (if_in_range r) (λ status. status < 128)
in_range_low (Some r) = if_low (is_in_range r) (RequestOrder r)
in_range_low None = omega arith

request_low : (value : Value) → IfErr (request_order value) (λ status. status < 128)
request_low (Octets octets) = in_range_low (request_in octets.items)
request_low (Int n) = omega arith
request_low Null = omega arith
request_low (NameValue name) = omega arith

order_low : (t : Tables) (name : Option Name) (value : Value) → IfErr (order_named t name value) (λ status. status < 128)
order_low t None value = omega arith
order_low t (Some PatternControl) value = pattern_low t value
order_low t (Some Clock) value = clock_low value
order_low t (Some RequestName) value = request_low value
order_low t (Some Cancel) value = cancel_low value
order_low t (Some (CellName cell)) value = omega arith
order_low t (Some (Index table column row sub)) value = omega arith
order_low t (Some (Group column group)) value = omega arith
order_low t (Some PatternStatus) value = omega arith
order_low t (Some (Txn number)) value = omega arith
order_low t (Some Counter) value = omega arith
order_low t (Some Target) value = omega arith
order_low t (Some ModeCode) value = omega arith
order_low t (Some (RequestState number)) value = omega arith

-- ---- what a binding of a download gives

number_low : (least most : ℕ) (value : Value) → IfErr (number_in least most value) (λ status. status < 128)
number_low least most (Int (pos n)) = if_low (lies n least most) n
number_low least most (Int (negsuc n)) = omega arith
number_low least most (Octets octets) = omega arith
number_low least most Null = omega arith
number_low least most (NameValue name) = omega arith

put_low : (cell : Cell) (value : Option CellValue) → IfErr (put_into cell value) (λ status. status < 128)
put_low cell (Some value) = if_low (is_ok (fits_of cell (content_of value))) (cell, value)
put_low cell None = omega arith

named_low : (name : Option Name) (value : Value) → IfErr (put_named name value) (λ status. status < 128)
named_low None value = omega arith
named_low (Some (CellName cell)) value = put_low cell (cell_value value)
named_low (Some PatternControl) value = omega arith
named_low (Some Clock) value = omega arith
named_low (Some RequestName) value = omega arith
named_low (Some Cancel) value = omega arith
named_low (Some (Index table column row sub)) value = omega arith
named_low (Some (Group column group)) value = omega arith
named_low (Some PatternStatus) value = omega arith
named_low (Some (Txn number)) value = omega arith
named_low (Some Counter) value = omega arith
named_low (Some Target) value = omega arith
named_low (Some ModeCode) value = omega arith
named_low (Some (RequestState number)) value = omega arith

-- ---- the wish

abbrev pub IsLow : Wish → Type 0
IsLow (Bad status index) = IsSmall (record { status = status; index = index })
IsLow _ = Unit {0}

either : (test : Bool) (a b : Wish) → IsLow a → IsLow b → IsLow (if test then a else b)
either true a b low low' = low
either false a b low low' = low'

begin_low : (id : Result ℕ ℕ) (others : List Bind) → IfErr id (λ status. status < 128) → IsLow (begin_wish id others)
begin_low (Ok id) [] low = tt
begin_low (Ok id) (second ∷ others) low = (omega arith, omega arith)
begin_low (Err status) others low = (low, omega arith)

puts_low : (id number : ℕ) (puts : Result (List (Cell × CellValue)) Fault) → IfErr puts IsSmall → IsLow (with_puts id number puts)
puts_low id number (Ok puts) small = tt
puts_low id number (Err fault) small = small

part_low : (id : ℕ) (number : Result ℕ ℕ) (cells : List Bind) → length cells ≤ 30 → IfErr number (λ status. status < 128) → IsLow (part_wish id number cells)
part_low id (Ok number) cells few low =
    puts_low id number (each_gives put_of 3 cells) (fault_is_small put_of (λ bind. named_low (name_at bind.name.items) bind.value) cells 3 (omega (arith, few)))
part_low id (Err status) cells few low = (low, omega arith)

verify_low : (id : ℕ) (total : Result ℕ ℕ) (others : List Bind) → IfErr total (λ status. status < 128) → IsLow (verify_wish id total others)
verify_low id (Ok total) [] low = tt
verify_low id (Ok total) (third ∷ others) low = (omega arith, omega arith)
verify_low id (Err status) others low = (low, omega arith)

finish_low : (id : ℕ) (one : Result ℕ ℕ) (others : List Bind) → IfErr one (λ status. status < 128) → IsLow (finish_wish id one others)
finish_low id (Ok one) [] low = tt
finish_low id (Ok one) (third ∷ others) low = (omega arith, omega arith)
finish_low id (Err status) others low = (low, omega arith)

step_named_low : (object id : ℕ) (value : Value) (others : List Bind) → length others ≤ 30 → IsLow (step_named object id value others)
step_named_low object id value others few =
    either (object == 4) _ _ (part_low id (number_in 1 60000 value) others few (number_low 1 60000 value))
    (either (object == 5) _ _ (verify_low id (number_in 0 60000 value) others (number_low 0 60000 value))
    (either (object == 6) _ _ (finish_low id (number_in 1 1 value) others (number_low 1 1 value)) (omega arith, omega arith)))

step_low : (id : Result ℕ ℕ) (others : List Bind) → length others ≤ 31 → IfErr id (λ status. status < 128) → IsLow (step_wish id others)
step_low (Ok id) [] few low = (omega arith, omega arith)
step_low (Ok id) (second ∷ others) few low = step_named_low (download_object (name_at second.name.items)) id second.value others (omega (arith, few))
step_low (Err status) others few low = (low, omega arith)

direct_low : (given : Result (List Order) Fault) → IfErr given IsSmall → IsLow (direct_wish given)
direct_low (Ok orders) small = tt
direct_low (Err fault) small = small

set_low : (t : Tables) (binds : List Bind) → length binds ≤ 32 → IsLow (set_wish t binds)
set_low t [] few = tt
set_low t (first ∷ others) few =
    let object = download_object (name_at first.name.items) in
    either (object == 2) _ _ (begin_low (id_in first.value) others (number_low 1 2147483647 first.value))
    (either (object == 3) _ _ (step_low (id_in first.value) others (omega (arith, few)) (number_low 1 2147483647 first.value))
    (direct_low (each_gives (order_of t) 1 (first ∷ others))
    (fault_is_small (order_of t) (λ bind. order_low t (name_at bind.name.items) bind.value) (first ∷ others) 1 (omega (arith, few)))))

pub wish_low : (t : Tables) (pdu : Pdu) (binds : List Bind) (wish : Wish) → length binds ≤ 32 → wish_of t pdu binds ≡ Some wish → IsLow wish
wish_low t Get binds wish few e = subst IsLow (same_Some _ wish e) tt
wish_low t Next binds wish few e = subst IsLow (same_Some _ wish e) tt
wish_low t Response binds wish few e = absurd cc
wish_low t Set binds wish few e = subst IsLow (same_Some (set_wish t binds) wish e) (set_low t binds few)
