-- The id of a download that a frame names is a number that an INTEGER holds, from 1 on.
use Rattle.std.proofs.Common.{◌≡◌, ℕ, ◌==◌, ◌∷◌, [], Bool, true, false, List, Option, Some, None, Result, Ok, Err, refl, subst}
use Rattle.std.specs.Prelude.{pos, negsuc, nat_le, ◌&&◌, IfOk, IfSome, if◌then◌else◌}
use Rattle.std.proofs.lemmas.Option.{same_Some}
use Rattle.std.proofs.lemmas.Bool.{leb-true}
use Rattle.sig_tables.specs.declared.tables.Tables.{Tables}
use Rattle.sig_tables.specs.declared.cells.Cell.{Cell}
use Rattle.sig_tables.specs.declared.cells.CellValue.{CellValue}
use Rattle.snmp_msg.specs.declared.message.Pdu.{Pdu}
use Rattle.snmp_msg.specs.declared.message.Pdu.TheVariants.{Get, Next, Response, Set}
use Rattle.snmp_msg.specs.declared.message.Value.{Value}
use Rattle.snmp_msg.specs.declared.message.Value.TheVariants.{Int, Octets, Null, Name as NameValue}
use Rattle.snmp_msg.specs.declared.message.Bind.{Bind}
use Rattle.oid_map.specs.Reading.{name_at}
use Rattle.agent.specs.declared.ask.Order.{Order}
use Rattle.agent.specs.declared.ask.Wish.{Wish}
use Rattle.agent.specs.declared.ask.Wish.TheVariants.{Begin, Part, Verify, Finish}
use Rattle.agent.specs.declared.ask.Ask.{Ask}
use Rattle.agent.specs.declared.bindings.Fault.{Fault}
use Rattle.agent.specs.Orders.{order_of}
use Rattle.agent.specs.Bindings.{each_gives}
use Rattle.agent.specs.Downloads.{IsId, number_in, id_in, put_of, begin_wish, with_puts, part_wish, verify_wish, finish_wish, download_object, step_named, step_wish}
use Rattle.agent.specs.Asks.{direct_wish, set_wish, wish_of, ask_of, Asks}
use Rattle.agent.proofs.Readings.{read_asked}

-- a step of a download under such an id, or another wish
abbrev pub HasId : Wish → Type 0
HasId (Begin id) = IsId id
HasId (Part id number puts) = IsId id
HasId (Verify id total) = IsId id
HasId (Finish id) = IsId id
HasId _ = Unit {0}

-- an id where it may be one
abbrev id_if : Bool → ℕ → Result ℕ ℕ
id_if test n = if test then Ok n else Err 3

lies-within : (n : ℕ) (least most : Bool) → nat_le 1 n ≡ least → nat_le n 2147483647 ≡ most → IfOk (id_if (least && most) n) IsId
lies-within n true true e f = (leb-true 1 n e, leb-true n 2147483647 f)
lies-within n true false e f = tt
lies-within n false most e f = tt

id-above : (value : Value) → IfOk (id_in value) IsId
id-above (Int (pos n)) = lies-within n (nat_le 1 n) (nat_le n 2147483647) refl refl
id-above (Int (negsuc n)) = tt
id-above (Octets octets) = tt
id-above Null = tt
id-above (NameValue name) = tt

begin-id : (r : Result ℕ ℕ) (others : List Bind) → IfOk r IsId → HasId (begin_wish r others)
begin-id (Ok id) [] above = above
begin-id (Ok id) (second ∷ others) above = tt
begin-id (Err status) others above = tt

puts-id : (id number : ℕ) (r : Result (List (Cell × CellValue)) Fault) → IsId id → HasId (with_puts id number r)
puts-id id number (Ok puts) above = above
puts-id id number (Err fault) above = tt

part-id : (id : ℕ) (r : Result ℕ ℕ) (cells : List Bind) → IsId id → HasId (part_wish id r cells)
part-id id (Ok number) cells above = puts-id id number (each_gives put_of 3 cells) above
part-id id (Err status) cells above = tt

verify-id : (id : ℕ) (r : Result ℕ ℕ) (others : List Bind) → IsId id → HasId (verify_wish id r others)
verify-id id (Ok total) [] above = above
verify-id id (Ok total) (third ∷ others) above = tt
verify-id id (Err status) others above = tt

finish-id : (id : ℕ) (r : Result ℕ ℕ) (others : List Bind) → IsId id → HasId (finish_wish id r others)
finish-id id (Ok one) [] above = above
finish-id id (Ok one) (third ∷ others) above = tt
finish-id id (Err status) others above = tt

one-of : (test : Bool) (a b : Wish) → HasId a → HasId b → HasId (if test then a else b)
one-of true a b ha hb = ha
one-of false a b ha hb = hb

named-id : (object id : ℕ) (value : Value) (others : List Bind) → IsId id → HasId (step_named object id value others)
named-id object id value others above =
    one-of (object == 4) _ _ (part-id id (number_in 1 60000 value) others above)
    (one-of (object == 5) _ _ (verify-id id (number_in 0 60000 value) others above)
    (one-of (object == 6) _ _ (finish-id id (number_in 1 1 value) others above) tt))

step-id : (r : Result ℕ ℕ) (others : List Bind) → IfOk r IsId → HasId (step_wish r others)
step-id (Ok id) [] above = tt
step-id (Ok id) (second ∷ others) above = named-id (download_object (name_at second.name.items)) id second.value others above
step-id (Err status) others above = tt

direct-id : (r : Result (List Order) Fault) → HasId (direct_wish r)
direct-id (Ok orders) = tt
direct-id (Err fault) = tt

set-id : (t : Tables) (binds : List Bind) → HasId (set_wish t binds)
set-id t [] = tt
set-id t (first ∷ others) =
    one-of (download_object (name_at first.name.items) == 2) _ _ (begin-id (id_in first.value) others (id-above first.value))
    (one-of (download_object (name_at first.name.items) == 3) _ _ (step-id (id_in first.value) others (id-above first.value))
    (direct-id (each_gives (order_of t) 1 (first ∷ others))))

wish-id : (t : Tables) (pdu : Pdu) (binds : List Bind) → IfSome (wish_of t pdu binds) HasId
wish-id t Get binds = tt
wish-id t Next binds = tt
wish-id t Response binds = tt
wish-id t Set binds = set-id t binds

pub ask-id : (frame community : List ℕ) (t : Tables) → IfSome (ask_of frame community t) (λ ask. HasId ask.wish)
ask-id frame community t = among (ask_of frame community t) (read_asked frame community t)
  where
    wished : (wish : Option Wish) (w : Wish) → wish ≡ Some w → IfSome wish HasId → HasId w
    wished (Some v) w e h = subst HasId (same_Some v w e) h
    wished None w e h = absurd (let none : None ≡ Some w = e in cc)

    among : (r : Option Ask) → IfSome r (Asks frame community t) → IfSome r (λ ask. HasId ask.wish)
    among (Some ask) is =
        wished (wish_of t ask.message.pdu ask.message.binds.items) ask.wish is.wish (wish-id t ask.message.pdu ask.message.binds.items)
    among None is = tt
