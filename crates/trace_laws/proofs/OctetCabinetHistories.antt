-- In a cabinet history of octets all that is put into cells is octets, and so is what is in the tables in force.
use Rattle.std.proofs.Common.{◌≡◌, ℕ, ◌+◌, ◌==◌, ◌++◌, ◌∷◌, [], Bool, true, false, List, length, map, Option, Some, None, Result, Ok, Err, sym, subst}
use Rattle.std.specs.Prelude.{pos, negsuc, nat_le, IfOk, IfSome, is_ok, if◌then◌else◌}
use Rattle.std.specs.List.{AllByRecursion}
use Rattle.std.proofs.lemmas.Option.{same_Some}
use Rattle.sig_types.specs.declared.notes.StageAnswer.{StageAnswer}
use Rattle.sig_types.specs.declared.notes.StageAnswer.TheVariants.{Staged, Repeated, Verified, Accepted, WrongToken, WrongPart, NotVerified, Refused}
use Rattle.sig_tables.specs.declared.tables.Tables.{Tables}
use Rattle.sig_tables.specs.declared.cells.Cell.{Cell}
use Rattle.sig_tables.specs.declared.cells.CellValue.{CellValue}
use Rattle.sig_tables.specs.declared.cells.CellValue.TheVariants.{Octets as OctetsValue}
use Rattle.sig_tables.specs.Cells.{Content, content_of}
use Rattle.sig_tables.specs.Ranges.{fits_of}
use Rattle.sig_tables.specs.Putting.{put_content}
use Rattle.sig_tables.specs.Past.{History}
use Rattle.snmp_msg.specs.declared.message.Pdu.{Pdu}
use Rattle.snmp_msg.specs.declared.message.Pdu.TheVariants.{Get, Next, Response, Set}
use Rattle.snmp_msg.specs.declared.message.Value.{Value}
use Rattle.snmp_msg.specs.declared.message.Value.TheVariants.{Int, Octets, Null, Name as NameValue}
use Rattle.snmp_msg.specs.declared.message.Bind.{Bind}
use Rattle.snmp_msg.specs.Shortest.{AreOctets}
use Rattle.oid_map.specs.declared.names.Name.{Name}
use Rattle.oid_map.specs.declared.names.Name.TheVariants.{Cell as CellName}
use Rattle.oid_map.specs.Reading.{name_at}
use Rattle.stage_txn.specs.Calls.{Call, Begin as BeginCall, Part as PartCall, Verify as VerifyCall, Finish as FinishCall}
use Rattle.stage_txn.specs.Calls.{Deed, begin_deed, part_deed, verify_deed, finish_deed, deeds}
use Rattle.stage_txn.specs.Answers.{answer_to, answered}
use Rattle.agent.specs.declared.ask.Order.{Order}
use Rattle.agent.specs.declared.ask.Wish.{Wish}
use Rattle.agent.specs.declared.ask.Wish.TheVariants.{Get as GetWish, Next as NextWish, Direct, Begin, Part, Verify, Finish, Bad}
use Rattle.agent.specs.declared.ask.Ask.{Ask}
use Rattle.agent.specs.declared.bindings.Fault.{Fault}
use Rattle.agent.specs.Orders.{order_of}
use Rattle.agent.specs.Bindings.{before, each_gives}
use Rattle.agent.specs.Downloads.{number_in, id_in, cell_value, put_into, put_named, put_of, begin_wish, with_puts, part_wish, verify_wish, finish_wish, download_object, step_named, step_wish}
use Rattle.agent.specs.Asks.{direct_wish, set_wish, wish_of, ask_of, Asks}
use Rattle.agent.proofs.Readings.{read_asked}
use Rattle.sig_types.specs.Items.{Item, InputTold, Came, Ticked}
use Rattle.cabinet_history.specs.CabinetHistory.{CabinetHistory}
use Rattle.cabinet_history.specs.Coming.{Coming, in_force, call_of, with_call, heeded, coming, coming_from}
use Rattle.cabinet_history.specs.Downloads.{content_by, accepted_by, with_downloads, deeds_of}
use Rattle.cabinet_laws.specs.Openings.{IsOpening}
use Rattle.cabinet_laws.proofs.Versions.{in-force-whole}
use Rattle.plan_facts.specs.Disturbances.{Drift}
use Rattle.runnable.specs.Octets.{HoldsOctets, PutOctets}
use Rattle.trace_laws.specs.Messages.{IsOctetBind, IsOctetValue}
use Rattle.trace_laws.specs.Tables.{EachHolds}
use Rattle.trace_laws.specs.Items.{AreOctetItems}
use Rattle.trace_laws.proofs.Read.{message-read}
use Rattle.trace_laws.proofs.Tables.{cells-hold}

-- ---- what bindings of octets give

joined : {A : Type 0} (Holds : A → Type 0) (first : Result A ℕ) → IfOk first Holds → (place : ℕ) (others : Result (List A) Fault)
    → IfOk others (AllByRecursion Holds) → IfOk (before first place others) (AllByRecursion Holds)
joined Holds (Ok x) own place (Ok others) more = (own, more)
joined Holds (Ok x) own place (Err fault) more = tt
joined Holds (Err status) own place others more = tt

pub each-given : {A : Type 0} (give : Bind → Result A ℕ) (Holds : A → Type 0) → ((bind : Bind) → IsOctetBind bind → IfOk (give bind) Holds)
    → (place : ℕ) (binds : List Bind) → AllByRecursion IsOctetBind binds → IfOk (each_gives give place binds) (AllByRecursion Holds)
each-given give Holds one place [] all = tt
each-given give Holds one place (bind ∷ binds) all =
    joined Holds (give bind) (one bind all.0) place (each_gives give (place + 1) binds) (each-given give Holds one (place + 1) binds all.1)

-- ---- what a wish puts

abbrev PutsHold : List (Cell × CellValue) → Type 0
PutsHold puts = AllByRecursion (λ put. HoldsOctets (content_of put.1)) puts

abbrev WishPuts : Wish → Type 0
WishPuts (Part id number puts) = PutsHold puts.items
WishPuts _ = Unit {0}

put-holds : (cell : Cell) (o : Option CellValue) → IfSome o (λ v. HoldsOctets (content_of v)) → IfOk (put_into cell o) (λ put. HoldsOctets (content_of put.1))
put-holds cell None own = tt
put-holds cell (Some v) own = split (is_ok (fits_of cell (content_of v)))
  where
    made : Cell × CellValue
    made = (cell, v)

    split : (b : Bool) → IfOk {E = ℕ} (if b then Ok made else Err 3) (λ put. HoldsOctets (content_of put.1))
    split true = own
    split false = tt

value-holds : (value : Value) → IsOctetValue value → IfSome (cell_value value) (λ v. HoldsOctets (content_of v))
value-holds (Int (pos n)) is = tt
value-holds (Int (negsuc n)) is = tt
value-holds (Octets octets) is = split (nat_le (length octets.items) 16)
  where
    split : (b : Bool) → IfSome (if b then Some (OctetsValue (record { items = octets.items })) else None) (λ v. HoldsOctets (content_of v))
    split true = is
    split false = tt
value-holds Null is = tt
value-holds (NameValue name) is = tt

named-holds : (name : Option Name) (value : Value) → IsOctetValue value → IfOk (put_named name value) (λ put. HoldsOctets (content_of put.1))
named-holds (Some (CellName cell)) value is = put-holds cell (cell_value value) (value-holds value is)
named-holds _ value is = tt

begin-puts : (r : Result ℕ ℕ) (others : List Bind) → WishPuts (begin_wish r others)
begin-puts (Ok id) [] = tt
begin-puts (Ok id) (second ∷ others) = tt
begin-puts (Err status) others = tt

puts-are : (id number : ℕ) (r : Result (List (Cell × CellValue)) Fault) → IfOk r PutsHold → WishPuts (with_puts id number r)
puts-are id number (Ok puts) all = all
puts-are id number (Err fault) all = tt

part-puts : (id : ℕ) (r : Result ℕ ℕ) (cells : List Bind) → AllByRecursion IsOctetBind cells → WishPuts (part_wish id r cells)
part-puts id (Ok number) cells all =
    puts-are id number (each_gives put_of 3 cells)
    (each-given put_of (λ put. HoldsOctets (content_of put.1)) (λ bind is. named-holds (name_at bind.name.items) bind.value is.value) 3 cells all)
part-puts id (Err status) cells all = tt

verify-puts : (id : ℕ) (r : Result ℕ ℕ) (others : List Bind) → WishPuts (verify_wish id r others)
verify-puts id (Ok total) [] = tt
verify-puts id (Ok total) (third ∷ others) = tt
verify-puts id (Err status) others = tt

finish-puts : (id : ℕ) (r : Result ℕ ℕ) (others : List Bind) → WishPuts (finish_wish id r others)
finish-puts id (Ok one) [] = tt
finish-puts id (Ok one) (third ∷ others) = tt
finish-puts id (Err status) others = tt

one-of : (test : Bool) (a b : Wish) → WishPuts a → WishPuts b → WishPuts (if test then a else b)
one-of true a b pa pb = pa
one-of false a b pa pb = pb

named-puts : (object id : ℕ) (value : Value) (others : List Bind) → AllByRecursion IsOctetBind others → WishPuts (step_named object id value others)
named-puts object id value others all =
    one-of (object == 4) _ _ (part-puts id (number_in 1 60000 value) others all)
    (one-of (object == 5) _ _ (verify-puts id (number_in 0 60000 value) others)
    (one-of (object == 6) _ _ (finish-puts id (number_in 1 1 value) others) tt))

step-puts : (r : Result ℕ ℕ) (others : List Bind) → AllByRecursion IsOctetBind others → WishPuts (step_wish r others)
step-puts (Ok id) [] all = tt
step-puts (Ok id) (second ∷ others) all = named-puts (download_object (name_at second.name.items)) id second.value others all.1
step-puts (Err status) others all = tt

direct-puts : (r : Result (List Order) Fault) → WishPuts (direct_wish r)
direct-puts (Ok orders) = tt
direct-puts (Err fault) = tt

set-puts : (t : Tables) (binds : List Bind) → AllByRecursion IsOctetBind binds → WishPuts (set_wish t binds)
set-puts t [] all = tt
set-puts t (first ∷ others) all =
    one-of (download_object (name_at first.name.items) == 2) _ _ (begin-puts (id_in first.value) others)
    (one-of (download_object (name_at first.name.items) == 3) _ _ (step-puts (id_in first.value) others all.1)
    (direct-puts (each_gives (order_of t) 1 (first ∷ others))))

wish-puts : (t : Tables) (pdu : Pdu) (binds : List Bind) → AllByRecursion IsOctetBind binds → IfSome (wish_of t pdu binds) WishPuts
wish-puts t Get binds all = tt
wish-puts t Next binds all = tt
wish-puts t Response binds all = tt
wish-puts t Set binds all = set-puts t binds all

asked-puts : (frame community : List ℕ) (t : Tables) (ask : Ask) → AreOctets frame → Asks frame community t ask → WishPuts ask.wish
asked-puts frame community t ask all is =
    wished (wish_of t ask.message.pdu ask.message.binds.items) ask.wish is.wish
    (wish-puts t ask.message.pdu ask.message.binds.items (message-read frame ask.message all is.message).0.binds)
  where
    wished : (wish : Option Wish) (w : Wish) → wish ≡ Some w → IfSome wish WishPuts → WishPuts w
    wished (Some v) w e h = subst WishPuts (same_Some v w e) h
    wished None w e h = absurd (let none : None ≡ Some w = e in cc)

-- ---- what calls put

abbrev CallPuts : Call → Type 0
CallPuts (BeginCall id t) = Unit {0}
CallPuts (PartCall id number cells) = PutOctets cells
CallPuts (VerifyCall id total t flashing) = Unit {0}
CallPuts (FinishCall id t flashing) = Unit {0}

puts-map : (puts : List (Cell × CellValue)) → PutsHold puts → PutOctets (map put_content puts)
puts-map [] all = tt
puts-map (put ∷ puts) all = (all.0, puts-map puts all.1)

call-puts : (c : Coming) (wish : Wish) (calls : List Call) → WishPuts wish → AllByRecursion CallPuts calls
    → AllByRecursion CallPuts (with_call calls (call_of c wish))
call-puts c GetWish calls own all = all
call-puts c NextWish calls own all = all
call-puts c (Direct orders) calls own all = all
call-puts c (Begin id) calls own all = (tt, all)
call-puts c (Part id number puts) calls own all = (puts-map puts.items own, all)
call-puts c (Verify id total) calls own all = (tt, all)
call-puts c (Finish id) calls own all = (tt, all)
call-puts c (Bad status index) calls own all = all

heeded-puts : (c : Coming) (o : Option Ask) → IfSome o (λ ask. WishPuts ask.wish) → AllByRecursion CallPuts c.calls
    → AllByRecursion CallPuts (heeded c o).calls
heeded-puts c None own all = all
heeded-puts c (Some ask) own all = call-puts c ask.wish c.calls own all

ask-puts : (frame community : List ℕ) (t : Tables) → AreOctets frame → IfSome (ask_of frame community t) (λ ask. WishPuts ask.wish)
ask-puts frame community t all = among (ask_of frame community t) (read_asked frame community t)
  where
    among : (r : Option Ask) → IfSome r (Asks frame community t) → IfSome r (λ ask. WishPuts ask.wish)
    among (Some ask) is = asked-puts frame community t ask all is
    among None is = tt

items-put : (community : List ℕ) (opening : History) (items : List Item) → AreOctetItems items
    → AllByRecursion CallPuts (coming_from community opening items).calls
items-put community opening [] all = tt
items-put community opening (InputTold field ∷ items) all = items-put community opening items all.1
items-put community opening (Ticked ∷ items) all = items-put community opening items all.1
items-put community opening (Came octets ∷ items) all =
    let c : Coming = coming_from community opening items in
    heeded-puts c (ask_of octets community (in_force c)) (ask-puts octets community (in_force c) all.0) (items-put community opening items all.1)

-- ---- what downloads put

puts-append : (xs ys : List (Cell × Content)) → PutOctets xs → PutOctets ys → PutOctets (xs ++ ys)
puts-append [] ys a b = b
puts-append (x ∷ xs) ys a b = (a.0, puts-append xs ys a.1 b)

record DeedsPut (past : List Deed) : Type 0 where
  content : PutOctets (content_by past)
  accepted : AllByRecursion PutOctets (accepted_by past)

after-begin : (id : ℕ) (t : Tables) (a : StageAnswer) (past : List Deed) → DeedsPut past → DeedsPut (begin_deed id t a ∷ past)
after-begin id t Staged past p = record { content = tt; accepted = p.accepted }
after-begin id t Repeated past p = record { content = p.content; accepted = p.accepted }
after-begin id t Verified past p = record { content = p.content; accepted = p.accepted }
after-begin id t Accepted past p = record { content = p.content; accepted = p.accepted }
after-begin id t WrongToken past p = record { content = p.content; accepted = p.accepted }
after-begin id t (WrongPart n) past p = record { content = p.content; accepted = p.accepted }
after-begin id t NotVerified past p = record { content = p.content; accepted = p.accepted }
after-begin id t (Refused b) past p = record { content = p.content; accepted = p.accepted }

after-part : (cells : List (Cell × Content)) (a : StageAnswer) (past : List Deed) → PutOctets cells → DeedsPut past → DeedsPut (part_deed cells a ∷ past)
after-part cells Staged past own p = record { content = puts-append (content_by past) cells p.content own; accepted = p.accepted }
after-part cells Repeated past own p = record { content = p.content; accepted = p.accepted }
after-part cells Verified past own p = record { content = p.content; accepted = p.accepted }
after-part cells Accepted past own p = record { content = p.content; accepted = p.accepted }
after-part cells WrongToken past own p = record { content = p.content; accepted = p.accepted }
after-part cells (WrongPart n) past own p = record { content = p.content; accepted = p.accepted }
after-part cells NotVerified past own p = record { content = p.content; accepted = p.accepted }
after-part cells (Refused b) past own p = record { content = p.content; accepted = p.accepted }

after-verify : (a : StageAnswer) (past : List Deed) → DeedsPut past → DeedsPut (verify_deed a ∷ past)
after-verify Staged past p = record { content = p.content; accepted = p.accepted }
after-verify Repeated past p = record { content = p.content; accepted = p.accepted }
after-verify Verified past p = record { content = p.content; accepted = p.accepted }
after-verify Accepted past p = record { content = p.content; accepted = p.accepted }
after-verify WrongToken past p = record { content = p.content; accepted = p.accepted }
after-verify (WrongPart n) past p = record { content = p.content; accepted = p.accepted }
after-verify NotVerified past p = record { content = p.content; accepted = p.accepted }
after-verify (Refused b) past p = record { content = p.content; accepted = p.accepted }

after-finish : (a : StageAnswer) (past : List Deed) → DeedsPut past → DeedsPut (finish_deed a ∷ past)
after-finish Staged past p = record { content = p.content; accepted = p.accepted }
after-finish Repeated past p = record { content = p.content; accepted = p.accepted }
after-finish Verified past p = record { content = p.content; accepted = p.accepted }
after-finish Accepted past p = record { content = p.content; accepted = (p.content, p.accepted) }
after-finish WrongToken past p = record { content = p.content; accepted = p.accepted }
after-finish (WrongPart n) past p = record { content = p.content; accepted = p.accepted }
after-finish NotVerified past p = record { content = p.content; accepted = p.accepted }
after-finish (Refused b) past p = record { content = p.content; accepted = p.accepted }

deeds-put : (calls : List Call) → AllByRecursion CallPuts calls → DeedsPut (deeds (answered calls))
deeds-put [] all = record { content = tt; accepted = tt }
deeds-put (BeginCall id t ∷ calls) all =
    after-begin id t (answer_to (answered calls) (BeginCall id t)) (deeds (answered calls)) (deeds-put calls all.1)
deeds-put (PartCall id number cells ∷ calls) all =
    after-part cells (answer_to (answered calls) (PartCall id number cells)) (deeds (answered calls)) all.0 (deeds-put calls all.1)
deeds-put (VerifyCall id total t flashing ∷ calls) all =
    after-verify (answer_to (answered calls) (VerifyCall id total t flashing)) (deeds (answered calls)) (deeds-put calls all.1)
deeds-put (FinishCall id t flashing ∷ calls) all =
    after-finish (answer_to (answered calls) (FinishCall id t flashing)) (deeds (answered calls)) (deeds-put calls all.1)

downloads-hold : (t : Tables) (contents : List (List (Cell × Content))) → EachHolds t → AllByRecursion PutOctets contents
    → EachHolds (with_downloads t contents)
downloads-hold t [] own all = own
downloads-hold t (content ∷ earlier) own all = cells-hold (with_downloads t earlier) content all.0 (downloads-hold t earlier own all.1)

-- the tables in force after a cabinet history of octets hold octets
pub cabinet_history-holds : (cabinet_history : CabinetHistory) (t : Tables) (d : Drift) → IsOpening t d cabinet_history.opening → EachHolds t → AreOctetItems cabinet_history.items
    → EachHolds (in_force (coming cabinet_history))
cabinet_history-holds cabinet_history t d opens own all =
    subst EachHolds (sym (in-force-whole cabinet_history t d opens))
    (downloads-hold t (accepted_by (deeds_of (coming cabinet_history))) own
    (deeds-put (coming cabinet_history).calls (items-put cabinet_history.community cabinet_history.opening cabinet_history.items all)).accepted)
