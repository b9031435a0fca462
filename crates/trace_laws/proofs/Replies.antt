-- The reply to a frame of octets is the octets of a frame, where the tables in force hold octets.
use Rattle.std.proofs.Common.{◌≡◌, ℕ, ◌<◌, ◌≤◌, ◌∷◌, [], inl, inr, Bool, true, false, nat_le, if◌then◌else◌, List, length, Option, Some, None, Result, Ok, Err, refl, sym, subst, arith}
use Rattle.std.specs.Prelude.{pos, IfOk, IfErr, IfSome}
use Rattle.std.specs.List.{AllByRecursion}
use Rattle.std.proofs.lemmas.Bool.{leb-true}
use Rattle.ber_code.specs.Reading.{◌>>=◌}
use Rattle.sig_types.specs.declared.notes.StageAnswer.{StageAnswer}
use Rattle.sig_types.specs.declared.notes.StageAnswer.TheVariants.{Staged, Repeated, Verified, Accepted, WrongToken, WrongPart, NotVerified, Refused}
use Rattle.sig_tables.specs.Cells.{Content, Number, Octets as OctetsContent, value_at}
use Rattle.snmp_msg.specs.declared.message.Value.{Value}
use Rattle.snmp_msg.specs.declared.message.Value.TheVariants.{Int}
use Rattle.snmp_msg.specs.declared.message.Bind.{Bind}
use Rattle.snmp_msg.specs.declared.message.Message.{Message}
use Rattle.snmp_msg.specs.Shortest.{shortest, AreOctets}
use Rattle.oid_map.specs.declared.names.Name.{Name}
use Rattle.oid_map.specs.declared.names.Name.TheVariants.{Cell as CellName, Index, Group, PatternStatus, PatternControl, Txn, Clock, Counter, Target, ModeCode, Request, Cancel, RequestState}
use Rattle.oid_map.specs.Names.{IsReadableInstance}
use Rattle.oid_map.specs.Objects.{readable, next_of}
use Rattle.oid_map.specs.Order.{IsAmong, is_before}
use Rattle.oid_map.specs.Reading.{name_at}
use Rattle.oid_map.proofs.Least.{found_among}
use Rattle.oid_map.proofs.Table.{readable_named}
use Rattle.agent.specs.declared.ask.Wish.{Wish}
use Rattle.agent.specs.declared.ask.Wish.TheVariants.{Get, Next, Direct, Begin, Part, Verify, Finish, Bad}
use Rattle.agent.specs.declared.ask.Ask.{Ask}
use Rattle.agent.specs.declared.bindings.Fault.{Fault}
use Rattle.agent.specs.declared.reply.Reach.{Reach}
use Rattle.agent.specs.declared.reply.Reach.TheVariants.{Named, Following}
use Rattle.agent.specs.Seen.{Seen}
use Rattle.agent.specs.Values.{content_value, number_of, value_of, value_named}
use Rattle.agent.specs.Bindings.{each_gives, IsSmall}
use Rattle.agent.specs.Replies.{with_value, instance_at, given, response, repeated, within_frame, with_values, told, reply}
use Rattle.agent.specs.Asks.{Asks, IsAsked, ask_of}
use Rattle.agent.proofs.Asked.{asked_fits, bad_small}
use Rattle.agent.proofs.Gathered.{fault_is_small}
use Rattle.agent.proofs.Readings.{read_asked}
use Rattle.agent.proofs.Rooms.{repeated_fits}
use Rattle.cabinet_history.specs.CabinetHistory.{CabinetHistory}
use Rattle.cabinet_history.specs.Coming.{Coming, in_force, coming, outcome}
use Rattle.cabinet_history.specs.CabinetAnswers.{seen_in, replied, reply_to}
use Rattle.runnable.specs.Octets.{HoldsOctets}
use Rattle.trace_laws.specs.Messages.{IsFrame, IsShortName, IsOctetValue, IsOctetBind, IsOctetMessage}
use Rattle.trace_laws.specs.Tables.{EachHolds}
use Rattle.trace_laws.proofs.OctetTexts.{shortest-frame}
use Rattle.trace_laws.proofs.Read.{message-read}
use Rattle.trace_laws.proofs.OctetCabinetHistories.{each-given}
use Rattle.trace_laws.proofs.Named.{name-short}

-- ---- values

content-octets : (k : Content) → HoldsOctets k → IsOctetValue (content_value k)
content-octets (Number n) own = tt
content-octets (OctetsContent octets) own = own

number-octets : (o : Option ℕ) → IfSome (o >>= λ n. Some (Int (pos n))) IsOctetValue
number-octets None = tt
number-octets (Some n) = tt

value-octets : (s : Seen) (name : Name) → EachHolds s.tables → IfSome (value_of s name) IsOctetValue
value-octets s (CellName cell) own = content-octets (value_at s.tables cell) (own cell)
value-octets s (Index table column row sub) own = tt
value-octets s (Group column group) own = tt
value-octets s PatternStatus own = tt
value-octets s PatternControl own = tt
value-octets s (Txn number) own = number-octets (number_of s (Txn number))
value-octets s Clock own = tt
value-octets s Counter own = tt
value-octets s Target own = tt
value-octets s ModeCode own = tt
value-octets s Request own = tt
value-octets s Cancel own = tt
value-octets s (RequestState number) own = tt

named-octets : (s : Seen) (arcs : List ℕ) → EachHolds s.tables → IfSome (value_named s arcs) IsOctetValue
named-octets s arcs own = among (name_at arcs)
  where
    among : (o : Option Name) → IfSome (o >>= λ name. value_of s name) IsOctetValue
    among (Some name) = value-octets s name own
    among None = tt

-- ---- instances

valued-octets : (arcs : List ℕ) (o : Option Value) → IsShortName arcs → IfSome o IsOctetValue → IfOk (with_value arcs o) IsOctetBind
valued-octets arcs (Some value) short own = record { name = short; value = own }
valued-octets arcs None short own = tt

-- what holds of each holds of one of them
of-one : {A : Type 0} (P : A → Type 0) (xs : List A) → AllByRecursion P xs → (x : A) → IsAmong x xs → P x
of-one P [] all x among = absurd among
of-one P (y ∷ ys) all x (inl same) = subst P (sym same) all.0
of-one P (y ∷ ys) all x (inr later) = of-one P ys all.1 x later

readable-short : (arcs : List ℕ) → IsAmong arcs readable → IsShortName arcs
readable-short arcs among =
    let instance = of-one IsReadableInstance readable readable_named arcs among in
    subst IsShortName (sym instance.3) (name-short instance.0 instance.1)

next-octets : (s : Seen) (arcs : List ℕ) → EachHolds s.tables → IfOk (instance_at s (next_of arcs)) IsOctetBind
next-octets s arcs own = among (next_of arcs) (found_among (is_before arcs) readable)
  where
    among : (o : Option (List ℕ)) → IfSome o (λ following. IsAmong following readable) → IfOk (instance_at s o) IsOctetBind
    among (Some following) is = valued-octets following (value_named s following) (readable-short following is) (named-octets s following own)
    among None is = tt

given-octets : (reach : Reach) (s : Seen) (bind : Bind) → EachHolds s.tables → IsOctetBind bind → IfOk (given reach s bind) IsOctetBind
given-octets Named s bind own is = valued-octets bind.name.items (value_named s bind.name.items) is.name (named-octets s bind.name.items own)
given-octets Following s bind own is = next-octets s bind.name.items own

with-low : (arcs : List ℕ) (o : Option Value) → IfErr (with_value arcs o) (λ status. status < 128)
with-low arcs (Some value) = tt
with-low arcs None = omega arith

at-low : (s : Seen) (o : Option (List ℕ)) → IfErr (instance_at s o) (λ status. status < 128)
at-low s (Some arcs) = with-low arcs (value_named s arcs)
at-low s None = omega arith

given-low : (reach : Reach) (s : Seen) (bind : Bind) → IfErr (given reach s bind) (λ status. status < 128)
given-low Named s bind = with-low bind.name.items (value_named s bind.name.items)
given-low Following s bind = at-low s (next_of bind.name.items)

-- ---- responses

repeated-frame : (m : Message) (status index : ℕ) → IsOctetMessage m → length (shortest m) ≤ 1472 → status < 128 → index < 128
    → IsFrame (shortest (repeated m status index))
repeated-frame m status index is fits low few =
    shortest-frame (repeated m status index) (record { community = is.community; binds = is.binds })
    (omega (arith, fits, repeated_fits m status index low few))

within-octets : (m good : Message) → IsOctetMessage m → length (shortest m) ≤ 1472 → IsOctetMessage good → IsFrame (shortest (within_frame m good))
within-octets m good is fits own = split (nat_le (length (shortest good)) 1472) refl
  where
    split : (b : Bool) → nat_le (length (shortest good)) 1472 ≡ b → IsFrame (shortest (if b then good else repeated m 1 0))
    split true e = shortest-frame good own (leb-true (length (shortest good)) 1472 e)
    split false e = repeated-frame m 1 0 is fits (omega arith) (omega arith)

values-frame : (m : Message) (r : Result (List Bind) Fault) → IsOctetMessage m → length (shortest m) ≤ 1472 → IfOk r (AllByRecursion IsOctetBind) → IfErr r IsSmall
    → IsFrame (shortest (with_values m r))
values-frame m (Ok binds) is fits own small = within-octets m (response m 0 0 binds) is fits (record { community = is.community; binds = own })
values-frame m (Err fault) is fits own small = repeated-frame m fault.status fault.index is fits small.0 small.1

told-frame : (m : Message) (o : Option StageAnswer) → IsOctetMessage m → length (shortest m) ≤ 1472 → IsFrame (shortest (told m o))
told-frame m None is fits = repeated-frame m 0 0 is fits (omega arith) (omega arith)
told-frame m (Some Staged) is fits = repeated-frame m 0 0 is fits (omega arith) (omega arith)
told-frame m (Some Repeated) is fits = repeated-frame m 0 0 is fits (omega arith) (omega arith)
told-frame m (Some Verified) is fits = repeated-frame m 0 0 is fits (omega arith) (omega arith)
told-frame m (Some Accepted) is fits = repeated-frame m 0 0 is fits (omega arith) (omega arith)
told-frame m (Some WrongToken) is fits = repeated-frame m 3 1 is fits (omega arith) (omega arith)
told-frame m (Some (WrongPart due)) is fits = repeated-frame m 3 2 is fits (omega arith) (omega arith)
told-frame m (Some NotVerified) is fits = repeated-frame m 5 2 is fits (omega arith) (omega arith)
told-frame m (Some (Refused broken)) is fits = repeated-frame m 5 2 is fits (omega arith) (omega arith)

reached-frame : (reach : Reach) (s : Seen) (m : Message) → EachHolds s.tables → IsOctetMessage m → length m.binds.items ≤ 32 → length (shortest m) ≤ 1472
    → IsFrame (shortest (with_values m (each_gives (given reach s) 1 m.binds.items)))
reached-frame reach s m own is few fits =
    values-frame m (each_gives (given reach s) 1 m.binds.items) is fits
    (each-given (given reach s) IsOctetBind (λ bind k. given-octets reach s bind own k) 1 m.binds.items is.binds)
    (fault_is_small (given reach s) (given-low reach s) m.binds.items 1 (omega (arith, few)))

wish-frame : (s : Seen) (m : Message) (wish : Wish) (o : Option StageAnswer) → EachHolds s.tables → IsOctetMessage m → length m.binds.items ≤ 32
    → length (shortest m) ≤ 1472 → ((status index : ℕ) → wish ≡ Bad status index → IsSmall (record { status = status; index = index }))
    → IsFrame (shortest (reply s m wish o))
wish-frame s m Get o own is few fits bad = reached-frame Named s m own is few fits
wish-frame s m Next o own is few fits bad = reached-frame Following s m own is few fits
wish-frame s m (Bad status index) o own is few fits bad =
    let small = bad status index refl in
    repeated-frame m status index is fits small.0 small.1
wish-frame s m (Direct orders) o own is few fits bad = told-frame m o is fits
wish-frame s m (Begin id) o own is few fits bad = told-frame m o is fits
wish-frame s m (Part id number puts) o own is few fits bad = told-frame m o is fits
wish-frame s m (Verify id total) o own is few fits bad = told-frame m o is fits
wish-frame s m (Finish id) o own is few fits bad = told-frame m o is fits

-- the reply to a frame
pub reply-frame : (cabinet_history : CabinetHistory) (octets : List ℕ) → EachHolds (in_force (coming cabinet_history)) → AreOctets octets → IfSome (reply_to cabinet_history octets) IsFrame
reply-frame cabinet_history octets own all = among (ask_of octets cabinet_history.community (in_force c)) (read_asked octets cabinet_history.community (in_force c))
  where
    c : Coming
    c = coming cabinet_history

    among : (o : Option Ask) → IfSome o (Asks octets cabinet_history.community (in_force c)) → IfSome (replied c o) IsFrame
    among (Some ask) is =
        let asked : IsAsked ask = (octets, cabinet_history.community, in_force c, all, is) in
        wish-frame (seen_in c) ask.message ask.wish (outcome c ask.wish) own (message-read octets ask.message all is.message).0
        is.message.framed.pdus.few (asked_fits ask asked) (λ status index e. bad_small ask status index asked e)
    among None is = tt
