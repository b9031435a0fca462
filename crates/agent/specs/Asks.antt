-- What a message asks of a cabinet with these tables (RFC 1157, 4.1). `frame` are the octets of the message.
use Rattle.std.specs.Prelude.{◌≡◌, ℕ, ◌≤◌, All, ◌==◌, if◌then◌else◌, List, [], ◌∷◌, Option, Some, None, Result, Ok, Err}
use Rattle.std.specs.Str.{bytes_eq}
use Rattle.ber_code.specs.Reading.{◌>>=◌}
use Rattle.sig_tables.specs.declared.tables.Tables.{Tables}
use Rattle.snmp_msg.specs.declared.message.Pdu.{Pdu}
use Rattle.snmp_msg.specs.declared.message.Pdu.TheVariants.{Get, Next, Response, Set}
use Rattle.snmp_msg.specs.declared.message.Bind.{Bind}
use Rattle.snmp_msg.specs.declared.message.Message.{Message}
use Rattle.snmp_msg.specs.Messages.{IsMessage}
use Rattle.snmp_msg.specs.Shortest.{AreOctets}
use Rattle.snmp_msg.specs.Reading.{message_of}
use Rattle.oid_map.specs.Reading.{name_at}
use Rattle.agent.specs.declared.ask.Order.{Order}
use Rattle.agent.specs.declared.ask.Wish.{Wish}
use Rattle.agent.specs.declared.ask.Wish.TheVariants.{Get as GetWish, Next as NextWish, Direct, Begin, Part, Verify, Finish, Bad}
use Rattle.agent.specs.declared.ask.Ask.{Ask}
use Rattle.agent.specs.declared.bindings.Fault.{Fault}
use Rattle.agent.specs.Bindings.{each_gives}
use Rattle.agent.specs.Orders.{order_of, IsFit}
use Rattle.agent.specs.Downloads.{id_in, begin_wish, step_wish, download_object, IsId, IsPut}

-- what a Set that gives orders asks: its orders, or its first fault
abbrev pub direct_wish : Result (List Order) Fault → Wish
direct_wish (Ok orders) = Direct (record { items = orders })
direct_wish (Err fault) = Bad fault.status fault.index

-- what a Set asks. Its first name decides whether it begins a download, continues a download, or gives orders
abbrev pub set_wish : Tables → List Bind → Wish
set_wish t [] = direct_wish (Ok [])
set_wish t (first ∷ others) =
    if download_object (name_at first.name.items) == 2 then begin_wish (id_in first.value) others
    else if download_object (name_at first.name.items) == 3 then step_wish (id_in first.value) others
    else direct_wish (each_gives (order_of t) 1 (first ∷ others))

-- what a message of this kind with these bindings asks; a Response asks nothing
abbrev pub wish_of : Tables → Pdu → List Bind → Option Wish
wish_of t Get binds = Some GetWish
wish_of t Next binds = Some NextWish
wish_of t Response binds = None
wish_of t Set binds = Some (set_wish t binds)

-- the cabinet can carry out what is asked: valid orders, a valid id of a download, a part with a valid number and
-- valid cells, a total of at most 60,000
abbrev pub CanBeCarriedOut : Wish → Type 0
CanBeCarriedOut (Direct orders) = All IsFit orders.items
CanBeCarriedOut (Begin id) = IsId id
CanBeCarriedOut (Part id number puts) = IsId id × (1 ≤ number) × (number ≤ 60000) × All IsPut puts.items
CanBeCarriedOut (Verify id total) = IsId id × (total ≤ 60000)
CanBeCarriedOut (Finish id) = IsId id
CanBeCarriedOut _ = Unit {0}

-- the octets are this message, the community is the cabinet's, and the message asks this under the tables in force
pub record Asks (frame community : List ℕ) (t : Tables) (ask : Ask) : Type 0 where
  pub message : IsMessage frame ask.message
  pub of_community : ask.message.community.items ≡ community
  pub wish : wish_of t ask.message.pdu ask.message.binds.items ≡ Some ask.wish

-- a message of some community asks this under some tables
abbrev pub IsAsked : Ask → Type 0
IsAsked ask = (frame : List ℕ) × (community : List ℕ) × (t : Tables) × AreOctets frame × Asks frame community t ask

-- a message with what it asks, if it asks anything
abbrev pub with_wish : Message → Option Wish → Option Ask
with_wish m (Some wish) = Some (record { message = m; wish = wish })
with_wish m None = None

-- what a message asks, if it has this community
abbrev pub ask_in : List ℕ → Tables → Message → Option Ask
ask_in community t m =
    if bytes_eq m.community.items community then with_wish m (wish_of t m.pdu m.binds.items) else None

-- what the octets of a message ask, if they ask anything
abbrev pub ask_of : List ℕ → List ℕ → Tables → Option Ask
ask_of frame community t = message_of frame >>= ask_in community t

-- the octets ask nothing: they aren't a message of this community, or they are a Response
abbrev pub AsksNothing : List ℕ → List ℕ → Type 0
AsksNothing frame community = (m : Message) → IsMessage frame m → m.community.items ≡ community → m.pdu ≡ Response
