-- What reading a frame gives is what it asks.
use Rattle.std.proofs.Common.{◌≡◌, ℕ, Bool, true, false, List, Option, Some, None, refl, sym, ap, ◌∙◌}
use Rattle.std.specs.Prelude.{IfSome}
use Rattle.std.specs.Str.{bytes_eq}
use Rattle.std.proofs.lemmas.Slice.Eq.{bytes_eq-Decides}
use Rattle.ber_code.specs.Reading.{◌>>=◌}
use Rattle.sig_tables.specs.declared.tables.Tables.{Tables}
use Rattle.snmp_msg.specs.declared.message.Pdu.{Pdu}
use Rattle.snmp_msg.specs.declared.message.Pdu.TheVariants.{Get, Next, Response, Set}
use Rattle.snmp_msg.specs.declared.message.Message.{Message}
use Rattle.snmp_msg.specs.Messages.{IsMessage}
use Rattle.snmp_msg.specs.Reading.{message_of}
use Rattle.snmp_msg.proofs.MessageLaws.{is_found, message_again}
use Rattle.agent.specs.declared.ask.Wish.{Wish}
use Rattle.agent.specs.declared.ask.Ask.{Ask}
use Rattle.agent.specs.Asks.{wish_of, with_wish, ask_in, ask_of, Asks, AsksNothing}

-- ---- each ask is read

pub ours : (community : List ℕ) (t : Tables) (m : Message) → m.community.items ≡ community
    → ask_in community t m ≡ with_wish m (wish_of t m.pdu m.binds.items)
ours community t m same = rw ((bytes_eq-Decides m.community.items community).1 same) refl

pub theirs : (community : List ℕ) (t : Tables) (m : Message) → (m.community.items ≡ community → ⊥) → ask_in community t m ≡ None
theirs community t m other = among (bytes_eq m.community.items community) refl
  where
    among : (test : Bool) → bytes_eq m.community.items community ≡ test → ask_in community t m ≡ None
    among true e = absurd (other ((bytes_eq-Decides m.community.items community).0 e))
    among false e = rw e refl

pub asked_read : (frame community : List ℕ) (t : Tables) (ask : Ask) → Asks frame community t ask → ask_of frame community t ≡ Some ask
asked_read frame community t ask is =
    let wished : with_wish ask.message (wish_of t ask.message.pdu ask.message.binds.items) ≡ Some ask = rw is.wish refl in
    rw (message_again frame ask.message is.message) (ours community t ask.message is.of_community ∙ wished)

-- ---- what is read is asked

wish_found : (frame community : List ℕ) (t : Tables) (m : Message) → IsMessage frame m → m.community.items ≡ community
    → (wish : Option Wish) → wish_of t m.pdu m.binds.items ≡ wish
    → IfSome (with_wish m wish) (Asks frame community t)
wish_found frame community t m is same (Some wish) e = record { message = is; of_community = same; wish = e }
wish_found frame community t m is same None e = tt

message_asks : (frame community : List ℕ) (t : Tables) (m : Message) → IsMessage frame m → IfSome (ask_in community t m) (Asks frame community t)
message_asks frame community t m is = among (bytes_eq m.community.items community) refl
  where
    among : (test : Bool) → bytes_eq m.community.items community ≡ test → IfSome (ask_in community t m) (Asks frame community t)
    among true e =
        let same = (bytes_eq-Decides m.community.items community).0 e in
        rw (ours community t m same) (wish_found frame community t m is same (wish_of t m.pdu m.binds.items) refl)
    among false e = rw e tt

pub read_asked : (frame community : List ℕ) (t : Tables) → IfSome (ask_of frame community t) (Asks frame community t)
read_asked frame community t = among (message_of frame) (is_found frame (message_of frame) refl)
  where
    among : (r : Option Message) → IfSome r (λ m. IsMessage frame m) → IfSome (r >>= ask_in community t) (Asks frame community t)
    among (Some m) is = message_asks frame community t m is
    among None is = tt

-- ---- nothing is asked

response_wishes : (t : Tables) (m : Message) → m.pdu ≡ Response → wish_of t m.pdu m.binds.items ≡ None
response_wishes t m e = rw e refl

pub nothing_asked : (frame community : List ℕ) (t : Tables) → AsksNothing frame community → ask_of frame community t ≡ None
nothing_asked frame community t silent = among (message_of frame) (is_found frame (message_of frame) refl)
  where
    ask : (m : Message) → IsMessage frame m → (test : Bool) → bytes_eq m.community.items community ≡ test → ask_in community t m ≡ None
    ask m is true e =
        let same = (bytes_eq-Decides m.community.items community).0 e in
        ours community t m same ∙ rw (response_wishes t m (silent m is same)) refl
    ask m is false e = rw e refl

    among : (r : Option Message) → IfSome r (λ m. IsMessage frame m) → (r >>= ask_in community t) ≡ None
    among (Some m) is = ask m is (bytes_eq m.community.items community) refl
    among None is = refl

wishes_something : (t : Tables) (m : Message) (pdu : Pdu) → with_wish m (wish_of t pdu m.binds.items) ≡ None → pdu ≡ Response
wishes_something t m Get e = absurd cc
wishes_something t m Next e = absurd cc
wishes_something t m Response e = refl
wishes_something t m Set e = absurd cc

pub nothing_else : (frame community : List ℕ) (t : Tables) → ask_of frame community t ≡ None → AsksNothing frame community
nothing_else frame community t silent = λ m is same.
    let found : (message_of frame >>= ask_in community t) ≡ ask_in community t m = ap (λ (r : Option Message). r >>= ask_in community t) (message_again frame m is) in
    wishes_something t m m.pdu (sym (ours community t m same) ∙ sym found ∙ silent)

-- what nobody asks isn't read
pub none_read : (frame community : List ℕ) (t : Tables) → ((ask : Ask) → Asks frame community t ask → ⊥) → ask_of frame community t ≡ None
none_read frame community t never = among (ask_of frame community t) (read_asked frame community t)
  where
    among : (r : Option Ask) → IfSome r (Asks frame community t) → r ≡ None
    among (Some ask) is = absurd (never ask is)
    among None is = refl
