-- Reading is exact for PDUs and messages.
use Rattle.std.proofs.Common.{◌≡◌, ℕ, ◌≤◌, Bool, true, cond, eqb, leb, List, [], ◌∷◌, ◌++◌, length, Option, Some, None, refl, sym, ap, subst, ◌∙◌}
use Rattle.std.specs.Prelude.{ℤ, pos, ◌&&◌, IfSome, IfNone}
use Rattle.std.specs.Ordering.{int_eq}
use Rattle.std.proofs.lemmas.Bool.{leb-true, eqb-true, le-leb, and_parts, and_from}
use Rattle.std.proofs.lemmas.Bool.Decides.{Decides-int_eq}
use Rattle.std.proofs.lemmas.List.{append-nil, nil_from_length}
use Rattle.std.proofs.lemmas.Option.{none-some, same_Some, some_pair_parts}
use Rattle.ber_code.specs.Fields.{Begins, AreTexts, StandsAlone}
use Rattle.ber_code.specs.Lengths.{IsTagged, IsOctets}
use Rattle.ber_code.specs.Integers.{IsInteger}
use Rattle.ber_code.specs.Reading.{◌>>=◌, tagged_at, integer_at, all_at}
use Rattle.ber_code.proofs.Exact.{Exact, bind_some, let_through, all_found, all_again, alone_by}
use Rattle.ber_code.proofs.LengthLaws.{tagged_exact}
use Rattle.ber_code.proofs.IntegerLaws.{integer_exact}
use Rattle.snmp_msg.specs.declared.message.Bind.{Bind}
use Rattle.snmp_msg.specs.declared.message.Pdu.{Pdu}
use Rattle.snmp_msg.specs.declared.message.Pdu.TheVariants.{Get, Next, Response, Set}
use Rattle.snmp_msg.specs.declared.message.Message.{Message}
use Rattle.std.specs.List.{AllByRecursion}
use Rattle.std.proofs.lemmas.List.Elements.{All-from_recursion}
use Rattle.ber_code.proofs.NameLaws.{name_writable}
use Rattle.snmp_msg.specs.declared.message.Value.{Value}
use Rattle.snmp_msg.specs.declared.message.Value.TheVariants.{Int, Octets, Null, Name}
use Rattle.snmp_msg.specs.Shortest.{IsWritableValue, IsWritableBind, IsWritableMessage}
use Rattle.snmp_msg.specs.Values.{IsValue, IsBinding}
use Rattle.snmp_msg.specs.Messages.{tag_of, IsPdu, IsFramed, IsMessage}
use Rattle.snmp_msg.specs.Reading.{binding_at, kind_of, fields_at, pdu_at, content_of, framed_at, message_of}
use Rattle.snmp_msg.proofs.BindingLaws.{alone, binding_exact, no_binding}

abbrev made : List ℕ → Pdu → ℤ → ℤ → ℤ → List Bind → Message
made community pdu id status index binds = record { community = record { items = community }; pdu = pdu; id = id; status = status; index = index; binds = record { items = binds } }

-- a PDU of a message with this community is there, and then the rest
record PduStands (community bytes rest : List ℕ) (m : Message) : Type 0 where
  text : List ℕ
  is : IsPdu text m
  known : m.community.items ≡ community
  parts : bytes ≡ text ++ rest

stands_at : (community bytes : List ℕ) (made_m m : Message) (after rest : List ℕ) → made_m ≡ m → after ≡ rest → PduStands community bytes after made_m → PduStands community bytes rest m
stands_at community bytes made_m m after rest e f p =
    let q = subst (λ (x : Message). PduStands community bytes after x) e p in
    subst (λ (t : List ℕ). PduStands community bytes t m) f q

fields_found : (community : List ℕ) (pdu : Pdu) (bytes rest : List ℕ) (m : Message) → fields_at community pdu bytes ≡ Some (m, rest) → PduStands community bytes rest m
unfolding fields_at
fields_found community pdu bytes rest m e =
    let a = bind_some (tagged_at (tag_of pdu) bytes)
    (λ c. integer_at c.0 >>= λ id. integer_at id.1 >>= λ status. integer_at status.1 >>= λ index. tagged_at 48 index.1 >>= λ list. all_at binding_at 32 list.0 >>= λ binds. cond (eqb (length list.1) 0) (Some (made community pdu id.0 status.0 index.0 binds, c.1)) None) (m, rest) e in
    let content = a.0.0 in
    let after = a.0.1 in
    let b = bind_some (integer_at content)
    (λ id. integer_at id.1 >>= λ status. integer_at status.1 >>= λ index. tagged_at 48 index.1 >>= λ list. all_at binding_at 32 list.0 >>= λ binds. cond (eqb (length list.1) 0) (Some (made community pdu id.0 status.0 index.0 binds, after)) None) (m, rest) a.2 in
    let c = bind_some (integer_at b.0.1)
    (λ status. integer_at status.1 >>= λ index. tagged_at 48 index.1 >>= λ list. all_at binding_at 32 list.0 >>= λ binds. cond
    (eqb (length list.1) 0) (Some (made community pdu b.0.0 status.0 index.0 binds, after)) None) (m, rest) b.2 in
    let d = bind_some (integer_at c.0.1)
    (λ index. tagged_at 48 index.1 >>= λ list. all_at binding_at 32 list.0 >>= λ binds. cond (eqb (length list.1) 0)
    (Some (made community pdu b.0.0 c.0.0 index.0 binds, after)) None) (m, rest) c.2 in
    let f = bind_some (tagged_at 48 d.0.1)
    (λ list. all_at binding_at 32 list.0 >>= λ binds. cond (eqb (length list.1) 0) (Some (made community pdu b.0.0 c.0.0 d.0.0 binds, after)) None) (m, rest) d.2 in
    let g = bind_some (all_at binding_at 32 f.0.0) (λ binds. cond (eqb (length f.0.1) 0) (Some (made community pdu b.0.0 c.0.0 d.0.0 binds, after)) None) (m, rest) f.2 in
    let h = let_through (eqb (length f.0.1) 0) (Some (made community pdu b.0.0 c.0.0 d.0.0 g.0, after)) (m, rest) g.2 in
    let same = some_pair_parts (made community pdu b.0.0 c.0.0 d.0.0 g.0) m after rest h.1 in
    let text = (tagged_exact (tag_of pdu)).found bytes after content a.1 in
    let id = integer_exact.found content b.0.1 b.0.0 b.1 in
    let status = integer_exact.found b.0.1 c.0.1 c.0.0 c.1 in
    let index = integer_exact.found c.0.1 d.0.1 d.0.0 d.1 in
    let list = (tagged_exact 48).found d.0.1 f.0.1 f.0.0 f.1 in
    let binds = all_found binding_exact 32 f.0.0 g.0 g.1 in
    let nothing : f.0.1 ≡ [] = nil_from_length f.0.1 (eqb-true (length f.0.1) 0 h.0) in
    let at_list : d.0.1 ≡ list.0 = list.2 ∙ ap (λ (t : List ℕ). list.0 ++ t) nothing ∙ append-nil list.0 in
    let at_index : c.0.1 ≡ index.0 ++ list.0 = index.2 ∙ ap (λ (t : List ℕ). index.0 ++ t) at_list in
    let at_status : b.0.1 ≡ status.0 ++ (index.0 ++ list.0) = status.2 ∙ ap (λ (t : List ℕ). status.0 ++ t) at_index in
    let all : content ≡ id.0 ++ (status.0 ++ (index.0 ++ list.0)) = id.2 ∙ ap (λ (t : List ℕ). id.0 ++ t) at_status in
    let is : IsPdu text.0 (made community pdu b.0.0 c.0.0 d.0.0 g.0) = record {
      id = id.0;
      status = status.0;
      index = index.0;
      bindings = f.0.0;
      list = list.0;
      ids = id.1;
      statuses = status.1;
      indices = index.1;
      binds = binds.0;
      few = binds.1;
      lists = list.1;
      whole = subst (λ (t : List ℕ). IsTagged (tag_of pdu) text.0 t) all text.1;
    } in
    stands_at community bytes (made community pdu b.0.0 c.0.0 d.0.0 g.0) m after rest same.0 same.1 (record { text = text.0; is = is; known = refl; parts = text.2 })

fields_again : (text rest : List ℕ) (m : Message) → IsPdu text m → fields_at m.community.items m.pdu (text ++ rest) ≡ Some (m, rest)
unfolding fields_at
fields_again text rest m is =
    rw (
      (tagged_exact (tag_of m.pdu)).again text rest (is.id ++ (is.status ++ (is.index ++ is.list))) is.whole,
      integer_exact.again is.id (is.status ++ (is.index ++ is.list)) m.id is.ids,
      integer_exact.again is.status (is.index ++ is.list) m.status is.statuses,
      integer_exact.again is.index is.list m.index is.indices,
      alone (tagged_exact 48) is.list is.bindings is.lists,
      all_again binding_exact no_binding 32 is.bindings m.binds.items is.binds is.few,
    ) refl

kind_again : (pdu : Pdu) → kind_of (tag_of pdu) ≡ Some pdu
unfolding kind_of
kind_again Get = refl
kind_again Next = refl
kind_again Response = refl
kind_again Set = refl

pdu_found : (community bytes rest : List ℕ) (m : Message) → pdu_at community bytes ≡ Some (m, rest) → PduStands community bytes rest m
unfolding pdu_at
pdu_found community [] rest m e = absurd cc
pdu_found community (tag ∷ more) rest m e =
    let a = bind_some (kind_of tag) (λ pdu. fields_at community pdu (tag ∷ more)) (m, rest) e in
    fields_found community a.0 (tag ∷ more) rest m a.2

pdu_again : (text rest : List ℕ) (m : Message) → IsPdu text m → pdu_at m.community.items (text ++ rest) ≡ Some (m, rest)
unfolding pdu_at
pdu_again text rest m is =
    let head = is.whole.2 in
    let read = ap (λ (t : List ℕ). fields_at m.community.items m.pdu (t ++ rest)) (sym head) ∙ fields_again text rest m is in
    ap (λ (t : List ℕ). pdu_at m.community.items (t ++ rest)) head ∙ rw (kind_again m.pdu) read

-- what is under a message's tag
record MessageStands (content : List ℕ) (m : Message) : Type 0 where
  version : List ℕ
  community : List ℕ
  pdu : List ℕ
  versions : IsInteger version (pos 0)
  communities : IsOctets community m.community.items
  short : length m.community.items ≤ 32
  pdus : IsPdu pdu m
  parts : content ≡ version ++ (community ++ pdu)

abbrev is_whole : ℤ → List ℕ → List ℕ → Bool
is_whole version community rest = int_eq version (pos 0) && leb (length community) 32 && eqb (length rest) 0

content_found : (content : List ℕ) (m : Message) → content_of content ≡ Some m → MessageStands content m
unfolding content_of
content_found content m e =
    let a = bind_some (integer_at content)
    (λ version. tagged_at 4 version.1 >>= λ community. pdu_at community.0 community.1 >>= λ found. cond (is_whole version.0 community.0 found.1) (Some found.0) None) m e in
    let b = bind_some (tagged_at 4 a.0.1) (λ community. pdu_at community.0 community.1 >>= λ found. cond (is_whole a.0.0 community.0 found.1) (Some found.0) None) m a.2 in
    let c = bind_some (pdu_at b.0.0 b.0.1) (λ found. cond (is_whole a.0.0 b.0.0 found.1) (Some found.0) None) m b.2 in
    let d = let_through (is_whole a.0.0 b.0.0 c.0.1) (Some c.0.0) m c.2 in
    let outer = and_parts (int_eq a.0.0 (pos 0) && leb (length b.0.0) 32) (eqb (length c.0.1) 0) d.0 in
    let inner = and_parts (int_eq a.0.0 (pos 0)) (leb (length b.0.0) 32) outer.0 in
    let version = integer_exact.found content a.0.1 a.0.0 a.1 in
    let community = (tagged_exact 4).found a.0.1 b.0.1 b.0.0 b.1 in
    let pdu = pdu_found b.0.0 b.0.1 c.0.1 c.0.0 c.1 in
    let nothing : c.0.1 ≡ [] = nil_from_length c.0.1 (eqb-true (length c.0.1) 0 outer.1) in
    let zero : a.0.0 ≡ pos 0 = (Decides-int_eq a.0.0 (pos 0)).0 inner.0 in
    let at_pdu : b.0.1 ≡ pdu.text = pdu.parts ∙ ap (λ (t : List ℕ). pdu.text ++ t) nothing ∙ append-nil pdu.text in
    let at_community : a.0.1 ≡ community.0 ++ pdu.text = community.2 ∙ ap (λ (t : List ℕ). community.0 ++ t) at_pdu in
    let is : MessageStands content c.0.0 = record {
      version = version.0;
      community = community.0;
      pdu = pdu.text;
      versions = subst (λ (n : ℤ). IsInteger version.0 n) zero version.1;
      communities = subst (λ (t : List ℕ). IsOctets community.0 t) (sym pdu.known) community.1;
      short = subst (λ (t : List ℕ). length t ≤ 32) (sym pdu.known) (leb-true (length b.0.0) 32 inner.1);
      pdus = pdu.is;
      parts = version.2 ∙ ap (λ (t : List ℕ). version.0 ++ t) at_community;
    } in
    let same : c.0.0 ≡ m = same_Some c.0.0 m d.1 in
    subst (λ (x : Message). MessageStands content x) same is

content_again : (version community pdu : List ℕ) (m : Message) → IsInteger version (pos 0) → IsOctets community m.community.items → length m.community.items ≤ 32 → IsPdu pdu m
    → content_of (version ++ (community ++ pdu)) ≡ Some m
unfolding content_of
content_again version community pdu m versions communities short pdus =
    let whole : is_whole (pos 0) m.community.items [] ≡ true =
    and_from (int_eq (pos 0) (pos 0) && leb (length m.community.items) 32) true (and_from true (leb (length m.community.items) 32) refl (le-leb (length m.community.items) 32 short)) refl in
    let last : pdu_at m.community.items pdu ≡ Some (m, []) = ap (pdu_at m.community.items) (sym (append-nil pdu)) ∙ pdu_again pdu [] m pdus in
    rw (integer_exact.again version (community ++ pdu) (pos 0) versions, (tagged_exact 4).again community pdu m.community.items communities, last, whole) refl

framed_found : (bytes rest : List ℕ) (m : Message) → framed_at bytes ≡ Some (m, rest) → Begins IsFramed bytes m rest
unfolding framed_at
framed_found bytes rest m e =
    let a = bind_some (tagged_at 48 bytes) (λ c. content_of c.0 >>= λ found. Some (found, c.1)) (m, rest) e in
    let b = bind_some (content_of a.0.0) (λ found. Some (found, a.0.1)) (m, rest) a.2 in
    let text = (tagged_exact 48).found bytes a.0.1 a.0.0 a.1 in
    let stands = content_found a.0.0 b.0 b.1 in
    let same = some_pair_parts b.0 m a.0.1 rest b.2 in
    let is : IsFramed text.0 b.0 = record {
      version = stands.version;
      community = stands.community;
      pdu = stands.pdu;
      versions = stands.versions;
      communities = stands.communities;
      short = stands.short;
      pdus = stands.pdus;
      whole = subst (λ (t : List ℕ). IsTagged 48 text.0 t) stands.parts text.1;
    } in
    (text.0, subst (λ (x : Message). IsFramed text.0 x) same.0 is, text.2 ∙ ap (λ (t : List ℕ). text.0 ++ t) same.1)

framed_again : (text rest : List ℕ) (m : Message) → IsFramed text m → framed_at (text ++ rest) ≡ Some (m, rest)
unfolding framed_at
framed_again text rest m is =
    rw (
      (tagged_exact 48).again text rest (is.version ++ (is.community ++ is.pdu)) is.whole,
      content_again is.version is.community is.pdu m is.versions is.communities is.short is.pdus,
    ) refl

pub framed_exact : Exact IsFramed framed_at
framed_exact = record { found = framed_found; again = framed_again }

message_found : (bytes : List ℕ) (m : Message) → message_of bytes ≡ Some m → IsMessage bytes m
unfolding message_of
message_found bytes m e =
    let a = bind_some (framed_at bytes) (λ found. cond (leb (length bytes) 1472 && eqb (length found.1) 0) (Some found.0) None) m e in
    let b = let_through (leb (length bytes) 1472 && eqb (length a.0.1) 0) (Some a.0.0) m a.2 in
    let parts = and_parts (leb (length bytes) 1472) (eqb (length a.0.1) 0) b.0 in
    let text = framed_found bytes a.0.1 a.0.0 a.1 in
    let nothing : a.0.1 ≡ [] = nil_from_length a.0.1 (eqb-true (length a.0.1) 0 parts.1) in
    let all : text.0 ≡ bytes = sym (text.2 ∙ ap (λ (t : List ℕ). text.0 ++ t) nothing ∙ append-nil text.0) in
    let is = subst (λ (t : List ℕ). IsFramed t a.0.0) all text.1 in
    record { framed = subst (λ (x : Message). IsFramed bytes x) (same_Some a.0.0 m b.1) is; fits = leb-true (length bytes) 1472 parts.0 }

pub message_again : (bytes : List ℕ) (m : Message) → IsMessage bytes m → message_of bytes ≡ Some m
unfolding message_of
message_again bytes m is =
    let fits : (leb (length bytes) 1472 && true) ≡ true = and_from (leb (length bytes) 1472) true (le-leb (length bytes) 1472 is.fits) refl in
    rw (alone framed_exact bytes m is.framed, fits) refl

pub is_found : (bytes : List ℕ) (r : Option Message) → r ≡ message_of bytes → IfSome r (λ m. IsMessage bytes m)
is_found bytes (Some m) e = message_found bytes m (sym e)
is_found bytes None e = tt

pub is_none : (bytes : List ℕ) (r : Option Message) → r ≡ message_of bytes → IfNone r ((m : Message) → IsMessage bytes m → ⊥)
is_none bytes (Some m) e = tt
is_none bytes None e = λ m is. none-some m (e ∙ message_again bytes m is)

pub messages_alone : StandsAlone IsMessage
messages_alone text other x y a b is is' e = alone_by framed_exact text other x y a b is.framed is'.framed e

value_writable : (text : List ℕ) (v : Value) → IsValue text v → IsWritableValue v
value_writable text (Int n) is = tt
value_writable text (Octets octets) is = tt
value_writable text Null is = tt
value_writable text (Name name) is = name_writable text name.items is

bindings_writable : (octets : List ℕ) (binds : List Bind) → AreTexts IsBinding octets binds → AllByRecursion IsWritableBind binds
bindings_writable octets [] are = tt
bindings_writable octets (bind ∷ binds) are =
    let b = are.2 in
    (record { name = name_writable b.name bind.name.items b.names; value = value_writable b.value bind.value b.values }, bindings_writable are.1 binds are.3)

-- what is a message can be written
pub message_writable : (text : List ℕ) (m : Message) → IsMessage text m → IsWritableMessage m
message_writable text m is =
    let pdu = is.framed.pdus in
    All-from_recursion IsWritableBind m.binds.items (bindings_writable pdu.bindings m.binds.items pdu.binds)
