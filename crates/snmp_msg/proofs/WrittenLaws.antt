-- The shortest text of a message is a text of it.
use Rattle.std.proofs.Common.{◌≡◌, ℕ, ◌+◌, ◌<◌, ◌≤◌, List, [], ◌∷◌, ◌++◌, length, take, get_or, refl, sym, ap, subst, ◌∙◌, append_assoc, arith}
use Rattle.std.specs.Prelude.{pos}
use Rattle.std.specs.List.{flat_map}
use Rattle.std.proofs.lemmas.List.{append-nil, take_more, length-append}
use Rattle.arrayvec.specs.ArrayVec.{ArrayVec}
use Rattle.ber_code.specs.Fields.{AreTexts}
use Rattle.ber_code.specs.Lengths.{IsTagged, length_text, tagged_text}
use Rattle.ber_code.specs.Integers.{IsInteger, integer_text}
use Rattle.ber_code.specs.Names.{IsName, name_text}
use Rattle.ber_code.proofs.Texts.{tagged_is}
use Rattle.ber_code.proofs.Pieces.{texts_more}
use Rattle.snmp_msg.specs.declared.message.Value.TheVariants.{Octets, Null}
use Rattle.snmp_msg.specs.declared.message.Bind.{Bind}
use Rattle.snmp_msg.specs.declared.message.Message.{Message}
use Rattle.snmp_msg.specs.Values.{IsValue, IsBinding}
use Rattle.snmp_msg.specs.Messages.{tag_of, IsPdu, IsFramed}
use Rattle.snmp_msg.specs.Shortest.{value_text, binding_content, binding_text, ids_text, pdu_content, message_content, shortest}

pub octets_are : (octets : ArrayVec ℕ) → length octets.items ≤ 64 → IsValue (value_text (Octets octets)) (Octets octets)
unfolding value_text
octets_are octets short = (tagged_is 4 octets.items (omega arith), short)

pub null_is : IsValue (value_text Null) Null
unfolding value_text
null_is = tagged_is 5 [] (omega arith)

pub binding_is : (bind : Bind) → IsName (name_text bind.name.items) bind.name.items → IsValue (value_text bind.value) bind.value → length (binding_content bind) ≤ 314
    → IsBinding (binding_text bind) bind
unfolding binding_text
binding_is bind names values small = record {
  name = name_text bind.name.items;
  value = value_text bind.value;
  names = names;
  values = values;
  whole = tagged_is 48 (binding_content bind) (omega arith);
}

-- texts of values, and the text of one more
texts_push : {A : Type 0} (IsText : List ℕ → A → Type 0) (octets text : List ℕ) (values : List A) (value : A) → AreTexts IsText octets values → IsText text value
    → AreTexts IsText (octets ++ text) (values ++ value ∷ [])
texts_push IsText octets text [] value are is = rw are (text, [], is, refl, sym (append-nil text))
texts_push IsText octets text (v ∷ vs) value are is =
    (are.0, are.1 ++ text, are.2, texts_push IsText are.1 text vs value are.3 is, ap (λ (t : List ℕ). t ++ text) are.4 ∙ append_assoc are.0 are.1 text)

pub bindings_more : (binds : List Bind) (i : ℕ) (d : Bind) → i < length binds → AreTexts IsBinding (flat_map binding_text (take i binds)) (take i binds)
    → IsBinding (binding_text (get_or binds i d)) (get_or binds i d) → AreTexts IsBinding (flat_map binding_text (take (i + 1) binds)) (take (i + 1) binds)
bindings_more binds i d below are is =
    rw (texts_more binding_text binds i d below, take_more binds i d below)
    (texts_push IsBinding (flat_map binding_text (take i binds)) (binding_text (get_or binds i d)) (take i binds) (get_or binds i d) are is)

pub pdu_is : (m : Message) → IsInteger (integer_text m.id) m.id → IsInteger (integer_text m.status) m.status → IsInteger (integer_text m.index) m.index
    → AreTexts IsBinding (flat_map binding_text m.binds.items) m.binds.items → length m.binds.items ≤ 32 → length (flat_map binding_text m.binds.items) ≤ 10240 → length (pdu_content m) ≤ 10264
    → IsPdu (tagged_text (tag_of m.pdu) (pdu_content m)) m
unfolding pdu_content ids_text
pdu_is m ids statuses indices binds few small content =
    let list = tagged_text 48 (flat_map binding_text m.binds.items) in
    let id = integer_text m.id in
    let status = integer_text m.status in
    let index = integer_text m.index in
    let grouped : (id ++ (status ++ index)) ++ list ≡ id ++ (status ++ (index ++ list)) =
    append_assoc id (status ++ index) list ∙ ap (λ (t : List ℕ). id ++ t) (append_assoc status index list) in
    record {
      id = id;
      status = status;
      index = index;
      bindings = flat_map binding_text m.binds.items;
      list = list;
      ids = ids;
      statuses = statuses;
      indices = indices;
      binds = binds;
      few = few;
      lists = tagged_is 48 (flat_map binding_text m.binds.items) (omega arith);
      whole = subst (λ (c : List ℕ). IsTagged (tag_of m.pdu) (tagged_text (tag_of m.pdu) (pdu_content m)) c) grouped (tagged_is (tag_of m.pdu) (pdu_content m) (omega arith));
    }

pub message_is : (m : Message) → IsInteger (integer_text (pos 0)) (pos 0) → length m.community.items ≤ 32 → IsPdu (tagged_text (tag_of m.pdu) (pdu_content m)) m
    → length (message_content m) ≤ 10320 → IsFramed (shortest m) m
unfolding shortest message_content
message_is m versions short pdus content = record {
  version = integer_text (pos 0);
  community = tagged_text 4 m.community.items;
  pdu = tagged_text (tag_of m.pdu) (pdu_content m);
  versions = versions;
  communities = tagged_is 4 m.community.items (omega arith);
  short = short;
  pdus = pdus;
  whole = tagged_is 48 (message_content m) (omega arith);
}

-- the size of a binding's text, from that of its content
pub length_of_binding : (bind : Bind) (size content : ℕ) → content ≡ length (binding_content bind) → size ≡ 1 + length (length_text content) + content → size ≡ length (binding_text bind)
unfolding binding_text
length_of_binding bind size content is e =
    let parts = length-append (length_text (length (binding_content bind))) (binding_content bind) in
    let same = ap (λ (n : ℕ). length (length_text n)) is in
    omega (arith, parts, same, is, e)
