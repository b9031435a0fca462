-- A message that is read from the shortest text of a request has the request's kind and bindings.
use Rattle.std.proofs.Common.{◌≡◌, ◌<◌, ◌≤◌, ◌+◌, ◌∙◌, ℕ, ℤ, pos, List, [], ◌∷◌, ◌++◌, length, drop, get_or, refl, sym, ap, subst, arith, length-append, append_assoc}
use Rattle.std.specs.List.{flat_map, AllByRecursion}
use Rattle.std.proofs.Math.Seq.{drop-append_seam}
use Rattle.ber_code.specs.Fields.{AreTexts}
use Rattle.ber_code.specs.Lengths.{IsTagged, length_text, tagged_text}
use Rattle.ber_code.specs.Integers.{integer_octets, integer_text}
use Rattle.ber_code.specs.Names.{IsName, name_text}
use Rattle.ber_code.proofs.Exact.{alone_by}
use Rattle.ber_code.proofs.LengthLaws.{tagged_exact}
use Rattle.ber_code.proofs.NameLaws.{name_exact}
use Rattle.ber_code.proofs.Texts.{tagged_is}
use Rattle.snmp_msg.specs.declared.message.Pdu.{Pdu}
use Rattle.snmp_msg.specs.declared.message.Bind.{Bind}
use Rattle.snmp_msg.specs.declared.message.Message.{Message}
use Rattle.snmp_msg.specs.Values.{IsValue, IsBinding}
use Rattle.snmp_msg.specs.Messages.{tag_of, IsMessage}
use Rattle.snmp_msg.specs.Shortest.{value_text, binding_content, binding_text, ids_text, pdu_content, message_content, shortest}
use Rattle.snmp_msg.proofs.BindingLaws.{binding_exact}
use Rattle.requests.specs.Requests.{request}

-- ---- tagged texts

content-fits : (tag : ℕ) (content : List ℕ) → length content ≤ length (tagged_text tag content)
content-fits tag content =
    let e : length (tag ∷ (length_text (length content) ++ content)) ≡ 1 + length (length_text (length content) ++ content) = omega arith in
    let f : length (length_text (length content) ++ content) ≡ length (length_text (length content)) + length content = length-append (length_text (length content)) content in
    omega (arith, e, f)

cut-rest : (a b x y : List ℕ) → a ≡ b → a ++ x ≡ b ++ y → x ≡ y
cut-rest a b x y same e =
    sym (drop-append_seam a x) ∙ ap (drop (length a)) e ∙ ap (λ (n : ℕ). drop n (b ++ y)) (ap length same) ∙ drop-append_seam b y

-- two texts under one tag, before others
pub cut : (tag : ℕ) (a b x y c d : List ℕ) → IsTagged tag a c → IsTagged tag b d → a ++ x ≡ b ++ y → (a ≡ b) × (c ≡ d) × (x ≡ y)
cut tag a b x y c d is also e =
    let same = alone_by (tagged_exact tag) a b x y c d is also e in
    (same.0, same.1, cut-rest a b x y same.0 e)

-- two contents of one text
pub peel : (tag : ℕ) (text c d : List ℕ) → IsTagged tag text c → IsTagged tag text d → c ≡ d
peel tag text c d is also = (alone_by (tagged_exact tag) text text [] [] c d is also refl).1

-- ---- the message

pub record IsRequestOf (pdu : Pdu) (binds : List Bind) (m : Message) : Type 0 where
  pub tag : tag_of m.pdu ≡ tag_of pdu
  pub texts : AreTexts IsBinding (flat_map binding_text binds) m.binds.items
  pub fits : length (flat_map binding_text binds) ≤ 1472

small : length (integer_octets (pos 0)) < 4294967296
unfolding integer_octets
small = omega arith

module _ (pdu : Pdu) (community : List ℕ) (id : ℤ) (binds : List Bind) where
  abbrev own : Message
  own = request pdu community id binds

  abbrev list : List ℕ
  list = flat_map binding_text binds

  abbrev version_part : List ℕ
  version_part = tagged_text 2 (integer_octets (pos 0))

  abbrev community_part : List ℕ
  community_part = tagged_text 4 community

  abbrev id_part : List ℕ
  id_part = tagged_text 2 (integer_octets id)

  abbrev fields : List ℕ
  fields = id_part ++ (version_part ++ (version_part ++ tagged_text 48 list))

  abbrev pdu_part : List ℕ
  pdu_part = tagged_text (tag_of pdu) fields

  abbrev content : List ℕ
  content = version_part ++ (community_part ++ pdu_part)

  text-is : shortest own ≡ tagged_text 48 content
  unfolding shortest message_content pdu_content ids_text integer_text
  text-is =
      ap (λ (d : List ℕ). tagged_text 48 (version_part ++ (community_part ++ tagged_text (tag_of pdu) d)))
      (append_assoc id_part (version_part ++ version_part) (tagged_text 48 list)
      ∙ ap (λ (t : List ℕ). id_part ++ t) (append_assoc version_part version_part (tagged_text 48 list)))

  -- all parts are shorter than the text
  record Sizes : Type 0 where
    whole : length content ≤ 1472
    named : length community ≤ 1472
    inner : length fields ≤ 1472
    number : length (integer_octets id) ≤ 1472
    all : length list ≤ 1472

  sizes : length (tagged_text 48 content) ≤ 1472 → Sizes
  sizes fits =
      let c = content-fits 48 content in
      let c1 : length content ≡ length version_part + length (community_part ++ pdu_part) = length-append version_part (community_part ++ pdu_part) in
      let c2 : length (community_part ++ pdu_part) ≡ length community_part + length pdu_part = length-append community_part pdu_part in
      let k = content-fits 4 community in
      let p = content-fits (tag_of pdu) fields in
      let f1 : length fields ≡ length id_part + length (version_part ++ (version_part ++ tagged_text 48 list)) = length-append id_part (version_part ++ (version_part ++ tagged_text 48 list)) in
      let f2 : length (version_part ++ (version_part ++ tagged_text 48 list)) ≡ length version_part + length (version_part ++ tagged_text 48 list) = length-append version_part (version_part ++ tagged_text 48 list) in
      let f3 : length (version_part ++ tagged_text 48 list) ≡ length version_part + length (tagged_text 48 list) = length-append version_part (tagged_text 48 list) in
      let i = content-fits 2 (integer_octets id) in
      let l = content-fits 48 list in
      record {
        whole = omega (arith, fits, c);
        named = omega (arith, fits, c, c1, c2, k);
        inner = omega (arith, fits, c, c1, c2, p);
        number = omega (arith, fits, c, c1, c2, p, f1, i);
        all = omega (arith, fits, c, c1, c2, p, f1, f2, f3, l);
      }

  pub peeled : (m : Message) → IsMessage (shortest own) m → IsRequestOf pdu binds m
  peeled m is =
      let f = is.framed in
      let p = f.pdus in
      let fits : length (tagged_text 48 content) ≤ 1472 = subst (λ (t : List ℕ). length t ≤ 1472) text-is is.fits in
      let z : Sizes = sizes fits in
      let zero_fits : length (integer_octets (pos 0)) < 4294967296 = small in
      let whole : f.version ++ (f.community ++ f.pdu) ≡ content
      = peel 48 (tagged_text 48 content) (f.version ++ (f.community ++ f.pdu)) content
      (subst (λ (t : List ℕ). IsTagged 48 t (f.version ++ (f.community ++ f.pdu))) text-is f.whole) (tagged_is 48 content (omega (arith, z.whole))) in
      let a = cut 2 f.version version_part (f.community ++ f.pdu) (community_part ++ pdu_part) f.versions.0 (integer_octets (pos 0)) f.versions.2 (tagged_is 2 (integer_octets (pos 0)) zero_fits) whole in
      let b = cut 4 f.community community_part f.pdu pdu_part m.community.items community f.communities (tagged_is 4 community (omega (arith, z.named))) a.2 in
      let tags : tag_of m.pdu ≡ tag_of pdu = ap (λ (t : List ℕ). get_or t 0 0) (sym p.whole.2 ∙ b.2) in
      let inner : p.id ++ (p.status ++ (p.index ++ p.list)) ≡ fields
      = peel (tag_of pdu) pdu_part (p.id ++ (p.status ++ (p.index ++ p.list))) fields
      (subst (λ (t : List ℕ). IsTagged (tag_of pdu) t (p.id ++ (p.status ++ (p.index ++ p.list)))) b.2
      (subst (λ (n : ℕ). IsTagged n f.pdu (p.id ++ (p.status ++ (p.index ++ p.list)))) tags p.whole))
      (tagged_is (tag_of pdu) fields (omega (arith, z.inner))) in
      let c = cut 2 p.id id_part (p.status ++ (p.index ++ p.list)) (version_part ++ (version_part ++ tagged_text 48 list)) p.ids.0 (integer_octets id) p.ids.2 (tagged_is 2 (integer_octets id) (omega (arith, z.number))) inner in
      let d = cut 2 p.status version_part (p.index ++ p.list) (version_part ++ tagged_text 48 list) p.statuses.0 (integer_octets (pos 0)) p.statuses.2 (tagged_is 2 (integer_octets (pos 0)) zero_fits) c.2 in
      let e = cut 2 p.index version_part p.list (tagged_text 48 list) p.indices.0 (integer_octets (pos 0)) p.indices.2 (tagged_is 2 (integer_octets (pos 0)) zero_fits) d.2 in
      let last : p.bindings ≡ list
      = peel 48 (tagged_text 48 list) p.bindings list (subst (λ (t : List ℕ). IsTagged 48 t p.bindings) e.2 p.lists) (tagged_is 48 list (omega (arith, z.all))) in
      record { tag = tags; texts = subst (λ (t : List ℕ). AreTexts IsBinding t m.binds.items) last p.binds; fits = z.all }

-- ---- the bindings

binding-sizes : (b : Bind) → length (binding_content b) ≤ length (binding_text b)
unfolding binding_text
binding-sizes b = content-fits 48 (binding_content b)

tagged-binding : (b : Bind) → length (binding_text b) ≤ 1472 → IsTagged 48 (binding_text b) (binding_content b)
unfolding binding_text
tagged-binding b fits = tagged_is 48 (binding_content b) (let l : length (binding_content b) ≤ length (binding_text b) = content-fits 48 (binding_content b) in omega (arith, fits, l))

-- the name and the value of a binding have texts
pub record IsClear (b : Bind) : Type 0 where
  pub name : IsName (name_text b.name.items) b.name.items
  pub value : IsValue (value_text b.value) b.value

clear-is : (b : Bind) → IsClear b → length (binding_text b) ≤ 1472 → IsBinding (binding_text b) b
clear-is b clear fits = record {
  name = name_text b.name.items;
  value = value_text b.value;
  names = clear.name;
  values = clear.value;
  whole = tagged-binding b fits;
}

-- a text of some bindings is not empty
some-text : (first others : List ℕ) (b : Bind) → IsBinding first b → [] ≡ first ++ others → ⊥
some-text first others b is e =
    let n : 0 ≡ length (first ++ others) = ap length e in
    let m : length (first ++ others) ≡ length first + length others = length-append first others in
    let k : length first ≡ length (48 ∷ (is.whole.0 ++ (is.name ++ is.value))) = ap length is.whole.2 in
    omega (arith, n, m, k)

-- clear bindings are read as they are
pub same-binds : (bs cs : List Bind) → AllByRecursion IsClear bs → length (flat_map binding_text bs) ≤ 1472 → AreTexts IsBinding (flat_map binding_text bs) cs → cs ≡ bs
same-binds [] [] clear fits are = refl
same-binds [] (c ∷ cs) clear fits are = absurd (some-text are.0 are.1 c are.2 are.4)
same-binds (b ∷ bs) [] clear fits are =
    absurd (let sum : length (binding_text b ++ flat_map binding_text bs) ≡ length (binding_text b) + length (flat_map binding_text bs) = length-append (binding_text b) (flat_map binding_text bs) in
    let n : length (binding_text b ++ flat_map binding_text bs) ≡ 0 = ap length are in
    some-text (binding_text b) [] b (clear-is b clear.0 (omega (arith, fits, sum))) (none (binding_text b) (omega (arith, n, sum))))
  where
    none : (text : List ℕ) → length text ≡ 0 → [] ≡ text ++ []
    none [] e = refl
    none (x ∷ text) e = absurd (let n : length (x ∷ text) ≡ 0 = e in omega (arith, n))
same-binds (b ∷ bs) (c ∷ cs) clear fits are =
    let sum : length (binding_text b ++ flat_map binding_text bs) ≡ length (binding_text b) + length (flat_map binding_text bs) = length-append (binding_text b) (flat_map binding_text bs) in
    let same = alone_by binding_exact (binding_text b) are.0 (flat_map binding_text bs) are.1 b c (clear-is b clear.0 (omega (arith, fits, sum))) are.2 are.4 in
    let rest : flat_map binding_text bs ≡ are.1 = cut-rest (binding_text b) are.0 (flat_map binding_text bs) are.1 same.0 are.4 in
    let others : cs ≡ bs = same-binds bs cs clear.1 (omega (arith, fits, sum)) (subst (λ (t : List ℕ). AreTexts IsBinding t cs) (sym rest) are.3) in
    rw (sym same.1, others) refl

-- the first name is read as it is
pub first-name : (b : Bind) (bs : List Bind) (c : Bind) (cs : List Bind) → IsName (name_text b.name.items) b.name.items → length (flat_map binding_text (b ∷ bs)) ≤ 1472
    → AreTexts IsBinding (flat_map binding_text (b ∷ bs)) (c ∷ cs) → c.name.items ≡ b.name.items
first-name b bs c cs named fits are =
    let sum : length (binding_text b ++ flat_map binding_text bs) ≡ length (binding_text b) + length (flat_map binding_text bs) = length-append (binding_text b) (flat_map binding_text bs) in
    let is = are.2 in
    let a = cut 48 (binding_text b) are.0 (flat_map binding_text bs) are.1 (binding_content b) (is.name ++ is.value) (tagged-binding b (omega (arith, fits, sum))) is.whole are.4 in
    sym (alone_by name_exact (name_text b.name.items) is.name (value_text b.value) is.value b.name.items c.name.items named is.names a.1).1

-- the text of a request that fits into a frame is tagged
pub tagged-request : (pdu : Pdu) (community : List ℕ) (id : ℤ) (binds : List Bind) → length (shortest (request pdu community id binds)) ≤ 1472
    → (c : List ℕ) × IsTagged 48 (shortest (request pdu community id binds)) c
tagged-request pdu community id binds fits =
    let is = text-is pdu community id binds in
    let short : length (tagged_text 48 (content pdu community id binds)) ≤ 1472 = subst (λ (t : List ℕ). length t ≤ 1472) is fits in
    let l = content-fits 48 (content pdu community id binds) in
    (content pdu community id binds, subst (λ (t : List ℕ). IsTagged 48 t (content pdu community id binds)) (sym is) (tagged_is 48 (content pdu community id binds) (omega (arith, short, l))))
