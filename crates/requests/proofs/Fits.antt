-- A request of few bindings fits into the 1,472 octets of a frame: a binding of an instance takes at most 50 octets.
use Rattle.std.proofs.Common.{◌≡◌, ℕ, ◌+◌, ◌-◌, ◌*◌, ◌<◌, ◌≤◌, ◌==◌, Bool, true, false, if◌then◌else◌, List, [], ◌∷◌, ◌++◌, length, refl, arith}
use Rattle.std.specs.Prelude.{ℤ, pos}
use Rattle.std.specs.List.{flat_map, AllByRecursion}
use Rattle.std.proofs.lemmas.Bool.Decides.{nat_tests}
use Rattle.std.proofs.lemmas.List.{length-append}
use Rattle.sig_tables.specs.declared.cells.Cell.{Cell}
use Rattle.sig_tables.specs.declared.cells.Cell.TheVariants.{Phase, Sequence, Split, Pattern, Preempt, Unit as UnitCell}
use Rattle.sig_tables.specs.Cells.{Content, Number, Octets, IsCell, IsShort}
use Rattle.ber_code.specs.Lengths.{length_text, tagged_text}
use Rattle.ber_code.specs.Integers.{integer_octets, integer_text}
use Rattle.ber_code.specs.Names.{arc_text, name_octets, name_text}
use Rattle.snmp_msg.specs.declared.message.Pdu.{Pdu}
use Rattle.snmp_msg.specs.declared.message.Bind.{Bind}
use Rattle.snmp_msg.specs.Messages.{tag_of}
use Rattle.snmp_msg.specs.Shortest.{value_text, binding_text, binding_content, ids_text, pdu_content, message_content, shortest}
use Rattle.oid_map.specs.Objects.{asc, own}
use Rattle.oid_map.specs.Names.{arcs_of, cell_arcs}
use Rattle.requests.specs.Requests.{value_of, request, bound, number_at, asked_for}
use Rattle.oid_map.specs.declared.names.Name.{Name}
use Rattle.oid_map.specs.declared.names.Name.TheVariants.{Cell as CellName}

length_few : (n : ℕ) → length (length_text n) ≤ 5
unfolding length_text
length_few n = grind (arith, nat_tests)

tagged_few : (tag : ℕ) (content : List ℕ) → length (tagged_text tag content) ≤ 6 + length content
tagged_few tag content = omega (arith, length_few (length content), length-append (length_text (length content)) content)

octets_few : (n : ℤ) → length (integer_octets n) ≤ 4
unfolding integer_octets
octets_few n = grind (arith, nat_tests)

integer_few : (n : ℤ) → length (integer_text n) ≤ 10
unfolding integer_text
integer_few n = omega (arith, octets_few n, tagged_few 2 (integer_octets n))

-- arcs below 128 take an octet each
arc_one : (n : ℕ) → n < 128 → length (arc_text n) ≡ 1
unfolding arc_text
arc_one n low = grind (arith, nat_tests)

small_arcs : (arcs : List ℕ) → AllByRecursion (λ n. n < 128) arcs → length (flat_map arc_text arcs) ≡ length arcs
small_arcs [] all = refl
small_arcs (n ∷ arcs) all = omega (arith, small_arcs arcs all.1, arc_one n all.0, length-append (arc_text n) (flat_map arc_text arcs))

asc_name : (arcs : List ℕ) → length (name_octets (asc ++ arcs)) ≡ 10 + length (flat_map arc_text arcs)
unfolding arc_text
asc_name arcs = omega arith

own_name : (arcs : List ℕ) → length (name_octets (own ++ arcs)) ≡ 9 + length (flat_map arc_text arcs)
unfolding arc_text
own_name arcs = omega arith

name_few : (arcs : List ℕ) → length (name_octets arcs) ≤ 16 → length (name_text arcs) ≤ 22
unfolding name_text
name_few arcs few = omega (arith, few, tagged_few 6 (name_octets arcs))

cell_name_few : (cell : Cell) → IsCell cell → length (name_text (cell_arcs cell)) ≤ 22
cell_name_few (Phase p c) is = name_few _ (omega (arith, asc_name (1 ∷ 2 ∷ 1 ∷ c ∷ p ∷ []), small_arcs (1 ∷ 2 ∷ 1 ∷ c ∷ p ∷ []) (omega arith, (omega arith, (omega arith, (omega (arith, is.3), (omega (arith, is.1), tt)))))))
cell_name_few (Sequence s r) is = name_few _ (omega (arith, asc_name (7 ∷ 3 ∷ 1 ∷ 3 ∷ s ∷ r ∷ []), small_arcs (7 ∷ 3 ∷ 1 ∷ 3 ∷ s ∷ r ∷ []) (omega arith, (omega arith, (omega arith, (omega arith, (omega (arith, is.1), (omega (arith, is.3), tt))))))))
cell_name_few (Split s p c) is = name_few _ (omega (arith, asc_name (4 ∷ 9 ∷ 1 ∷ c ∷ s ∷ p ∷ []), small_arcs (4 ∷ 9 ∷ 1 ∷ c ∷ s ∷ p ∷ []) (omega arith, (omega arith, (omega arith, (omega (arith, is.5), (omega (arith, is.1), (omega (arith, is.3), tt))))))))
cell_name_few (Pattern n c) is = name_few _ (omega (arith, asc_name (4 ∷ 7 ∷ 1 ∷ c ∷ n ∷ []), small_arcs (4 ∷ 7 ∷ 1 ∷ c ∷ n ∷ []) (omega arith, (omega arith, (omega arith, (omega (arith, is.3), (omega (arith, is.1), tt)))))))
cell_name_few (Preempt i c) is = name_few _ (omega (arith, asc_name (6 ∷ 2 ∷ 1 ∷ c ∷ i ∷ []), small_arcs (6 ∷ 2 ∷ 1 ∷ c ∷ i ∷ []) (omega arith, (omega arith, (omega arith, (omega (arith, is.3), (omega (arith, is.1), tt)))))))
cell_name_few (UnitCell n) is = by_mode (n == 1)
  where
    by_mode : (b : Bool) → length (name_text (if b then asc ++ 4 ∷ 2 ∷ 0 ∷ [] else own ++ 3 ∷ (n - 1) ∷ 0 ∷ [])) ≤ 22
    by_mode true = name_few _ (omega (arith, asc_name (4 ∷ 2 ∷ 0 ∷ []), small_arcs (4 ∷ 2 ∷ 0 ∷ []) (omega arith, (omega arith, (omega arith, tt)))))
    by_mode false = name_few _ (omega (arith, own_name (3 ∷ (n - 1) ∷ 0 ∷ []), small_arcs (3 ∷ (n - 1) ∷ 0 ∷ []) (omega arith, (omega (arith, is.1), (omega arith, tt)))))

-- a value takes at most 22 octets
value_few : (content : Content) → IsShort content → length (value_text (value_of content)) ≤ 22
unfolding value_text
value_few (Number n) short = omega (arith, integer_few (pos n))
value_few (Octets octets) short = omega (arith, short, tagged_few 4 octets)

bind_few : (bind : Bind) → length (name_text bind.name.items) ≤ 22 → length (value_text bind.value) ≤ 22 → length (binding_text bind) ≤ 50
unfolding binding_text
bind_few bind name value =
    omega (arith, name, value, tagged_few 48 (binding_content bind), length-append (name_text bind.name.items) (value_text bind.value))

-- the bindings of a request, each of at most 50 octets
abbrev pub AreFew : List Bind → Type 0
AreFew binds = AllByRecursion (λ bind. length (binding_text bind) ≤ 50) binds

binds_few : (binds : List Bind) → AreFew binds → length (flat_map binding_text binds) ≤ 50 * length binds
binds_few [] all = omega arith
binds_few (bind ∷ binds) all = omega (arith, all.0, binds_few binds all.1, length-append (binding_text bind) (flat_map binding_text binds))

-- a request of at most 26 such bindings
pub request_few : (pdu : Pdu) (community : List ℕ) (id : ℤ) (binds : List Bind) → length community ≤ 32 → AreFew binds → length binds ≤ 26
    → length (shortest (request pdu community id binds)) ≤ 1472
unfolding shortest message_content pdu_content ids_text
request_few pdu community id binds short all few =
    let list = tagged_text 48 (flat_map binding_text binds) in
    let ids = ids_text id (pos 0) (pos 0) in
    let body = tagged_text (tag_of pdu) (ids ++ list) in
    let named = tagged_text 4 community in
    omega (
      arith,
      short,
      few,
      binds_few binds all,
      tagged_few 48 (flat_map binding_text binds),
      integer_few id,
      integer_few (pos 0),
      length-append (integer_text id) (integer_text (pos 0) ++ integer_text (pos 0)),
      length-append (integer_text (pos 0)) (integer_text (pos 0)),
      length-append ids list,
      tagged_few (tag_of pdu) (ids ++ list),
      tagged_few 4 community,
      length-append (integer_text (pos 0)) (named ++ body),
      length-append named body,
      tagged_few 48 (integer_text (pos 0) ++ (named ++ body)),
    )

-- an instance of NTCIP's objects, or of our own, with few small arcs
pub asc_few : (arcs : List ℕ) → AllByRecursion (λ n. n < 128) arcs → length arcs ≤ 6 → length (name_text (asc ++ arcs)) ≤ 22
asc_few arcs low few = name_few _ (omega (arith, few, asc_name arcs, small_arcs arcs low))

pub own_few : (arcs : List ℕ) → AllByRecursion (λ n. n < 128) arcs → length arcs ≤ 6 → length (name_text (own ++ arcs)) ≤ 22
own_few arcs low few = name_few _ (omega (arith, few, own_name arcs, small_arcs arcs low))

-- a binding with a number, one that is asked for, and one with what is in a cell
pub number_few : (name : Name) (n : ℕ) → length (name_text (arcs_of name)) ≤ 22 → length (binding_text (number_at name n)) ≤ 50
unfolding value_text
number_few name n few = bind_few (number_at name n) few (omega (arith, integer_few (pos n)))

pub asked_few : (name : Name) → length (name_text (arcs_of name)) ≤ 22 → length (binding_text (asked_for name)) ≤ 50
unfolding value_text
asked_few name few = bind_few (asked_for name) few (omega (arith, tagged_few 5 []))

pub cell_few : (cell : Cell) (content : Content) → IsCell cell → IsShort content → length (binding_text (bound (CellName cell) (value_of content))) ≤ 50
cell_few cell content is short = bind_few (bound (CellName cell) (value_of content)) (cell_name_few cell is) (value_few content short)
