-- Reading is exact for values and bindings.
use Rattle.std.proofs.Common.{◌≡◌, ℕ, false, cond, eqb, ltb, List, [], ◌∷◌, ◌++◌, length, Option, Some, None, refl, sym, ap, subst, ◌∙◌, inl, inr}
use Rattle.std.proofs.lemmas.Bool.{ltb-false, eqb-true, le-ltb}
use Rattle.std.proofs.lemmas.List.{append-nil, nil_from_length}
use Rattle.std.proofs.lemmas.Option.{some_pair_parts}
use Rattle.ber_code.specs.Fields.{Begins}
use Rattle.ber_code.specs.Lengths.{IsTagged}
use Rattle.ber_code.specs.Reading.{◌>>=◌, tagged_at, integer_at, name_at}
use Rattle.ber_code.proofs.Exact.{Exact, bind_some, chosen, not_refused, let_through}
use Rattle.ber_code.proofs.LengthLaws.{tagged_exact}
use Rattle.ber_code.proofs.IntegerLaws.{integer_exact}
use Rattle.ber_code.proofs.NameLaws.{name_exact}
use Rattle.snmp_msg.specs.declared.message.Value.{Value}
use Rattle.snmp_msg.specs.declared.message.Value.TheVariants.{Int, Octets, Null, Name}
use Rattle.snmp_msg.specs.declared.message.Bind.{Bind}
use Rattle.snmp_msg.specs.Values.{IsValue, IsBinding}
use Rattle.snmp_msg.specs.Reading.{octets_at, null_at, value_at, binding_at}

-- a text with nothing after it
pub alone : {A : Type 0} {IsText : List ℕ → A → Type 0} {read : List ℕ → Option (A × List ℕ)} → Exact IsText read
    → (text : List ℕ) (value : A) → IsText text value → read text ≡ Some (value, [])
alone {read = read} exact text value is = ap read (sym (append-nil text)) ∙ exact.again text [] value is

octets_found : (bytes rest : List ℕ) (v : Value) → octets_at bytes ≡ Some (v, rest) → Begins IsValue bytes v rest
unfolding octets_at
octets_found bytes rest v e =
    let a = bind_some (tagged_at 4 bytes) (λ c. cond (ltb 64 (length c.0)) None (Some (Octets (record { items = c.0 }), c.1))) (v, rest) e in
    let b = not_refused (ltb 64 (length a.0.0)) (Some (Octets (record { items = a.0.0 }), a.0.1)) (v, rest) a.2 in
    let text = (tagged_exact 4).found bytes a.0.1 a.0.0 a.1 in
    let same = some_pair_parts (Octets (record { items = a.0.0 })) v a.0.1 rest b.1 in
    (text.0, subst (λ (w : Value). IsValue text.0 w) same.0 (text.1, ltb-false 64 (length a.0.0) b.0), text.2 ∙ ap (λ (t : List ℕ). text.0 ++ t) same.1)

null_found : (bytes rest : List ℕ) (v : Value) → null_at bytes ≡ Some (v, rest) → Begins IsValue bytes v rest
unfolding null_at
null_found bytes rest v e =
    let a = bind_some (tagged_at 5 bytes) (λ c. cond (eqb (length c.0) 0) (Some (Null, c.1)) None) (v, rest) e in
    let b = let_through (eqb (length a.0.0) 0) (Some (Null, a.0.1)) (v, rest) a.2 in
    let text = (tagged_exact 5).found bytes a.0.1 a.0.0 a.1 in
    let nothing : a.0.0 ≡ [] = nil_from_length a.0.0 (eqb-true (length a.0.0) 0 b.0) in
    let same = some_pair_parts Null v a.0.1 rest b.1 in
    (text.0, subst (λ (w : Value). IsValue text.0 w) same.0 (subst (λ (c : List ℕ). IsTagged 5 text.0 c) nothing text.1), text.2 ∙ ap (λ (t : List ℕ). text.0 ++ t) same.1)

value_found : (bytes rest : List ℕ) (v : Value) → value_at bytes ≡ Some (v, rest) → Begins IsValue bytes v rest
unfolding value_at
value_found [] rest v e = absurd cc
value_found (tag ∷ more) rest v e =
    let bytes = tag ∷ more in
    let numbers : Option (Value × List ℕ) = integer_at bytes >>= λ n. Some (Int n.0, n.1) in
    let names : Option (Value × List ℕ) = name_at bytes >>= λ n. Some (Name (record { items = n.0 }), n.1) in
    let from_six = cond (eqb tag 6) names None in
    let from_five = cond (eqb tag 5) (null_at bytes) from_six in
    let from_four = cond (eqb tag 4) (octets_at bytes) from_five in
    elim (chosen (eqb tag 2) numbers from_four (Some (v, rest)) e) [
      | inl number ↦
          let a = bind_some (integer_at bytes) (λ n. Some (Int n.0, n.1)) (v, rest) number.1 in
          let text = integer_exact.found bytes a.0.1 a.0.0 a.1 in
          let same = some_pair_parts (Int a.0.0) v a.0.1 rest a.2 in
          (text.0, subst (λ (w : Value). IsValue text.0 w) same.0 text.1, text.2 ∙ ap (λ (t : List ℕ). text.0 ++ t) same.1)
      | inr four ↦ elim (chosen (eqb tag 4) (octets_at bytes) from_five (Some (v, rest)) four.1) [
        | inl octets ↦ octets_found bytes rest v octets.1
        | inr five ↦ elim (chosen (eqb tag 5) (null_at bytes) from_six (Some (v, rest)) five.1) [
          | inl null ↦ null_found bytes rest v null.1
          | inr six ↦
              let b = let_through (eqb tag 6) names (v, rest) six.1 in
              let a = bind_some (name_at bytes) (λ n. Some (Name (record { items = n.0 }), n.1)) (v, rest) b.1 in
              let text = name_exact.found bytes a.0.1 a.0.0 a.1 in
              let same = some_pair_parts (Name (record { items = a.0.0 })) v a.0.1 rest a.2 in
              (text.0, subst (λ (w : Value). IsValue text.0 w) same.0 text.1, text.2 ∙ ap (λ (t : List ℕ). text.0 ++ t) same.1)
        ]
      ]
    ]

value_again : (text rest : List ℕ) (v : Value) → IsValue text v → value_at (text ++ rest) ≡ Some (v, rest)
unfolding value_at octets_at null_at
value_again text rest (Int n) is =
    let head = is.2.2 in
    let read : integer_at (2 ∷ ((is.2.0 ++ is.0) ++ rest)) ≡ Some (n, rest) = ap (λ (t : List ℕ). integer_at (t ++ rest)) (sym head) ∙ integer_exact.again text rest n is in
    ap (λ (t : List ℕ). value_at (t ++ rest)) head ∙ rw read refl
value_again text rest (Octets octets) is =
    let head = is.0.2 in
    let read : tagged_at 4 (4 ∷ ((is.0.0 ++ octets.items) ++ rest)) ≡ Some (octets.items, rest) =
    ap (λ (t : List ℕ). tagged_at 4 (t ++ rest)) (sym head) ∙ (tagged_exact 4).again text rest octets.items is.0 in
    let short : ltb 64 (length octets.items) ≡ false = le-ltb 64 (length octets.items) is.1 in
    ap (λ (t : List ℕ). value_at (t ++ rest)) head ∙ rw (read, short) refl
value_again text rest Null is =
    let head = is.2 in
    let read : tagged_at 5 (5 ∷ ((is.0 ++ []) ++ rest)) ≡ Some ([], rest) = ap (λ (t : List ℕ). tagged_at 5 (t ++ rest)) (sym head) ∙ (tagged_exact 5).again text rest [] is in
    ap (λ (t : List ℕ). value_at (t ++ rest)) head ∙ rw read refl
value_again text rest (Name name) is =
    let head = is.2.2 in
    let read : name_at (6 ∷ ((is.2.0 ++ is.0) ++ rest)) ≡ Some (name.items, rest) = ap (λ (t : List ℕ). name_at (t ++ rest)) (sym head) ∙ name_exact.again text rest name.items is in
    ap (λ (t : List ℕ). value_at (t ++ rest)) head ∙ rw read refl

pub value_exact : Exact IsValue value_at
value_exact = record { found = value_found; again = value_again }

abbrev made : List ℕ → Value → Bind
made name value = record { name = record { items = name }; value = value }

binding_found : (bytes rest : List ℕ) (bind : Bind) → binding_at bytes ≡ Some (bind, rest) → Begins IsBinding bytes bind rest
unfolding binding_at
binding_found bytes rest bind e =
    let a = bind_some (tagged_at 48 bytes) (λ c. name_at c.0 >>= λ name. value_at name.1 >>= λ value. cond (eqb (length value.1) 0) (Some (made name.0 value.0, c.1)) None) (bind, rest) e in
    let b = bind_some (name_at a.0.0) (λ name. value_at name.1 >>= λ value. cond (eqb (length value.1) 0) (Some (made name.0 value.0, a.0.1)) None) (bind, rest) a.2 in
    let c = bind_some (value_at b.0.1) (λ value. cond (eqb (length value.1) 0) (Some (made b.0.0 value.0, a.0.1)) None) (bind, rest) b.2 in
    let d = let_through (eqb (length c.0.1) 0) (Some (made b.0.0 c.0.0, a.0.1)) (bind, rest) c.2 in
    let text = (tagged_exact 48).found bytes a.0.1 a.0.0 a.1 in
    let name = name_exact.found a.0.0 b.0.1 b.0.0 b.1 in
    let value = value_found b.0.1 c.0.1 c.0.0 c.1 in
    let nothing : c.0.1 ≡ [] = nil_from_length c.0.1 (eqb-true (length c.0.1) 0 d.0) in
    let after_name : b.0.1 ≡ value.0 = value.2 ∙ ap (λ (t : List ℕ). value.0 ++ t) nothing ∙ append-nil value.0 in
    let content : a.0.0 ≡ name.0 ++ value.0 = name.2 ∙ ap (λ (t : List ℕ). name.0 ++ t) after_name in
    let same = some_pair_parts (made b.0.0 c.0.0) bind a.0.1 rest d.1 in
    let is : IsBinding text.0 (made b.0.0 c.0.0) = record {
      name = name.0;
      value = value.0;
      names = name.1;
      values = value.1;
      whole = subst (λ (c : List ℕ). IsTagged 48 text.0 c) content text.1;
    } in
    (text.0, subst (λ (b : Bind). IsBinding text.0 b) same.0 is, text.2 ∙ ap (λ (t : List ℕ). text.0 ++ t) same.1)

binding_again : (text rest : List ℕ) (bind : Bind) → IsBinding text bind → binding_at (text ++ rest) ≡ Some (bind, rest)
unfolding binding_at
binding_again text rest bind is =
    rw ((tagged_exact 48).again text rest (is.name ++ is.value) is.whole, name_exact.again is.name is.value bind.name.items is.names, alone value_exact is.value bind.value is.values) refl

pub binding_exact : Exact IsBinding binding_at
binding_exact = record { found = binding_found; again = binding_again }

pub no_binding : binding_at [] ≡ None
unfolding binding_at tagged_at
no_binding = refl
