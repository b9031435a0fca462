-- Reading is exact for arcs and names.
use Rattle.std.proofs.Common.{◌≡◌, ◌≢◌, ℕ, ◌+◌, ◌-◌, ◌*◌, ◌%◌, ◌<◌, ◌≤◌, true, false, cond, eqb, ltb, leb, List, [], ◌∷◌, ◌++◌, Some, None, refl, sym, ap, subst, ◌∙◌, arith, inl, inr, ◌⊎◌}
use Rattle.std.specs.Prelude.{fold}
use Rattle.std.proofs.lemmas.Bool.{cases_lt, ltb-true, ltb-false, leb-false, eqb-false, lt-ltb, le-ltb, lt-leb, ne_eqb}
use Rattle.std.proofs.lemmas.Option.{some_pair_parts}
use Rattle.ber_code.specs.Fields.{Begins}
use Rattle.ber_code.specs.Names.{RunsOn, IsTight, IsArc, AreFirstArcs, AreNameContents, IsName, IsWritable}
use Rattle.ber_code.specs.Reading.{◌>>=◌, tagged_at, arc_from, arc_at, all_at, with_later, root_of, arcs_of, name_at}
use Rattle.ber_code.proofs.Exact.{Exact, bind_some, chosen, not_refused, let_through, all_found, all_again}
use Rattle.ber_code.proofs.LengthLaws.{tagged_exact}

-- a number so far, with the low seven bits of one octet more
abbrev joined : ℕ → ℕ → ℕ
joined n octet = n * 128 + octet % 128

-- the number that octets write after a number so far
abbrev after : ℕ → List ℕ → ℕ
after n octets = fold joined n octets

-- what follows a number so far
record Finishes (so_far : ℕ) (bytes : List ℕ) (arc : ℕ) (rest : List ℕ) : Type 0 where
  text : List ℕ
  runs_on : RunsOn text
  number : arc ≡ after so_far text
  fits : arc < 4294967296
  parts : bytes ≡ text ++ rest

runs_on_more : (octet : ℕ) (text : List ℕ) → 128 ≤ octet → RunsOn text → RunsOn (octet ∷ text)
runs_on_more octet [] above on = absurd on
runs_on_more octet (t ∷ ts) above on = (above, on)

arc_finishes : (so_far : ℕ) (bytes : List ℕ) (arc : ℕ) (rest : List ℕ) → arc_from so_far bytes ≡ Some (arc, rest) → Finishes so_far bytes arc rest
unfolding arc_from
arc_finishes so_far [] arc rest e = absurd cc
arc_finishes so_far (octet ∷ more) arc rest e =
    let a = not_refused (leb 33554432 so_far) (cond (ltb octet 128) (Some (joined so_far octet, more)) (arc_from (joined so_far octet) more)) (arc, rest) e in
    let small = leb-false 33554432 so_far a.0 in
    elim (chosen (ltb octet 128) (Some (joined so_far octet, more)) (arc_from (joined so_far octet) more) (Some (arc, rest)) a.1) [
      | inl last ↦
          let same = some_pair_parts (joined so_far octet) arc more rest last.1 in
          record {
            text = octet ∷ [];
            runs_on = ltb-true octet 128 last.0;
            number = sym same.0;
            fits = omega (arith, same.0);
            parts = ap (λ (t : List ℕ). octet ∷ t) same.1;
          }
      | inr on ↦
          let next = arc_finishes (joined so_far octet) more arc rest on.1 in
          record {
            text = octet ∷ next.text;
            runs_on = runs_on_more octet next.text (ltb-false octet 128 on.0) next.runs_on;
            number = next.number;
            fits = next.fits;
            parts = ap (λ (t : List ℕ). octet ∷ t) next.parts;
          }
    ]

-- octets only make a number greater
grows : (n : ℕ) (octets : List ℕ) → n ≤ after n octets
grows n [] = omega arith
grows n (octet ∷ octets) = omega (arith, grows (joined n octet) octets)

arc_goes : (so_far : ℕ) (text rest : List ℕ) → RunsOn text → after so_far text < 4294967296 → arc_from so_far (text ++ rest) ≡ Some (after so_far text, rest)
unfolding arc_from
arc_goes so_far [] rest on fits = absurd on
arc_goes so_far (octet ∷ []) rest on fits =
    let small : leb 33554432 so_far ≡ false = lt-leb 33554432 so_far (omega arith) in
    let last : ltb octet 128 ≡ true = lt-ltb octet 128 on in
    rw (small, last) refl
arc_goes so_far (octet ∷ next ∷ more) rest on fits =
    let bound = grows (joined so_far octet) (next ∷ more) in
    let small : leb 33554432 so_far ≡ false = lt-leb 33554432 so_far (omega arith) in
    let longer : ltb octet 128 ≡ false = le-ltb octet 128 on.0 in
    rw (small, longer) (arc_goes (joined so_far octet) (next ∷ more) rest on.1 fits)

arc_found : (bytes rest : List ℕ) (arc : ℕ) → arc_at bytes ≡ Some (arc, rest) → Begins IsArc bytes arc rest
unfolding arc_at
arc_found [] rest arc e = absurd cc
arc_found (first ∷ more) rest arc e =
    let a = not_refused (eqb first 128) (arc_from 0 (first ∷ more)) (arc, rest) e in
    let f = arc_finishes 0 (first ∷ more) arc rest a.1 in (
      f.text,
      record {
        runs_on = f.runs_on;
        tight = starts_tight first more f.text rest f.runs_on f.parts (eqb-false first 128 a.0);
        number = f.number;
        fits = f.fits;
      },
      f.parts,
    )
  where
    starts_tight : (first : ℕ) (more text rest : List ℕ) → RunsOn text → first ∷ more ≡ text ++ rest → first ≢ 128 → IsTight text
    starts_tight first more [] rest on parts ne = absurd on
    starts_tight first more (t ∷ ts) rest on parts ne = λ e. ne (let f : first ≡ t = cc in f ∙ e)

arc_again : (text rest : List ℕ) (arc : ℕ) → IsArc text arc → arc_at (text ++ rest) ≡ Some (arc, rest)
unfolding arc_at
arc_again [] rest arc is = absurd is.tight
arc_again (first ∷ more) rest arc is =
    let open_ : eqb first 128 ≡ false = ne_eqb first 128 is.tight in
    let fits : after 0 (first ∷ more) < 4294967296 = omega (arith, is.number, is.fits) in
    rw (open_, is.number) (arc_goes 0 (first ∷ more) rest is.runs_on fits)

arc_exact : Exact IsArc arc_at
arc_exact = record { found = arc_found; again = arc_again }

nothing_at_end : arc_at [] ≡ None
unfolding arc_at
nothing_at_end = refl

-- what the octet of the first two arcs says
record Splits (first root second : ℕ) : Type 0 where
  arcs : AreFirstArcs root second
  sum : first ≡ 40 * root + second

splits_at : (first root : ℕ) → root ≤ 2 → 40 * root ≤ first → (root < 2 → first < 40 * root + 40) → first < 128 → Splits first root (first - 40 * root)
splits_at first root last above below few = record {
  arcs = record { root = last; under_root = λ h. omega (arith, below h); under_last = λ h. omega (arith, h) };
  sum = omega arith;
}

splits : (first : ℕ) → first < 128 → Splits first (root_of first) (first - 40 * root_of first)
splits first few =
    elim (cases_lt first 40) [
      | inl low ↦
          let test : 0 ≡ root_of first = rw (lt-ltb first 40 low) refl in
          subst (λ (r : ℕ). Splits first r (first - 40 * r)) test (splits_at first 0 (omega arith) (omega arith) (λ _. omega arith) few)
      | inr high ↦ elim (cases_lt first 80) [
        | inl low ↦
            let test : 1 ≡ root_of first = rw (le-ltb first 40 high, lt-ltb first 80 low) refl in
            subst (λ (r : ℕ). Splits first r (first - 40 * r)) test (splits_at first 1 (omega arith) (omega arith) (λ _. omega arith) few)
        | inr higher ↦
            let test : 2 ≡ root_of first = rw (le-ltb first 40 high, le-ltb first 80 higher) refl in
            subst (λ (r : ℕ). Splits first r (first - 40 * r)) test (splits_at first 2 (omega arith) (omega arith) (λ h. omega (arith, h)) few)
      ]
    ]

seconds : (root second : ℕ) → AreFirstArcs root second → ((root < 2) × (second < 40)) ⊎ ((root ≡ 2) × (second < 48))
seconds root second are =
    elim (cases_lt root 2) [ inl low ↦ inl (low, are.under_root low) | inr high ↦ let last = are.root in let is : root ≡ 2 = omega arith in inr (is, are.under_last is) ]

root_is : (root second : ℕ) → ((root < 2) × (second < 40)) ⊎ ((root ≡ 2) × (second < 48)) → root_of (40 * root + second) ≡ root
root_is root second (inl (low, few)) =
    elim (cases_lt (40 * root + second) 40) [
      | inl below ↦ rw (lt-ltb (40 * root + second) 40 below) (omega arith)
      | inr above ↦ let top : 40 * root + second < 80 = omega arith in rw (le-ltb (40 * root + second) 40 above, lt-ltb (40 * root + second) 80 top) (omega arith)
    ]
root_is root second (inr (is, few)) =
    let top : 80 ≤ 40 * root + second = omega arith in
    let above : 40 ≤ 40 * root + second = omega arith in
    rw (le-ltb (40 * root + second) 40 above, le-ltb (40 * root + second) 80 top) (sym is)

few_octets : (root second : ℕ) → ((root < 2) × (second < 40)) ⊎ ((root ≡ 2) × (second < 48)) → 40 * root + second < 128
few_octets root second (inl (low, few)) = omega arith
few_octets root second (inr (is, few)) = omega arith

contents_found : (octets arcs : List ℕ) → arcs_of octets ≡ Some arcs → AreNameContents octets arcs
unfolding arcs_of
contents_found [] arcs e = absurd cc
contents_found (first ∷ more) arcs e =
    let a = let_through (ltb first 128) (with_later (root_of first) (first - 40 * root_of first) more) arcs e in
    let b = bind_some (all_at arc_at 30 more) (λ later. Some (root_of first ∷ (first - 40 * root_of first) ∷ later)) arcs a.1 in
    let c = all_found arc_exact 30 more b.0 b.1 in
    let split = splits first (ltb-true first 128 a.0) in
    let made : root_of first ∷ (first - 40 * root_of first) ∷ b.0 ≡ arcs = cc (b.2) in
    subst (λ (all : List ℕ). AreNameContents (first ∷ more) all) made
    (split.arcs, c.1, more, ap (λ (f : ℕ). f ∷ more) split.sum, c.0)

contents_again : (octets arcs : List ℕ) → AreNameContents octets arcs → arcs_of octets ≡ Some arcs
unfolding arcs_of
contents_again octets [] are = absurd are
contents_again octets (first ∷ []) are = absurd are
contents_again octets (first ∷ second ∷ later) are =
    let parts = seconds first second are.0 in
    let few : ltb (40 * first + second) 128 ≡ true = lt-ltb (40 * first + second) 128 (few_octets first second parts) in
    let back : 40 * first + second - 40 * first ≡ second = omega arith in
    ap arcs_of are.3 ∙ rw (few, root_is first second parts, back, all_again arc_exact nothing_at_end 30 are.2 later are.4 are.1) refl

name_found : (bytes rest arcs : List ℕ) → name_at bytes ≡ Some (arcs, rest) → Begins IsName bytes arcs rest
unfolding name_at
name_found bytes rest arcs e =
    let a = bind_some (tagged_at 6 bytes) (λ c. arcs_of c.0 >>= λ all. Some (all, c.1)) (arcs, rest) e in
    let b = bind_some (arcs_of a.0.0) (λ all. Some (all, a.0.1)) (arcs, rest) a.2 in
    let text = (tagged_exact 6).found bytes a.0.1 a.0.0 a.1 in
    let same = some_pair_parts b.0 arcs a.0.1 rest b.2 in
    (text.0, (a.0.0, subst (λ (all : List ℕ). AreNameContents a.0.0 all) same.0 (contents_found a.0.0 b.0 b.1), text.1), text.2 ∙ ap (λ (t : List ℕ). text.0 ++ t) same.1)

name_again : (text rest arcs : List ℕ) → IsName text arcs → name_at (text ++ rest) ≡ Some (arcs, rest)
unfolding name_at
name_again text rest arcs is =
    rw ((tagged_exact 6).again text rest is.0 is.2, contents_again is.0 arcs is.1) refl

pub name_exact : Exact IsName name_at
name_exact = record { found = name_found; again = name_again }

contents_writable : (octets arcs : List ℕ) → AreNameContents octets arcs → IsWritable arcs
contents_writable octets [] are = absurd are
contents_writable octets (first ∷ []) are = absurd are
contents_writable octets (first ∷ second ∷ later) are = (are.0, are.1)

-- what is a name can be written
pub name_writable : (text arcs : List ℕ) → IsName text arcs → IsWritable arcs
name_writable text arcs is = contents_writable is.0 arcs is.1
