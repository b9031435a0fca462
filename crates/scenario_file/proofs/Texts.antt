-- The compact text grows member by member.
use Rattle.std.proofs.Common.{◌≡◌, ℕ, List, [], ◌∷◌, ◌++◌, Bool, true, false, sym, ap, ◌∙◌, append_assoc}
use Rattle.std.proofs.lemmas.Bool.{or_parts}
use Rattle.json.specs.Print.{quoted}
use Rattle.serde_json.specs.Data.{Data, array, Items, Members, member}
use Rattle.serde_json.specs.Written.{has_float, members_have_float, comma_if, compact_text, members_text}
use Rattle.scenario_file.specs.Growing.{inner_text}
use Rattle.scenario_file.specs.Framing.{filled}
use Rattle.scenario_file.proofs.Growth.{bracketed}

regroup : (before inner : List ℕ) → ((before ++ 91 ∷ []) ++ inner) ++ 93 ∷ [] ≡ before ++ (91 ∷ (inner ++ 93 ∷ []))
regroup before inner = simp append_assoc

pub list-text : (before inputs : List ℕ) (ds : Items) → inputs ≡ inner_text false ds → ((before ++ 91 ∷ []) ++ inputs) ++ 93 ∷ [] ≡ before ++ compact_text (array ds)
list-text before inputs ds is = ap (λ s. ((before ++ 91 ∷ []) ++ s) ++ 93 ∷ []) is ∙ regroup before (inner_text false ds) ∙ ap (λ s. before ++ (91 ∷ s)) (sym (bracketed false ds))

member-first : (before comma name text rest : List ℕ) → ((((before ++ comma) ++ name) ++ 58 ∷ []) ++ text) ++ rest ≡ before ++ (comma ++ (name ++ (58 ∷ (text ++ rest))))
member-first before comma name text rest = simp append_assoc

-- one member more
pub one-member : (fill : List ℕ → Data → Data) (name : List ℕ) (d : Data) (rest ms : Members) (later : Bool) (before named after whole : List ℕ)
    → ms ≡ member name d rest → members_have_float ms ≡ false → before ++ members_text later (filled fill ms) ≡ whole
    → named ≡ ((before ++ comma_if later) ++ quoted name) ++ 58 ∷ []
    → (has_float d ≡ false → after ≡ named ++ compact_text (fill name d))
    → (members_have_float rest ≡ false) × (after ++ members_text true (filled fill rest) ≡ whole)
one-member fill name d rest ms later before named after whole first plain is name-is value-is =
    let parts = or_parts (has_float d) (members_have_float rest) (sym (ap members_have_float first) ∙ plain) in
    let there = fill name d in
    let more = members_text true (filled fill rest) in (
      parts.1,
      ap (λ s. s ++ more) (value-is parts.0 ∙ ap (λ s. s ++ compact_text there) name-is) ∙ member-first before (comma_if later) (quoted name) (compact_text there) more
          ∙ ap (λ xs. before ++ members_text later (filled fill xs)) (sym first) ∙ is,
    )
