-- What is at a place of rules that were read, and equal numbers as a test gives them.
use Rattle.std.proofs.Common.{◌≡◌, ◌<◌, ◌∙◌, ◌==◌, ℕ, Bool, true, false, List, length, map, get_or, refl, sym, ap}
use Rattle.std.proofs.lemmas.List.{get_or-map}
use Rattle.std.proofs.lemmas.Bool.Decides.{Decides-eqb}
use Rattle.responsive.specs.declared.Rule.{Rule}
use Rattle.field_read.specs.Content.{rule_content}
use Rattle.field_read.specs.Checks.{rule_at}

pub rule-here : (rules : List Rule) (i : ℕ) (r : Rule) → i < length rules → r ≡ get_or rules i r → rule_at (map rule_content rules) i ≡ rule_content r
rule-here rules i r within is = get_or-map rule_content rules i r _ within ∙ ap rule_content (sym is)

pub same-number : (a b : ℕ) → a ≡ b → (a == b) ≡ true
same-number a b e = (Decides-eqb a b).1 e

pub other-number : (a b : ℕ) → (a ≡ b → ⊥) → (a == b) ≡ false
other-number a b ne = at (a == b) refl
  where
    at : (t : Bool) → (a == b) ≡ t → t ≡ false
    at true e = absurd (ne ((Decides-eqb a b).0 e))
    at false e = refl
