use Rattle.std.proofs.Common.{ℕ, List, ◌∷◌, ◌++◌, [], ap, ◌∙◌, subst}
use Rattle.std.specs.Prelude.{IsUtf8}
use Rattle.std.proofs.lemmas.Str.{IsUtf8-string_bytes}
use Rattle.field_file.proofs.parts.line_of.Goals as goal

pub returns-in-Ok : goal.returns-in-Ok
returns-in-Ok c = λ s w.
    let whole = c.in-Some.ensures s w in record {
      utf8 = subst IsUtf8 whole (IsUtf8-string_bytes c.in-Some.whole);
      whole = c.in-Ok.ensures.items ∙ ap (λ (xs : List ℕ). xs ++ 10 ∷ []) (ap (λ v. v.items) c.into_bytes-line.ensures.value ∙ whole);
    }
