use Rattle.std.proofs.Common.{ℕ, List, [], ◌∷◌, ◌++◌, sym, ap, ◌∙◌, subst}
use Rattle.serde_json.specs.View.{view}
use Rattle.scenario_read.specs.Answers.{Reads}
use Rattle.field_file.proofs.Newline.{reads-behind}
use Rattle.field_file.proofs.told.text_of.Goals as goal

pub returns-in-Ok-push : goal.returns-in-Ok-push
returns-in-Ok-push c =
    let d = view c.args.value.now in record {
      whole = λ plain. c.in-Ok-push.ensures.items ∙ ap (λ (xs : List ℕ). xs ++ 10 ∷ []) (c.in-Ok.ensures.text plain);
      reads = λ low.
          subst (λ (xs : List ℕ). Reads xs d) (sym c.in-Ok-push.ensures.items)
          (reads-behind c.in-Ok.text.items d c.in-Ok.ensures.compact c.in-Ok.ensures.utf8 (c.in-Ok.ensures.reads_back low));
    }
