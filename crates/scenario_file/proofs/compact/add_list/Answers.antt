use Rattle.std.proofs.Common.{◌∷◌, ◌++◌, [], string_bytes, ap, ◌∙◌}
use Rattle.scenario_file.specs.Growing.{written}
use Rattle.scenario_file.proofs.Texts.{list-text}
use Rattle.scenario_file.proofs.compact.add_list.Goals as goal

pub returns : goal.returns
returns c = λ ds is.
    let inner = written c.args.items.now in
    c.in_ok-add-2.ensures ∙ ap (λ s. s ++ 93 ∷ []) (c.in_ok-add_to.ensures ∙ ap (λ s. s ++ inner) c.in_ok-add.ensures) ∙ list-text (string_bytes c.args.text.now) inner ds is
