use Rattle.std.proofs.Common.{◌++◌, ap, ◌∙◌}
use Rattle.serde_json.specs.Data.{object}
use Rattle.serde_json.specs.Written.{compact_text}
use Rattle.scenario_file.specs.Growing.{written}
use Rattle.scenario_file.specs.Plain.{input_members}
use Rattle.scenario_file.proofs.InputTexts.{input-text}
use Rattle.scenario_file.proofs.written.Written.add_input.Goals as goal

pub returns : goal.returns
returns c =
    let i = c.args.input in
    input-text i (written c.add.new.self) (written c.add_number.new.self) (written c.add_before.new.self) (written c.add_number-2.new.self) (written c.add_behind.new.self)
    c.in_ok-add_number.ensures c.in_ok-add_before.ensures c.in_ok-add_number-2.ensures c.in_ok-add_behind.ensures
    ∙ ap (λ s. s ++ compact_text (object (input_members i))) c.in_ok-add.ensures
    ∙ ap (λ s. (written c.args.self.now ++ s) ++ compact_text (object (input_members i))) c.comma.ensures
