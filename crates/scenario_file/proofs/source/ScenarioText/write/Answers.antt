use Rattle.std.proofs.Common.{sym, ap, ◌∙◌}
use Rattle.serde_json.specs.Written.{compact_text}
use Rattle.scenario_file.proofs.source.ScenarioText.write.Goals as goal

pub returns-in-Some : goal.returns-in-Some
returns-in-Some c = λ d w. c.in-Some.ensures w.rows w.texts w.floatless ∙ ap compact_text (sym w.whole)
