use Rattle.std.proofs.Common.{◌≡◌, Option, Some, None, is_some, option_map, codes, refl, ap, ◌∙◌}
use Rattle.serde_json.specs.View.{view}
use Rattle.serde_json.specs.declared.value.Value.{Value}
use Rattle.serde_json.proofs.Views.{view-lookup}
use Rattle.scenario_file.proofs.source.has_inputs.Goals as goal

same : (o : Option Value) → is_some o ≡ is_some (option_map view o)
same None = refl
same (Some v) = refl

pub returns : goal.returns
returns c = c.contains_key.ensures ∙ same _ ∙ ap is_some (view-lookup (codes "inputs") c.args.frame.now.entries)
