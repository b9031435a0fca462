use Rattle.std.proofs.Common.{refl, is_some, sym, codes, ap, ◌∙◌}
use Rattle.serde_json.specs.Data.{put}
use Rattle.serde_json.specs.Find.{get_member}
use Rattle.serde_json.specs.View.{view, members_view}
use Rattle.serde_json.proofs.Views.{get_member-put}
use Rattle.scenario_file.proofs.Parts.{begun, same-inputs}
use Rattle.scenario_file.proofs.source.ScenarioText.begin_inputs.Goals as goal

pub returns-then-has_inputs-clause-begun : goal.returns-then-has_inputs-clause-begun
returns-then-has_inputs-clause-begun c = λ d w. same-inputs c.args.self.now d (sym c.has_inputs.ensures ∙ c.if-has_inputs.true) w

pub returns-in-Ok-clause-begun : goal.returns-in-Ok-clause-begun
returns-in-Ok-clause-begun c = λ d w.
    begun c.args.self.now _ d (c.in-Ok.ensures.put ∙ ap (λ v. put (codes "inputs") v (members_view c.args.self.now.frame.entries)) c.no_entries.ensures) refl refl w

pub returns-in-Ok-clause-stand : goal.returns-in-Ok-clause-stand
returns-in-Ok-clause-stand c =
    let ms = members_view c.args.self.now.frame.entries in
    ap (λ es. is_some (get_member (codes "inputs") es)) c.in-Ok.ensures.put ∙ ap is_some (get_member-put (codes "inputs") (view c.no_entries.result) ms)
