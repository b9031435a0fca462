use Rattle.std.proofs.Common.{refl, codes, ap, ◌∙◌}
use Rattle.serde_json.specs.Data.{object, put}
use Rattle.serde_json.specs.View.{items_view, members_view}
use Rattle.scenario_file.specs.Source.{master_and}
use Rattle.scenario_file.proofs.Parts.{another-schedule}
use Rattle.scenario_file.proofs.source.ScenarioText.put_schedule.Goals as goal

pub returns-in-Ok : goal.returns-in-Ok
returns-in-Ok c = λ d plain w.
    let ms = members_view c.args.self.now.frame.entries in
    another-schedule c.args.self.now _ d (items_view c.args.entries.now.items) c.in_ok-text.text w
    (c.in-Ok.ensures ∙ ap (λ v. put (codes "master") (master_and v (object ms)) ms) c.no_entries.ensures) refl (c.in_ok-text.ensures plain) refl
