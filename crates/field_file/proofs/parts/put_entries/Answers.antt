use Rattle.std.proofs.Common.{Some, map, option_map, sym, ap, subst}
use Rattle.serde_json.specs.View.{view}
use Rattle.scenario_file.specs.Source.{Writes}
use Rattle.field_file.specs.Written.{with_schedule}
use Rattle.field_file.proofs.Adding.{entries-put}
use Rattle.field_file.proofs.parts.put_entries.Goals as goal

pub returns-in-Some-put_schedule : goal.returns-in-Some-put_schedule
returns-in-Some-put_schedule c = λ s w.
    let now = c.put_schedule.new.self in
    let entries = c.in-Some.entries.items in
    subst (λ o. Writes now (with_schedule (option_map (λ v. v.items) o) s)) (sym c.in-Some.is)
    (entries-put c.args.text.now now entries (map view c.in-Ok.values.items) s c.in-Ok.ensures c.in-Some-put_schedule.ensures w)
