use Rattle.std.proofs.Common.{ℕ, map, get_or, ap, ◌∙◌, arith}
use Rattle.scenario_data.specs.Content.{cabinet_content}
use Rattle.field_file.proofs.Putting.{section-at}
use Rattle.field_file.proofs.volumes.section_of.Goals as goal

pub returns-then-place-len : goal.returns-then-place-len
returns-then-place-len c =
    let cs = c.args.scenario.now.cabinets.items in
    ap (λ x. x.section) c.index.ensures ∙ section-at cs c.saturating_sub-place.result c.index.result.now (omega arith)
    ∙ ap (λ (k : ℕ). get_or (map (λ x. x.section) (map cabinet_content cs)) k 0) c.saturating_sub-place.ensures
