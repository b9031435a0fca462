use Rattle.std.proofs.Common.{◌≡◌, ◌≤◌, false, Some, sym, ap, ◌∙◌, subst}
use Rattle.serde_json.specs.Data.{Data, depth}
use Rattle.serde_json.specs.View.{view}
use Rattle.serde_json.specs.Written.{has_float, compact_text}
use Rattle.gen_arterial.specs.Written.{scenario_value}
use Rattle.gen_arterial.proofs.Plain.{value-floatless, value-shallow}
use Rattle.gen_arterial.proofs.values.compact_of.Goals as goal

pub returns-in-Ok-written-clause-text : goal.returns-in-Ok-written-clause-text
returns-in-Ok-written-clause-text c = λ seed cabinets drawn.
    let same : view c.in-Ok.value ≡ scenario_value seed cabinets c.args.rounds = c.in-Ok.ensures seed cabinets drawn in
    c.in-Ok-written.ensures.text (subst (λ (d : Data). has_float d ≡ false) (sym same) (value-floatless seed cabinets c.args.rounds)) ∙ ap compact_text same

pub returns-in-Ok-written-clause-reads : goal.returns-in-Ok-written-clause-reads
returns-in-Ok-written-clause-reads c = λ seed cabinets drawn.
    let same : view c.in-Ok.value ≡ scenario_value seed cabinets c.args.rounds = c.in-Ok.ensures seed cabinets drawn in (
      c.in-Ok-written.ensures.utf8,
      c.in-Ok-written.ensures.reads_back (subst (λ (d : Data). depth d ≤ 127) (sym same) (value-shallow seed cabinets c.args.rounds)) ∙ ap (λ (d : Data). Some d) same,
    )
