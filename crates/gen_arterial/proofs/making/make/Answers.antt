use Rattle.std.proofs.Common.{ℕ, Vec, Global, sym, subst, ◌∙◌}
use Rattle.scenario_read.specs.Answers.{Reads}
use Rattle.gen_arterial.specs.Written.{scenario_value}
use Rattle.gen_arterial.proofs.Whole.{value-faultless, value-says}
use Rattle.gen_arterial.proofs.making.make.Goals as goal

pub returns-in-Ok-scenario_of-clause-reads_back : goal.returns-in-Ok-scenario_of-clause-reads_back
returns-in-Ok-scenario_of-clause-reads_back c =
    let d = scenario_value c.args.seed c.args.cabinets c.args.rounds in
    let text = c.in-Ok-compact_of.ensures.text c.args.seed c.args.cabinets c.in-Ok.ensures in (
      d,
      subst (λ (v : Vec ℕ Global). Reads v.items d) (sym c.in-Ok-scenario_of.ensures.compact) (c.in-Ok-compact_of.ensures.reads c.args.seed c.args.cabinets c.in-Ok.ensures),
      value-faultless c.args.seed c.args.cabinets c.args.rounds c.requires,
      c.in-Ok-scenario_of.ensures.content c.args.seed c.args.cabinets c.in-Ok.ensures text ∙ sym (value-says c.args.seed c.args.cabinets c.args.rounds c.requires),
    )
