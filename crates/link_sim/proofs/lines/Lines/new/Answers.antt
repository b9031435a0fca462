use Rattle.std.proofs.Common.{refl, ◌∙◌}
use Rattle.link_sim.proofs.lines.Lines.new.Goals as goal

pub returns : goal.returns
returns c = λ faults. record {
  poll_line = c.new.ensures.line ∙ c.line_at.ensures;
  load_line = c.new-2.ensures.line ∙ c.line_at-2.ensures;
  prio_line = c.new-3.ensures.line ∙ c.line_at-3.ensures;
  polls = c.new.ensures.holds faults;
  loads = c.new-2.ensures.holds faults;
  prios = c.new-3.ensures.holds faults;
  load_rounds = refl;
  prio_rounds = refl;
}
