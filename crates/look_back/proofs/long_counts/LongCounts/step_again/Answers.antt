use Rattle.std.proofs.Common.{◌≤◌, length, ◌==◌, refl, sym, ◌∙◌, ap, arith}
use Rattle.sig_types.specs.declared.frame.Mode.{Mode}
use Rattle.sig_tables.specs.Modes.{stage_of}
use Rattle.look_back.proofs.Again.{last-shows, last-on-all, latest-on-all, all-in-stage, inputs-off}
use Rattle.look_back.proofs.long_counts.LongCounts.step_again.Goals as goal

pub returns : goal.returns
returns c = λ active pressed past ms stands few all.
    let some : 1 ≤ length ms = omega (arith, few, c.requires) in
    record {
      stage = stands.stage ∙ ap (λ (mode : Mode). stage_of mode) (sym (last-shows active pressed ms past all).mode);
      stages = c.more-self.ensures (λ m. stage_of m.frame.mode == c.args.self.now.stage) past ms stands.stages few
          (all-in-stage active pressed ms past c.args.self.now.stage stands.stage all);
      inputs = inputs-off active pressed ms past _ c.new-self.result refl some all c.new-self.ensures;
      first = stands.first ∙ sym (last-on-all 1 active pressed ms past all);
      second = stands.second ∙ sym (last-on-all 2 active pressed ms past all);
      latest = stands.latest ∙ sym (latest-on-all active pressed ms past all);
    }
