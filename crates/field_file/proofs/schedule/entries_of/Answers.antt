use Rattle.std.proofs.Common.{◌++◌, ℕ, List, add-one, map, refl, sym, ap, ◌∙◌, subst, arith}
use Rattle.scenario_data.specs.Content.{scenario_content}
use Rattle.scenario_data.specs.declared.scenario.Entry.{Entry}
use Rattle.field_read.specs.Content.{rule_content}
use Rattle.field_file.specs.Schedule.{changes, second_of, entries_behind}
use Rattle.field_file.specs.Counting.{AreLevels}
use Rattle.field_file.proofs.Leveling.{counted_from}
use Rattle.field_file.proofs.schedule.entries_of.Goals as goal

pub loop-n-preserved : goal.loop-n-preserved
loop-n-preserved c =
    let l = c.loop-n in
    let s = scenario_content c.args.scenario.now in
    let all = counted_from s c.args.respond.now.period c.args.edges.now.items in
    let rules = map rule_content c.args.respond.now.sections.items in
    let both = c.in-Ok-follow_all.ensures.follows all c.period_of-periods.result (omega arith) (c.in-Ok.ensures.volumes all refl refl) l.invariant.levels in record {
      fit = c.in-Ok-follow_all.ensures.fit;
      levels = subst (λ (m : ℕ). AreLevels c.follow_all.new.levels.items all rules m) (sym (add-one l.n)) both.0;
      entries =
          both.1 ∙ ap (λ (es : List Entry). es ++ changes all c.second_of-second.result l.n rules) l.invariant.entries
          ∙ ap (λ (second : ℕ). entries_behind s all rules l.n ++ changes all second l.n rules) (c.second_of-second.ensures ∙ ap (second_of s) c.round_behind.ensures)
          ∙ ap (λ (m : ℕ). entries_behind s all rules m) (sym (add-one l.n));
    }
