use Rattle.std.proofs.Common.{◌≡◌, ◌≤◌, ◌<◌, ◌+◌, ℕ, suc, List, length, map, get_or, drop, get_or-set_other, ◌++◌, sym, ap, ◌∙◌, subst, arith}
use Rattle.std.proofs.lemmas.List.{length-map}
use Rattle.scenario_data.specs.declared.scenario.Entry.{Entry}
use Rattle.field_read.specs.Content.{RuleContent, rule_content}
use Rattle.field_file.specs.Schedule.{level_after, change_of, changes}
use Rattle.field_file.specs.Counting.{RuleStands, change_between}
use Rattle.field_file.proofs.Leveling.{change-is, changes-next, changes-done, fit-set, rule-here, rule-stands, level-before, level-behind, level-at}
use Rattle.field_file.proofs.schedule.follow_all.Goals as goal

pub overflow_sub-rule : goal.overflow_sub-rule
overflow_sub-rule c = (rule-stands c.args.rules.now.items c.loop-k.k c.index-rule.result.now (omega arith) c.index-rule.ensures c.requires.rules).some

pub index-volume-requires : goal.index-volume-requires
index-volume-requires c =
    let stands = rule-stands c.args.rules.now.items c.loop-k.k c.index-rule.result.now (omega arith) c.index-rule.ensures c.requires.rules in
    let some : 1 ≤ c.index-rule.result.now.section = stands.some in
    let few : c.index-rule.result.now.section ≤ 8 = stands.few in
    omega arith

pub follow-requires-clause-steps : goal.follow-requires-clause-steps
follow-requires-clause-steps c = (rule-stands c.args.rules.now.items c.loop-k.k c.index-rule.result.now (omega arith) c.index-rule.ensures c.requires.rules).steps

pub follow-requires-clause-before : goal.follow-requires-clause-before
follow-requires-clause-before c =
    let l = c.loop-k in
    let rules = c.args.rules.now.items in
    let rule = c.index-rule.result.now in
    let len : length (map rule_content rules) ≡ length rules = length-map rules rule_content in
    let here : get_or (map rule_content rules) l.k (rule_content rule) ≡ rule_content rule = rule-here rules l.k rule (rule_content rule) (omega arith) c.index-rule.ensures in
    let fits = l.invariant.fit.each l.k c.index.result.now (rule_content rule) (omega arith) in
    subst (λ (v : ℕ). v ≤ length rule.steps.items) (sym c.index.ensures) (subst (λ (r : RuleContent). get_or l.levels.items l.k c.index.result.now ≤ length r.steps) here fits)

pub loop-k-preserved : goal.loop-k-preserved
loop-k-preserved c =
    let l = c.loop-k in
    let rules = c.args.rules.now.items in
    let rule = c.index-rule.result.now in
    let before = c.index.result.now in
    let now = c.in-Ok.now in
    let content : List RuleContent = map rule_content rules in
    let len : length content ≡ length rules = length-map rules rule_content in
    let within : l.k < length rules = omega arith in
    let here : (r : RuleContent) → get_or content l.k r ≡ rule_content rule = λ r. rule-here rules l.k rule r within c.index-rule.ensures in
    let stands : RuleStands (rule_content rule) = rule-stands rules l.k rule within c.index-rule.ensures c.requires.rules in
    let count : length l.levels.items ≡ length content = l.invariant.fit.count in record {
      fit = fit-set l.levels.items content l.k now (omega arith) (λ r. subst (λ (x : RuleContent). now ≤ length x.steps) (sym (here r)) c.in-Ok.ensures.few) l.invariant.fit;
      done = λ c' periods low has are k d r below.
          let was = level-before c' rules l.k c.args.n rule l.levels.items c.args.levels.now.items before within c.index-rule.ensures are c.index.ensures (l.invariant.rest l.k before (omega arith)) in
          let next = level-behind c' c.args.n periods rule c.args.table.now.items before c.index-volume.result.now now stands low has was c.index-volume.ensures c.requires.table c.in-Ok.ensures.level in
          level-at c' content (suc c.args.n) l.levels.items l.k now k d r (omega arith) (omega arith) (next ∙ ap (λ (x : RuleContent). level_after c' x (suc c.args.n)) (sym (here r)))
          (λ under. l.invariant.done c' periods low has are k d r under);
      rest = λ k d above. get_or-set_other l.levels.items l.k k now d (λ same. absurd (omega (arith, same, above))) ∙ l.invariant.rest k d (omega (arith, above));
      entries = λ c' periods low has are.
          let was = level-before c' rules l.k c.args.n rule l.levels.items c.args.levels.now.items before within c.index-rule.ensures are c.index.ensures (l.invariant.rest l.k before (omega arith)) in
          let next = level-behind c' c.args.n periods rule c.args.table.now.items before c.index-volume.result.now now stands low has was c.index-volume.ensures c.requires.table c.in-Ok.ensures.level in
          ap (λ (es : List Entry). es ++ changes c' c.args.second c.args.n (drop (l.k + 1) content)) c.in-Ok.ensures.entry
          ∙ changes-next c' c.args.second c.args.n content l.k (rule_content rule) _ l.entries.items (change_between c.args.second (rule_content rule) before now) (omega arith)
          (change-is c' c.args.second c.args.n (rule_content rule) before now was next ∙ ap (change_of c' c.args.second c.args.n) (sym (here (rule_content rule))))
          (l.invariant.entries c' periods low has are);
    }

pub returns-clause-follows : goal.returns-clause-follows
returns-clause-follows c = λ c' periods low has are.
    let l = c.loop-k in
    let rules = c.args.rules.now.items in
    let len : length (map rule_content rules) ≡ length rules = length-map rules rule_content in (
      λ k d r inside. l.invariant.done c' periods low has are k d r (omega (arith, inside, len)),
      changes-done c' c.args.second c.args.n (map rule_content rules) l.k _ l.entries.items (omega (arith, len)) (l.invariant.entries c' periods low has are),
    )
