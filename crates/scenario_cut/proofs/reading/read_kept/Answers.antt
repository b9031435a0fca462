use Rattle.std.proofs.Common.{◌≡◌, ◌≤◌, false, [], sym, ap, ◌∙◌, subst}
use Rattle.serde_json.specs.Data.{depth}
use Rattle.serde_json.specs.Read.{max_depth}
use Rattle.serde_json.specs.View.{view}
use Rattle.serde_json.specs.Written.{has_float}
use Rattle.serde_json.proofs.Nesting.{depth-read}
use Rattle.scenario_data.specs.Content.{scenario_content}
use Rattle.scenario_read.specs.Content.{scenario_of}
use Rattle.scenario_read.specs.Faults.{faults}
use Rattle.scenario_read.specs.Answers.{Reads}
use Rattle.scenario_read.specs.Readers.{Refuses}
use Rattle.scenario_read.specs.Sorted.{Sorted}
use Rattle.scenario_read.proofs.Refusing.{refused-first}
use Rattle.scenario_read.proofs.Rising.{read-sorted}
use Rattle.scenario_read.proofs.Compact.{faultless-floatless}
use Rattle.scenario_read.proofs.Whole.{whole-content, faultless-parts}
use Rattle.scenario_cut.proofs.Scenario.{refuses-kept}
use Rattle.scenario_cut.proofs.Right.{scenario-right, no-text}
use Rattle.scenario_cut.proofs.reading.read_kept.Goals as goal

pub returns-in-Err-clause-refused : goal.returns-in-Err-clause-refused
returns-in-Err-clause-refused c = no-text c.args.bytes.now c.in-Err.fail c.in-Err.ensures.none

pub returns-in-Err-checked_parts-clause-refused : goal.returns-in-Err-checked_parts-clause-refused
returns-in-Err-checked_parts-clause-refused c =
    let kept = c.in-Ok.ensures.kept in
    let fail = c.in-Err-checked_parts.fail in
    refused-first c.args.bytes.now kept.0 fail kept.1 (refuses-kept fail kept.0 (subst (λ v. Refuses fail (faults v)) kept.2 c.in-Err-checked_parts.ensures))

pub returns-in-Ok-to_vec-clause-scenario : goal.returns-in-Ok-to_vec-clause-scenario
returns-in-Ok-to_vec-clause-scenario c =
    let kept = c.in-Ok.ensures.kept in
    let d = kept.0 in
    let v = view c.in-Ok.kept in
    let parts = c.in-Ok-checked_parts.parts in
    let read = c.in-Ok-checked_parts.ensures in
    let same : v ≡ d = scenario-right c.args.bytes.now d v kept.1 kept.2 read.0 in
    let plain : has_float v ≡ false = faultless-floatless v (subst Sorted (sym same) (read-sorted c.args.bytes.now d kept.1.1)) (faultless-parts v read.0).0 in
    let said : scenario_content c.scenario_from.result ≡ scenario_of v = c.scenario_from.ensures.content ∙ whole-content parts c.in-Ok-to_vec.compact.items v read.1 (c.in-Ok-to_vec.ensures.text plain) in
    (d, kept.1, subst (λ w. faults w ≡ []) same read.0, said ∙ ap scenario_of same)

pub returns-in-Ok-to_vec-clause-reads_back : goal.returns-in-Ok-to_vec-clause-reads_back
returns-in-Ok-to_vec-clause-reads_back c =
    let kept = c.in-Ok.ensures.kept in
    let d = kept.0 in
    let v = view c.in-Ok.kept in
    let parts = c.in-Ok-checked_parts.parts in
    let read = c.in-Ok-checked_parts.ensures in
    let same : v ≡ d = scenario-right c.args.bytes.now d v kept.1 kept.2 read.0 in
    let plain : has_float v ≡ false = faultless-floatless v (subst Sorted (sym same) (read-sorted c.args.bytes.now d kept.1.1)) (faultless-parts v read.0).0 in
    let said : scenario_content c.scenario_from.result ≡ scenario_of v = c.scenario_from.ensures.content ∙ whole-content parts c.in-Ok-to_vec.compact.items v read.1 (c.in-Ok-to_vec.ensures.text plain) in
    let low : depth v ≤ max_depth = subst (λ w. depth w ≤ max_depth) (sym same) (depth-read c.args.bytes.now d kept.1.1) in
    let back : Reads c.in-Ok-to_vec.compact.items v = (c.in-Ok-to_vec.ensures.utf8, c.in-Ok-to_vec.ensures.reads_back low) in
    (v, subst (λ t. Reads t.items v) (sym c.scenario_from.ensures.text) back, read.0, said)
