use Rattle.std.proofs.Common.{◌≡◌, ℕ, ◌*◌, List, [], length, rules, sym, ap, ◌∙◌, subst}
use Rattle.std.proofs.lemmas.List.{length-map}
use Rattle.scenario_data.specs.Content.{CabinetContent, cabinet_content}
use Rattle.scenario_read.specs.Faults.{product_faults, all_table_faults}
use Rattle.scenario_read.specs.Fields.{fields_faults}
use Rattle.scenario_read.specs.Readers.{Refuses}
use Rattle.scenario_read.specs.Table.{event_fields}
use Rattle.scenario_cut.specs.Around.{scenario_in}
use Rattle.scenario_cut.specs.Checks.{cabinets_at}
use Rattle.scenario_cut.specs.declared.judge.Extent.{Extent}
use Rattle.scenario_cut.proofs.Checking.{third, fourth, fifth, none-of-five}
use Rattle.scenario_cut.proofs.checks.judge_behind.Goals as goal

pub returns-in-Err-judge_events : goal.returns-in-Err-judge_events
returns-in-Err-judge_events c = λ d reads kept.
    let h = c.args.head in
    let sd = scenario_in c.args.around d in
    let fail = c.in-Err-judge_events.fail in
    let items = c.in_ok-found.found.cabinets.items in
    let cab = c.in_ok-found.ensures d reads kept in
    let long : c.len-count.result ≡ length items = search rules in
    let count : c.len-count.result ≡ length (cabinets_at h sd) = long ∙ sym (length-map items cabinet_content) ∙ ap length cab.1 in
    third fail _ _ _ _ cab.0 c.in-Ok.ensures.0 (subst (λ n. Refuses fail (fields_faults [] sd (event_fields h.rounds n))) count (c.in-Err-judge_events.ensures d reads kept))

pub returns-in-Err-within_ticks : goal.returns-in-Err-within_ticks
returns-in-Err-within_ticks c = λ d reads kept.
    let h = c.args.head in
    let sd = scenario_in c.args.around d in
    let fail = c.in-Err-within_ticks.fail in
    let items = c.in_ok-found.found.cabinets.items in
    let cab = c.in_ok-found.ensures d reads kept in
    let long : c.len-count.result ≡ length items = search rules in
    let count : c.len-count.result ≡ length (cabinets_at h sd) = long ∙ sym (length-map items cabinet_content) ∙ ap length cab.1 in
    let events = subst (λ n. fields_faults [] sd (event_fields h.rounds n) ≡ []) count (c.in-Ok-judge_events.ensures d reads kept).0 in
    fourth fail _ _ _ _ _ cab.0 c.in-Ok.ensures.0 events (subst (λ n. Refuses fail (product_faults (n * h.rounds * h.ticks))) count c.in-Err-within_ticks.ensures)

pub returns-in-Ok-all_judged : goal.returns-in-Ok-all_judged
returns-in-Ok-all_judged c = λ d reads kept.
    let h = c.args.head in
    let sd = scenario_in c.args.around d in
    let items = c.in_ok-found.found.cabinets.items in
    let cab = c.in_ok-found.ensures d reads kept in
    let long : c.len-count.result ≡ length items = search rules in
    let count : c.len-count.result ≡ length (cabinets_at h sd) = long ∙ sym (length-map items cabinet_content) ∙ ap length cab.1 in
    let events = subst (λ n. fields_faults [] sd (event_fields h.rounds n) ≡ []) count (c.in-Ok-judge_events.ensures d reads kept).0 in
    let product = subst (λ n. product_faults (n * h.rounds * h.ticks) ≡ []) count c.in-Ok-within_ticks.ensures.0 in
    let tables = subst (λ (cs : List CabinetContent). all_table_faults 1 cs ≡ []) cab.1 c.in-Ok-all_judged.ensures.0 in
    let of_count : ℕ → Extent = λ n. record { version = h.version; rounds = h.rounds; cabinets = n } in
    (none-of-five _ _ _ _ _ cab.0 c.in-Ok.ensures.0 events product tables, ap of_count count)

pub returns : goal.returns
returns c = λ d reads kept.
    let h = c.args.head in
    let sd = scenario_in c.args.around d in
    let fail = c.in-Err-all_judged.fail in
    let items = c.in_ok-found.found.cabinets.items in
    let cab = c.in_ok-found.ensures d reads kept in
    let long : c.len-count.result ≡ length items = search rules in
    let count : c.len-count.result ≡ length (cabinets_at h sd) = long ∙ sym (length-map items cabinet_content) ∙ ap length cab.1 in
    let events = subst (λ n. fields_faults [] sd (event_fields h.rounds n) ≡ []) count (c.in-Ok-judge_events.ensures d reads kept).0 in
    let product = subst (λ n. product_faults (n * h.rounds * h.ticks) ≡ []) count c.in-Ok-within_ticks.ensures.0 in
    fifth fail _ _ _ _ _ cab.0 c.in-Ok.ensures.0 events product (subst (λ (cs : List CabinetContent). Refuses fail (all_table_faults 1 cs)) cab.1 c.in-Err-all_judged.ensures)
