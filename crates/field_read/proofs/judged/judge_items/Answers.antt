use Rattle.std.proofs.Common.{◌≡◌, ◌<◌, ◌-◌, Some, None, length, ap, ◌∙◌, arith}
use Rattle.json.specs.Json.{value, items, parse_map, after_end_array}
use Rattle.serde_json.specs.Data.{no_items, item}
use Rattle.serde_json.specs.Read.{of_items, converted}
use Rattle.scenario_cut.specs.Growing.{both}
use Rattle.scenario_cut.proofs.Turns.{item_read, items_over, both-end, one_more, none_before}
use Rattle.field_read.proofs.Judging.{judged-none}
use Rattle.field_read.proofs.judged.judge_items.Goals as goal

pub items-init : goal.items-init
items-init c =
    let all = converted of_items (items (value 125) (length c.args.reader.now) c.args.reader.now) in
    (length c.args.reader.now, no_items, omega arith, none_before all, omega arith, judged-none c.args.extent)

pub items-preserved : goal.items-preserved
items-preserved c =
    let p = value 125 in
    let l = c.items in
    let n = l.invariant.0 in
    let ds = l.invariant.1 in
    let going : (after_end_array l.reader ≡ None) × (c.take_end_array.new.self ≡ l.reader) = grind arith in
    let done = c.in_ok-more.ensures in
    let d = done.ok.0 in
    let r = c.more.new.reader in
    let less : length r < length l.reader = rw (← going.1) done.shorter in
    let turn = item_read p n l.reader r d (omega (arith, l.invariant.2)) going.0 (rw (← going.1) done.ok.1) in (
      n - 1,
      both ds (item d no_items),
      omega (arith, l.invariant.2),
      l.invariant.3 ∙ ap (parse_map (both ds)) turn ∙ one_more ds d _,
      omega (arith, l.invariant.4),
      done.ok.2 ds l.invariant.5,
    )

pub returns-clause-ok : goal.returns-clause-ok
returns-clause-ok c =
    let p = value 125 in
    let l = c.items in
    let n = l.invariant.0 in
    let ds = l.invariant.1 in
    let r = c.take_end_array.new.self in
    (ds, l.invariant.3 ∙ ap (parse_map (both ds)) (items_over p n l.reader r l.invariant.2 (grind arith)) ∙ ap (λ es. Some (es, r)) (both-end ds), l.invariant.5)
