use Rattle.std.proofs.Common.{arith}
use Rattle.oid_map.specs.declared.objects.Range.{Range}
use Rattle.oid_map.proofs.Ranges.{front_is, none_after, least_after_nothing, least_after, none_above, later_after, none_later, next_after}
use Rattle.oid_map.proofs.walk.+push_indices.Goals as goal

abbrev no_range : Range
no_range = record { least = 0; most = 0 }

pub returns-then-index-range : goal.returns-then-index-range
returns-then-index-range t c = least_after _ _ _ _ _ _ _ _ (front_is c.args.indices.now no_range c.in-len1-up.len_at_least) (front_is c.args.name.now 0 c.in-len1-up-name.len_at_least)
    c.requires.ranges c.if-index-range.true c.push_least-then-index-range.ensures

pub returns-then-range-index : goal.returns-then-range-index
returns-then-range-index t c = none_above _ _ _ _ _ _ _ (front_is c.args.indices.now no_range c.in-len1-up.len_at_least) (front_is c.args.name.now 0 c.in-len1-up-name.len_at_least)
    c.requires.ranges c.if-range-index.true

pub returns-then-push_indices : goal.returns-then-push_indices
returns-then-push_indices t c = later_after _ _ _ _ _ _ _ _ _ (front_is c.args.indices.now no_range c.in-len1-up.len_at_least) (front_is c.args.name.now 0 c.in-len1-up-name.len_at_least)
    c.requires.ranges (omega (arith, c.if-index-range.false)) (omega (arith, c.if-range-index.false)) c.push.ensures.items c.if-push_indices.ensures

pub returns-then-index-range-2 : goal.returns-then-index-range-2
returns-then-index-range-2 t c = none_later _ _ _ _ _ _ _ _ _ _ (front_is c.args.indices.now no_range c.in-len1-up.len_at_least) (front_is c.args.name.now 0 c.in-len1-up-name.len_at_least)
    c.requires.ranges (omega (arith, c.if-index-range.false)) c.if-index-range-2.true c.push.ensures.items c.if-push_indices.ensures (rw (← c.len-length.ensures.value) c.truncate.ensures.items)

pub returns-else-index-range-2 : goal.returns-else-index-range-2
returns-else-index-range-2 t c = next_after _ _ _ _ _ _ _ _ _ _ _ _ (front_is c.args.indices.now no_range c.in-len1-up.len_at_least) (front_is c.args.name.now 0 c.in-len1-up-name.len_at_least)
    c.requires.ranges (omega (arith, c.if-index-range.false))
    (omega (arith, c.if-range-index.false, c.if-index-range-2.false)) c.push.ensures.items c.if-push_indices.ensures (rw (← c.len-length.ensures.value) c.truncate.ensures.items)
    c.push-in-len1-up-name.ensures.items c.push_least-in-len1-up-name.ensures

pub returns-in-empty : goal.returns-in-empty
returns-in-empty t c = none_after _ _ _ c.in-empty.len_below

pub returns-in-empty-name : goal.returns-in-empty-name
returns-in-empty-name t c = least_after_nothing _ _ _ _ c.in-len1-up.len_at_least c.in-empty-name.len_below c.requires.ranges c.push_least.ensures
