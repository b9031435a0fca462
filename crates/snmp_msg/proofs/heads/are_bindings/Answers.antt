use Rattle.std.proofs.Common.{◌≡◌, ◌≢◌, suc, ◌+◌, ◌-◌, length, arith, sym, ◌∙◌}
use Rattle.snmp_msg.proofs.HeadLaws.{one_more, no_more, all_read, at_end}
use Rattle.snmp_msg.proofs.heads.are_bindings.Goals as goal

pub returns-then-is_empty : goal.returns-then-is_empty
returns-then-is_empty c =
    let none : length c.loop.rest.now ≡ 0 = grind arith in
    sym (all_read (32 - c.loop.counter) c.loop.rest.now none) ∙ c.loop.invariant

pub returns-in-None : goal.returns-in-None
returns-in-None c =
    let some : length c.loop.rest.now ≢ 0 = grind arith in
    let less : 32 - c.loop.counter ≡ suc (32 - (c.loop.counter + 1)) = omega arith in
    sym (no_more (32 - c.loop.counter) (32 - (c.loop.counter + 1)) c.loop.rest.now less some c.in-None.ensures) ∙ c.loop.invariant

pub loop-preserved : goal.loop-preserved
loop-preserved c =
    let some : length c.loop.rest.now ≢ 0 = grind arith in
    let less : 32 - c.loop.counter ≡ suc (32 - (c.loop.counter + 1)) = omega arith in
    sym (one_more (32 - c.loop.counter) (32 - (c.loop.counter + 1)) c.loop.rest.now c.binding_into.new.bind c.in-Some.after.now less some c.in-Some.ensures) ∙ c.loop.invariant

pub returns : goal.returns
returns c =
    c.is_empty-2.ensures ∙ sym (at_end (32 - c.loop.counter) c.loop.rest.now (omega arith)) ∙ c.loop.invariant
