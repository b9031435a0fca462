use Rattle.std.proofs.Common.{◌≡◌, ◌≢◌, suc, ◌+◌, ◌-◌, length, None, arith, sym, ◌∙◌}
use Rattle.std.proofs.lemmas.Grind.{common_steps}
use Rattle.snmp_msg.specs.Reading.{binding_at}
use Rattle.ber_code.proofs.Exact.{goes_on, gives_up, is_done, is_full}
use Rattle.snmp_msg.proofs.reading.bindings_into.Goals as goal

pub returns-then-is_empty : goal.returns-then-is_empty
returns-then-is_empty c =
    let none : length c.loop.rest.now ≡ 0 = grind arith in
    sym c.loop.invariant.goes ∙ is_done binding_at c.loop.binds.items (32 - c.loop.counter) c.loop.rest.now none

pub returns-in_err-rest : goal.returns-in_err-rest
returns-in_err-rest c =
    let some : length c.loop.rest.now ≢ 0 = grind arith in
    let less : 32 - c.loop.counter ≡ suc (32 - (c.loop.counter + 1)) = omega arith in
    let nothing : c.from_residual.result ≡ None = grind (arith, common_steps) in
    rw nothing (sym c.loop.invariant.goes ∙ gives_up binding_at c.loop.binds.items (32 - c.loop.counter) (32 - (c.loop.counter + 1)) c.loop.rest.now less some c.in_err-rest.ensures)

pub loop-preserved : goal.loop-preserved
loop-preserved c =
    let some : length c.loop.rest.now ≢ 0 = grind arith in
    let less : 32 - c.loop.counter ≡ suc (32 - (c.loop.counter + 1)) = omega arith in
    record {
      count = c.push.ensures.len ∙ omega arith;
      goes = rw c.push.ensures.items
          (sym (goes_on binding_at c.loop.binds.items (32 - c.loop.counter)
          (32 - (c.loop.counter + 1)) c.loop.rest.now c.binding_into.new.bind c.in_ok-rest.rest.now less some c.in_ok-rest.ensures) ∙ c.loop.invariant.goes);
    }

pub returns-then-is_empty-2 : goal.returns-then-is_empty-2
returns-then-is_empty-2 c =
    let none : length c.loop.rest.now ≡ 0 = grind arith in
    sym c.loop.invariant.goes ∙ is_done binding_at c.loop.binds.items (32 - c.loop.counter) c.loop.rest.now none

pub returns-else-is_empty-2 : goal.returns-else-is_empty-2
returns-else-is_empty-2 c =
    let some : length c.loop.rest.now ≢ 0 = grind arith in
    sym c.loop.invariant.goes ∙ is_full binding_at c.loop.binds.items (32 - c.loop.counter) c.loop.rest.now (omega arith) some
