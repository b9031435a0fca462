use Rattle.std.proofs.Common.{◌≡◌, true, false, sym, ◌∙◌, rules}
use Rattle.trace_text.proofs.Octets.{unread_reads, none_upper, none_empty, none_long, some_octets}
use Rattle.trace_text.proofs.pieces.octets_of.Goals as goal

pub returns-in-Err : goal.returns-in-Err
returns-in-Err c = unread_reads _ c.in-Err.error _ c.in-Err.ensures.err c.unread.ensures

pub returns-then-not-branch : goal.returns-then-not-branch
returns-then-not-branch c = none_upper _ _ c.in-Ok.ensures.ok (λ lower.
    let t : true ≡ false = sym (c.in_ok-is_lower.ensures.1 (rw c.deref.ensures.value lower)) ∙ c.if-not-branch.true in cc)

pub returns-then-is_empty : goal.returns-then-is_empty
returns-then-is_empty c = none_empty _ _ c.in-Ok.ensures.ok (search rules)

pub returns-in-Ok-try_from : goal.returns-in-Ok-try_from
returns-in-Ok-try_from c =
    let same = c.in-Ok-try_from.ensures.0 ∙ c.as_slice.ensures.value in
    some_octets _ _ c.in-Ok.ensures.ok (rw c.deref.ensures.value at (c.in_ok-is_lower.ensures.0 c.if-not-branch.false))
    (search rules) _ same (rw c.as_slice.ensures.value at c.in-Ok-try_from.ensures.1)

pub returns : goal.returns
returns c = none_long _ _ c.in-Ok.ensures.ok (rw c.as_slice.ensures.value at c.in-Err-try_from.ensures)
