use Rattle.std.proofs.Common.{◌≡◌, ◌+◌, ◌-◌, ◌*◌, [], true, false, refl, sym, ◌∙◌, arith, drop, get_or, drop_of_length-le}
use Rattle.std.proofs.lemmas.List.{at_drop_more}
use Rattle.std.specs.Str.{all_ascii_digits}
use Rattle.trace_text.proofs.DigitTexts.{none_begins, none_digit, none_within, some_number, read_on, read_on-grows}
use Rattle.trace_text.proofs.numbers.number.Goals as goal

pub returns-then-not-begins_as_number : goal.returns-then-not-begins_as_number
returns-then-not-begins_as_number c = none_begins _ _ c.ranges.max.fits (λ h.
    let t : true ≡ false = sym (c.begins_as_number.ensures.1 h) ∙ c.if-not-begins_as_number.true in cc)

pub returns-then-not-is_ascii_digit : goal.returns-then-not-is_ascii_digit
returns-then-not-is_ascii_digit c = none_digit _ _ c.ranges.max.fits (
    sym c.loop-digit.invariant.digits ∙ at_drop_more all_ascii_digits _ _ 0 c.loop-digit-test.true
    ∙ rw (sym c.is_ascii_digit.ensures.value ∙ c.if-not-is_ascii_digit.true) refl)

pub returns-then-n-from : goal.returns-then-n-from
returns-then-n-from c = none_within _ _ c.ranges.max.fits (
    let n = c.loop-digit.n * 10 + (get_or c.args.word.now c.loop-digit.digit-index 0 - 48) in
    let value = sym c.loop-digit.invariant.value ∙ at_drop_more (read_on c.loop-digit.n) _ _ 0 c.loop-digit-test.true in
    let grows = read_on-grows n (drop (c.loop-digit.digit-index + 1) c.args.word.now) in
    omega (arith, value, grows, c.if-n-from.true, c.from.ensures, c.from-in-loop-digit.ensures))

pub returns : goal.returns
returns c =
    let end : drop c.loop-digit.digit-index c.args.word.now ≡ [] = drop_of_length-le _ c.loop-digit-test.false in
    some_number _ _ c.ranges.max.fits _ c.loop-digit.invariant.within
    (sym c.loop-digit.invariant.value ∙ rw end refl)
    (sym c.loop-digit.invariant.digits ∙ rw end refl)
    (c.begins_as_number.ensures.0 c.if-not-begins_as_number.false)
