use Rattle.std.proofs.Common.{◌≡◌, ◌+◌, ◌<◌, ◌≤◌, true, false, is_some, sym, ◌∙◌, subst, arith}
use Rattle.serde_json.specs.Data.{item, no_items}
use Rattle.scenario_cut.specs.Growing.{both}
use Rattle.field_read.specs.Judging.{IsJudged}
use Rattle.field_read.proofs.Judging.{judged-past, judged-behind, judged-next}
use Rattle.field_read.proofs.judged.more.Goals as goal

pub returns-then-count-gt1000000-clause-ok : goal.returns-then-count-gt1000000-clause-ok
returns-then-count-gt1000000-clause-ok c =
    let old = c.args.judged.now in
    let yes : c.pass.result ≡ true = grind arith in
    let done = c.pass.ensures.passed yes in
    let past : 1000000 < old.count = omega (arith, c.if-count-gt1000000.true) in
    (done.0, done.1, λ ds j. judged-past c.args.extent old ds done.0 past j)

pub returns-then-is_some-clause-ok : goal.returns-then-is_some-clause-ok
returns-then-is_some-clause-ok c =
    let old = c.args.judged.now in
    let yes : c.pass-then-is_some.result ≡ true = grind arith in
    let done = c.pass-then-is_some.ensures.passed yes in
    let low : old.count ≤ 1000000 = omega (arith, c.if-count-gt1000000.false) in
    let some : is_some old.refusal ≡ true = sym c.is_some.ensures ∙ c.if-is_some.true in
    (done.0, done.1, λ ds j. judged-behind c.args.extent old ds done.0 low some j)

pub returns-in-Some-clause-ok : goal.returns-in-Some-clause-ok
returns-in-Some-clause-ok c =
    let old = c.args.judged.now in
    let done = c.in-Some.ensures.ok in
    let low : old.count ≤ 1000000 = omega (arith, c.if-count-gt1000000.false) in
    let none : is_some old.refusal ≡ false = sym c.is_some.ensures ∙ c.if-is_some.false in (
      done.0,
      done.1,
      λ ds j. subst (λ o. IsJudged c.args.extent (record { count = old.count + 1; refusal = o }) (both ds (item done.0 no_items))) (sym c.err.ensures.value)
          (judged-next c.args.extent old ds done.0 c.in-Some.answer low none done.2 j),
    )
