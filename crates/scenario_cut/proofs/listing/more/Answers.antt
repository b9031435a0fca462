use Rattle.std.proofs.Common.{◌≡◌, ◌<◌, ◌≤◌, ◌+◌, true, false, is_some, refl, sym, ◌∙◌, arith}
use Rattle.scenario_cut.specs.Judging.{most_judged}
use Rattle.scenario_cut.specs.declared.listing.Judged.{Judged}
use Rattle.scenario_cut.proofs.Judging.{judged-past, judged-behind, judged-next}
use Rattle.scenario_cut.proofs.listing.more.Goals as goal

pub returns-then-count-most-clause-ok : goal.returns-then-count-most-clause-ok
returns-then-count-most-clause-ok c =
    let old = c.args.judged.now in
    let yes : c.pass.result ≡ true = grind arith in
    let done = c.pass.ensures.passed yes in
    let most : c.most_judged-most.result ≡ most_judged c.args.list = c.most_judged-most.ensures.most in
    let past : most_judged c.args.list < old.count = omega (arith, most, c.if-count-most.true) in
    (done.0, done.1, λ ds j. judged-past c.args.list c.args.extent old ds done.0 past j)

pub returns-then-is_some-clause-ok : goal.returns-then-is_some-clause-ok
returns-then-is_some-clause-ok c =
    let old = c.args.judged.now in
    let new : Judged = record { count = old.count + 1; refusal = old.refusal; found = old.found } in
    let yes : c.pass-then-is_some.result ≡ true = grind arith in
    let done = c.pass-then-is_some.ensures.passed yes in
    let most : c.most_judged-most.result ≡ most_judged c.args.list = c.most_judged-most.ensures.most in
    let low : old.count ≤ most_judged c.args.list = omega (arith, most, c.if-count-most.false) in
    let some : is_some old.refusal ≡ true = sym c.is_some.ensures ∙ c.if-is_some.true in
    (done.0, done.1, λ ds j. judged-behind c.args.list c.args.extent old new ds done.0 low refl refl some j)

pub returns-in-Some-clause-ok : goal.returns-in-Some-clause-ok
returns-in-Some-clause-ok c =
    let old = c.args.judged.now in
    let new : Judged = record { count = old.count + 1; refusal = c.err.result; found = c.judge_next.new.found } in
    let done = c.in-Some.ensures.ok in
    let most : c.most_judged-most.result ≡ most_judged c.args.list = c.most_judged-most.ensures.most in
    let low : old.count ≤ most_judged c.args.list = omega (arith, most, c.if-count-most.false) in
    let clean : is_some old.refusal ≡ false = sym c.is_some.ensures ∙ c.if-is_some.false in
    (done.0, done.1, λ ds j. judged-next c.args.list c.args.extent old new ds done.0 c.in-Some.answer low refl clean c.err.ensures.value (done.2 ds) j)
