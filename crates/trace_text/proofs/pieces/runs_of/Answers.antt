use Rattle.std.proofs.Common.{◌≡◌, ◌<◌, true, false, sym, ◌∙◌, arith, rules, length}
use Rattle.trace_text.proofs.Journals.{in_plain, plain_at, length-plain, none_word, none_hollow, none_same, next_run, all_runs}
use Rattle.trace_text.proofs.pieces.runs_of.Goals as goal

pub returns-in-None : goal.returns-in-None
returns-in-None c = none_word _ _ _ _ c.loop-word.invariant (in_plain _ _ c.loop-word-test.true) (rw (plain_at _ _ c.loop-word-test.true) c.in-None.ensures)

pub returns-then-run-eq0 : goal.returns-then-run-eq0
returns-then-run-eq0 c = none_hollow _ _ _ _ c.loop-word.invariant (in_plain _ _ c.loop-word-test.true) c.in-Some.run' (rw (plain_at _ _ c.loop-word-test.true) c.in-Some.ensures) c.if-run-eq0.true

pub returns-then-is_pass : goal.returns-then-is_pass
returns-then-is_pass c =
    none_same _ _ _ _ c.loop-word.invariant (in_plain _ _ c.loop-word-test.true) c.in-Some.run' (rw (plain_at _ _ c.loop-word-test.true) c.in-Some.ensures) (c.is_pass.ensures.0 c.if-is_pass.true)

pub loop-word-preserved : goal.loop-word-preserved
loop-word-preserved c =
    rw c.in_ok-push.ensures.items
    (next_run _ _ _ _ c.loop-word.invariant (in_plain _ _ c.loop-word-test.true) c.in-Some.run' (rw (plain_at _ _ c.loop-word-test.true) c.in-Some.ensures) (omega (arith, c.if-run-eq0.false))
    (λ same. let t : true ≡ false = sym (c.is_pass.ensures.1 same) ∙ c.if-is_pass.false in cc))

pub returns : goal.returns
returns c =
    let some : 0 < length c.args.words.now = search rules in
    let same = length-plain c.args.words.now in
    rw c.new.ensures (all_runs _ _ _ _ c.loop-word.invariant (omega (arith, same, c.loop-word-test.false, c.loop-word.auto.word-index-end)) (omega (arith, some, c.loop-word-test.false)))
