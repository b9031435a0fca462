use Rattle.std.proofs.Common.{◌≡◌, ◌∙◌, ◌+◌, ℕ, List, ◌∷◌, drop, drop-cons, add-one, get_or, ap, sym, arith}
use Rattle.sig_types.specs.Phases.{those}
use Rattle.sig_tables.specs.declared.tables.SplitEntry.{SplitEntry}
use Rattle.sig_tables.specs.Sums.{sum_of}
use Rattle.sig_tables.specs.Slots.{split_time, pattern_order}
use Rattle.sig_tables.specs.Laying.{time_of}
use Rattle.rule_book.proofs.Summed.{holds-test, sum-more, sum-same}
use Rattle.rule_book.proofs.patterns.time_within.Goals as goal
use Rattle.rule_book.proofs.patterns.time_within.Goals.{then-holds, else-holds}

pub loop-octet-preserved : goal.loop-octet-preserved
loop-octet-preserved c =
    let xs : List ℕ = c.pattern_order-octet-items.result.now in
    let x : ℕ = get_or xs c.loop-octet.octet-index 0 in
    let rest : List ℕ = drop (c.loop-octet.octet-index + 1) xs in
    let next : drop c.loop-octet.octet-index xs ≡ x ∷ rest = rw add-one (drop-cons xs c.loop-octet.octet-index 0 c.loop-octet-test.true) in
    let order : xs ≡ pattern_order c.args.tables.now c.args.pattern c.args.ring = c.pattern_order-octet-items.ensures.order in
    record {
      few = elim c.if-holds.branch [
        | then-holds w ↦ let e : c.if-holds.time ≡ c.loop-octet.time + w.time_of-time.result = w.time-is in
            omega (arith, c.loop-octet.invariant.few, w.time_of-time.ensures.most)
        | else-holds w ↦ let e : c.if-holds.time ≡ c.loop-octet.time = w.time-is in omega (arith, c.loop-octet.invariant.few)
      ];
      so_far = λ test phases has.
          rw (sym order) (elim c.if-holds.branch [
            | then-holds w ↦ sum-more (split_time c.args.tables.now c.args.pattern) test x c.loop-octet.time c.if-holds.time rest
                (sym (holds-test c.args.set test x phases has) ∙ sym c.holds.ensures ∙ w.if-holds.true)
                (w.time-is ∙ ap (λ (k : ℕ). c.loop-octet.time + k) (w.time_of-time.ensures.time
                ∙ ap (λ (entries : List SplitEntry). time_of entries x) c.entries-entries.ensures.entries))
            | else-holds w ↦ sum-same (split_time c.args.tables.now c.args.pattern) test x c.loop-octet.time c.if-holds.time rest
                (sym (holds-test c.args.set test x phases has) ∙ sym c.holds.ensures ∙ w.if-holds.false) w.time-is
          ] ∙ ap (λ (ys : List ℕ). c.loop-octet.time + sum_of (split_time c.args.tables.now c.args.pattern) (those test ys)) (sym next)
          ∙ rw order (c.loop-octet.invariant.so_far test phases has));
    }
