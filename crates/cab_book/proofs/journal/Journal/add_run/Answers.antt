use Rattle.std.proofs.Common.{◌≡◌, ◌<◌, ◌+◌, ◌++◌, ◌∷◌, [], replicate, ◌∙◌, ℕ, ◌-◌, length, List, sym, subst, arith}
use Rattle.cabinet_history.specs.Journals.{runs_of, passes_of}
use Rattle.cab_book.specs.Runs.{with_run_last}
use Rattle.cab_book.proofs.Runs.{passes-run, run-longest, last-few, made-longer, made-new, begins-first}
use Rattle.cab_book.proofs.journal.Journal.add_run.Goals as goal
use Rattle.cab_book.proofs.journal.Journal.add_run.Goals.{then-len-gt0+else-last-pass, else-len-gt0}

pub overflow_add-last : goal.overflow_add-last
overflow_add-last c =
    let v = c.args.self.now.runs in
    let less : c.len-len.result - 1 < length v.items = omega (arith, c.len-len.ensures, v.ok.0, c.if-len-gt0.true) in
    omega (arith, last-few v.items c.index-last.result.now (c.len-len.result - 1) c.args.pass less c.index-last.ensures c.if-last-pass.true, c.requires.few)

pub invariant_of-self : goal.invariant_of-self
invariant_of-self c =
    let v = c.args.self.now.runs in
    let last : (c.len-len.result - 1) + 1 ≡ length v.items = omega (arith, c.len-len.ensures, v.ok.0, c.if-len-gt0.true) in
    let made = made-longer v.items c.index-last.result.now (c.len-len.result - 1) c.args.pass c.args.count last c.index-last.ensures c.if-last-pass.true in
    record { longest = subst (λ (r : List (ℕ × ℕ)). r ≡ runs_of (passes_of r)) made (run-longest v.items c.args.pass c.args.count c.requires.some c.args.self.now.longest) }

pub returns-then-last-pass-clause-passes : goal.returns-then-last-pass-clause-passes
returns-then-last-pass-clause-passes c =
    let v = c.args.self.now.runs in
    let last : (c.len-len.result - 1) + 1 ≡ length v.items = omega (arith, c.len-len.ensures, v.ok.0, c.if-len-gt0.true) in
    let made = made-longer v.items c.index-last.result.now (c.len-len.result - 1) c.args.pass c.args.count last c.index-last.ensures c.if-last-pass.true in
    subst (λ (r : List (ℕ × ℕ)). passes_of r ≡ passes_of v.items ++ replicate c.args.count c.args.pass) made (passes-run v.items c.args.pass c.args.count)

pub invariant_of-self-2 : goal.invariant_of-self-2
invariant_of-self-2 c =
    let v = c.args.self.now.runs in
    let made : with_run_last v.items c.args.pass c.args.count ≡ v.items ++ (c.args.pass, c.args.count) ∷ [] = elim c.if-len-gt0.branch [
      | then-len-gt0+else-last-pass w ↦
          let last : (c.len-len.result - 1) + 1 ≡ length v.items = omega (arith, c.len-len.ensures, v.ok.0, w.if-len-gt0.true) in
          made-new v.items w.index-last.result.now (c.len-len.result - 1) c.args.pass c.args.count last w.index-last.ensures w.if-last-pass.false
      | else-len-gt0 w ↦ begins-first v.items c.args.pass c.args.count (omega (arith, c.len-len.ensures, v.ok.0, w.if-len-gt0.false))
    ] in
    record {
      longest = subst (λ (r : List (ℕ × ℕ)). r ≡ runs_of (passes_of r)) (made ∙ sym c.push_reserved.ensures.items) (run-longest v.items c.args.pass c.args.count c.requires.some c.args.self.now.longest);
    }

pub returns-clause-passes : goal.returns-clause-passes
returns-clause-passes c =
    let v = c.args.self.now.runs in
    let made : with_run_last v.items c.args.pass c.args.count ≡ v.items ++ (c.args.pass, c.args.count) ∷ [] = elim c.if-len-gt0.branch [
      | then-len-gt0+else-last-pass w ↦
          let last : (c.len-len.result - 1) + 1 ≡ length v.items = omega (arith, c.len-len.ensures, v.ok.0, w.if-len-gt0.true) in
          made-new v.items w.index-last.result.now (c.len-len.result - 1) c.args.pass c.args.count last w.index-last.ensures w.if-last-pass.false
      | else-len-gt0 w ↦ begins-first v.items c.args.pass c.args.count (omega (arith, c.len-len.ensures, v.ok.0, w.if-len-gt0.false))
    ] in
    subst (λ (r : List (ℕ × ℕ)). passes_of r ≡ passes_of v.items ++ replicate c.args.count c.args.pass) (made ∙ sym c.push_reserved.ensures.items) (passes-run v.items c.args.pass c.args.count)
