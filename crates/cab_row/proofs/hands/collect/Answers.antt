use Rattle.std.proofs.Common.{◌≡◌, ℕ, ◌+◌, [], ◌∷◌, ap, ◌∙◌, subst, arith, All, vec_len}
use Rattle.cab_row.proofs.Sums.{total-append}
use Rattle.cab_row.proofs.Closes.{all_front}
use Rattle.cab_row.specs.declared.worker.Worker.{Worker}
use Rattle.cab_row.specs.Hands.{IsReady, passes_in}
use Rattle.cab_row.proofs.hands.collect.Goals as goal

abbrev size : Worker → ℕ
size w = vec_len w.passes

pub take_all-requires-clause-room : goal.take_all-requires-clause-room
take_all-requires-clause-room g c = let i = c.loop-worker.invariant in let e = c.in-Some.ensures in let w = c.in-Some.worker in
    let all : passes_in c.loop-worker.workers.items ≡ passes_in c.pop.new.self.items + vec_len w.passes = ap passes_in e.items ∙ (let more = total-append size c.pop.new.self.items (w ∷ []) in omega (arith, more)) in
    omega (arith, all, i.2, i.3, c.requires.list.1)

pub loop-worker-preserved : goal.loop-worker-preserved
loop-worker-preserved g c = let R = IsReady g.row.B.coded.code g.B.Logged.left_of c.args.row.now in let i = c.loop-worker.invariant in let e = c.in-Some.ensures in let w = c.in-Some.worker in
    let all : passes_in c.loop-worker.workers.items ≡ passes_in c.pop.new.self.items + vec_len w.passes = ap passes_in e.items ∙ (let more = total-append size c.pop.new.self.items (w ∷ []) in omega (arith, more)) in
    let t = all_front R c.pop.new.self.items w (subst (All R) e.items i.0) in (
      t.0,
      c.take_all.ensures.passes,
      omega (arith, all, i.2, c.take_all.ensures.count),
      c.take_all.ensures.room ∙ i.3,
    )
