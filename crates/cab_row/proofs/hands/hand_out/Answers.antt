use Rattle.std.proofs.Common.{◌≡◌, ℕ, ◌<◌, length, refl, sym, ap, ◌∙◌, subst, arith, All, vec_len, vec_capacity, ◌%◌, mod-lt, get_or, set, length-set, get_or-set_same, get_or-set_other}
use mathlib.Core.Logic.{dite}
use native.Mathlib.Decide.{ℕ_discrete}
use Rattle.cab_row.specs.declared.pass.Pass.{Pass}
use Rattle.std.proofs.lemmas.List.Elements.{All-nil, All-set, All-push}
use Rattle.cab_row.specs.Passes.{IsPassOf}
use Rattle.cab_row.proofs.Closes.{all_front}
use Rattle.cab_row.specs.declared.worker.Worker.{Worker}
use Rattle.cab_row.specs.Hands.{IsReady}
use Rattle.cab_row.proofs.Carried.{total_none, total_changed, one_at_most}
use Rattle.cab_row.proofs.hands.hand_out.Goals as goal

abbrev size : Worker → ℕ
size w = vec_len w.passes

-- the pass is the turn of the worker at this place
abbrev IsInTurn : ℕ → ℕ → Pass → Type 0
IsInTurn count place x = x.number % count ≡ place

pub loop-pass-init : goal.loop-pass-init
loop-pass-init g c = let P = IsPassOf g.row.B.coded.code g.B.Logged.left_of c.args.row.now in let ws = c.args.workers.now.items in let idle = c.requires.workers.1 in (
  (λ k d less. (subst (All P) (sym (idle k d less).0) (All-nil P), (idle k d less).1)),
  c.requires.list.0,
  omega (arith, total_none size ws (λ k d less. (get_or ws k d).passes.ok.0 ∙ ap length (idle k d less).0)),
  refl,
  refl,
  λ k d less. subst (All (IsInTurn (vec_len c.args.workers.now) k)) (sym (idle k d less).0) (All-nil (IsInTurn (vec_len c.args.workers.now) k)),
)

pub push_reserved-requires : goal.push_reserved-requires
push_reserved-requires g c = let i = c.loop-pass.invariant in let ws = c.loop-pass.workers.items in let n : ℕ = c.number.result % c.len-count.result in
    let some : 0 < c.len-count.result = omega (arith, c.len-count.ensures, c.requires.workers.0) in
    let inside : n < length ws = omega (arith, mod-lt c.number.result some, c.len-count.ensures, i.3, c.loop-pass.workers.ok.0) in
    let here = c.index_mut.ensures.value in let ready = i.0 n c.index_mut.result.now inside in
    omega (arith, ap size here, one_at_most size ws n c.index_mut.result.now inside, i.2, c.in-Some.ensures.len, c.requires.list.1, ready.1, ap (λ (w : Worker). vec_capacity w.passes) here)

pub loop-pass-preserved : goal.loop-pass-preserved
loop-pass-preserved g c = let P = IsPassOf g.row.B.coded.code g.B.Logged.left_of c.args.row.now in let R = IsReady g.row.B.coded.code g.B.Logged.left_of c.args.row.now in
    let i = c.loop-pass.invariant in let e = c.in-Some.ensures in let ws = c.loop-pass.workers.items in let n : ℕ = c.number.result % c.len-count.result in
    let some : 0 < c.len-count.result = omega (arith, c.len-count.ensures, c.requires.workers.0) in
    let inside : n < length ws = omega (arith, mod-lt c.number.result some, c.len-count.ensures, i.3, c.loop-pass.workers.ok.0) in
    let here = c.index_mut.ensures.value in let ready = i.0 n c.index_mut.result.now inside in let push = c.push_reserved.ensures in
    let t = all_front P c.pop.new.self.items c.in-Some.pass (subst (All P) e.items i.1) in
    let more : Worker = record { passes = c.push_reserved.new.self } in
    let count = vec_len c.args.workers.now in let pass = c.in-Some.pass in
    let its_turn : IsInTurn count n pass = ap (λ m. m % count) (sym c.number.ensures) ∙ ap (λ m. c.number.result % m) (sym c.len-count.ensures) in
    let turns : All (IsInTurn count n) more.passes.items = subst (All (IsInTurn count n)) (sym push.items) (All-push (IsInTurn count n) c.index_mut.result.now.passes.items pass
    (subst (λ (w : Worker). All (IsInTurn count n) w.passes.items) (sym here) (i.5 n c.index_mut.result.now inside)) its_turn) in (
      All-set R ws n more (
        subst (All P) (sym push.items) (All-push P c.index_mut.result.now.passes.items c.in-Some.pass (subst (λ (w : Worker). All P w.passes.items) (sym here) ready.0) t.1),
        omega (arith, push.capacity, ap (λ (w : Worker). vec_capacity w.passes) here, ready.1),
      ) i.0,
      t.0,
      omega (arith, total_changed size ws n more c.index_mut.result.now inside, ap size here, i.2, e.len, push.len),
      i.3,
      c.pop.ensures.capacity ∙ i.4,
      λ k d less. dite (ℕ_discrete k n)
          (λ same. subst (λ j. All (IsInTurn count j) (get_or (set ws n more) j d).passes.items) (sym same) (subst (λ (w : Worker). All (IsInTurn count n) w.passes.items) (sym (get_or-set_same ws n more d inside)) turns))
          (λ other. subst (λ (w : Worker). All (IsInTurn count k) w.passes.items) (sym (get_or-set_other ws n k more d other)) (i.5 k d (omega (arith, length-set ws n more, less)))),
    )
