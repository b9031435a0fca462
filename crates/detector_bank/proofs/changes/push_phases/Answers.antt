use Rattle.std.proofs.Common.{◌≡◌, ◌+◌, ◌-◌, ◌==◌, ◌++◌, ℕ, refl, sym, ap, ◌∙◌, append-nil, add-one, arith}
use Rattle.std.specs.Int.{bit_at}
use Rattle.std.proofs.lemmas.Bool.Decides.{Decides-eqb}
use Rattle.detector_bank.specs.Bank.{called}
use Rattle.detector_bank.specs.Lists.{phase_changes, all_phases_changes}
use Rattle.detector_bank.proofs.Calling.{no-changes, phases-next}
use Rattle.detector_bank.proofs.changes.push_phases.Goals as goal

pub returns-then-eq : goal.returns-then-eq
unfolding all_phases_changes
returns-then-eq c = λ ds ps j r a b.
    let cabinet = c.args.cabinet in
    let same : c.args.now.0 ≡ c.args.before.0 = (Decides-eqb c.args.now.0 c.args.before.0).0 (sym c.if-eq.ensures) in
    sym (append-nil c.args.calls.now.items)
    ∙ ap (λ xs. c.args.calls.now.items ++ xs)
    (sym (no-changes ds ps j cabinet 16 (λ p some few.
    ap (λ n. called ds ps cabinet p n) (sym (add-one j)) ∙ sym (a p some few) ∙ ap (λ (n : ℕ). bit_at n (p - 1) == 1) same ∙ b p some few)))

pub loop-done-preserved : goal.loop-done-preserved
loop-done-preserved c = λ ds ps j r a b.
    let n = c.loop-done.done in
    phases-next ds ps j c.args.cabinet n c.args.round (n + 1) c.has.result c.has-in-loop-done.result c.args.calls.now.items c.loop-done.calls.items _ r refl
    (c.has.ensures.has ∙ a (n + 1) (omega arith) (omega arith)) (c.has-in-loop-done.ensures.has ∙ b (n + 1) (omega arith) (omega arith))
    (c.loop-done.invariant ds ps j r a b) c.in_ok-push_change.ensures

pub returns : goal.returns
unfolding all_phases_changes
returns c = λ ds ps j r a b.
    let whole : c.loop-done.done ≡ 16 = omega arith in
    c.loop-done.invariant ds ps j r a b ∙ ap (λ n. c.args.calls.now.items ++ phase_changes ds ps j c.args.cabinet n) whole
