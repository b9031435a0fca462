use Rattle.std.proofs.Common.{◌≡◌, ◌<◌, ◌-◌, ◌*◌, ◌+◌, ◌==◌, Bool, true, false, nat_lt, length, if◌then◌else◌, refl, sym, ap, ◌∙◌, rules, arith}
use Rattle.std.specs.Cmp.{booleans_Decides}
use Rattle.sig_types.specs.declared.phase_set.PhaseSet.{PhaseSet}
use Rattle.sig_types.specs.PhaseSet.{has}
use Rattle.detector_bank.proofs.Counting.{same-item}
use Rattle.detector_bank.proofs.Tallying.{tallies-same, tallies-turned}
use Rattle.detector_bank.proofs.changes.Calling.turn.Goals as goal

pub returns-then-before-now : goal.returns-then-before-now
returns-then-before-now c = λ ds detector_states k p q d low same few is was now t.
    tallies-same c.args.self.now ds detector_states k p q d low same (was ∙ (booleans_Decides c.args.before c.args.now).0 c.if-before-now.true ∙ sym now) t

not-both : {b : Bool} → b ≡ true → b ≡ false → ⊥
not-both e f = absurd (cc)

pub returns : goal.returns
returns c = λ ds detector_states k p q d low same few is was now t.
    let e = c.args.detector.now in
    let n = c.count_after-count.result in
    let long : length c.args.self.now.sets ≡ 64 = search rules in
    let inside : e.cabinet - 1 < length c.args.self.now.sets = omega (arith, long) in
    tallies-turned c.args.self.now _ ds detector_states k p q d e c.args.before c.args.now (e.cabinet - 1) ((e.cabinet - 1) * 16 + (e.phase - 1)) n c.with_or_without.result low same few is was now
    (λ x. not-both ((booleans_Decides c.args.before c.args.now).1 x) c.if-before-now.false) (omega arith) c.requires.least c.requires.most (omega arith) refl (search rules) (search rules)
    c.count_after-count.ensures refl refl
    (λ s m less. c.with_or_without.ensures m less
    ∙ ap (λ (z : PhaseSet). if m + 1 == e.phase then nat_lt 0 n else has z (m + 1)) (same-item c.args.self.now.sets (e.cabinet - 1) _ s inside)) t
