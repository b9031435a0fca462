use Rattle.std.proofs.Common.{◌≡◌, ◌-◌, if◌then◌else◌, ◌||◌, ◌==◌, ap, sym, ◌∙◌, arith}
use Rattle.std.proofs.lemmas.Bool.{ltb-true}
use Rattle.detector_bank.specs.Bank.{calls}
use Rattle.detector_bank.specs.Watching.{present_at}
use Rattle.detector_bank.proofs.Due.{same-calls}
use Rattle.detector_bank.proofs.watch.Watch.due.Goals as goal

pub returns-then-is_restless : goal.returns-then-is_restless
returns-then-is_restless c = λ ps i now later up low.
    let sum = c.saturating_add.ensures in
    let is : i ≡ c.args.round = grind (arith, sum) in ap (λ n. calls c.args.detector.now ps n) is

pub returns-then-not-self : goal.returns-then-not-self
returns-then-not-self c = λ ps i now later up low.
    let silent = c.from.ensures in
    let extended = c.from-extend.ensures in
    let m = c.earlier.ensures.most in
    same-calls c.args.self.now c.args.detector.now ps c.args.round i now later (record {
      up = up;
      silent = λ soon. let b = c.earlier-silent.ensures.behind (omega (arith, soon, silent)) in omega (arith, b, m, low, silent);
      extended = λ none soon. let b = c.earlier.ensures.behind (omega (arith, soon, extended)) in omega (arith, b, low, extended);
      few = c.is_restless.ensures.quiet c.if-is_restless.false;
      left = c.is_restless.ensures.left c.if-is_restless.false;
      locked = λ on soon. absurd (cc);
      delayed = λ on soon. absurd (cc);
    })

pub returns-then-is_past : goal.returns-then-is_past
returns-then-is_past c = λ ps i now later up low.
    let w = c.args.self.now in
    let d = c.args.detector.now in
    let r = c.args.round in
    let silent = c.from.ensures in
    let locked = c.from-2.ensures in
    let m = c.earlier-locked.ensures.most in
    let past = sym c.is_past.ensures ∙ c.if-is_past.true in
    let more = ltb-true d.delay (present_at w r) past in
    same-calls w d ps r i now later (record {
      up = up;
      silent = λ soon. let x = c.earlier-silent.ensures.behind (omega (arith, soon, silent)) in omega (arith, x, m, low, silent);
      extended = λ none soon. absurd (none c.if-not-self.false past);
      few = c.is_restless.ensures.quiet c.if-is_restless.false;
      left = c.is_restless.ensures.left c.if-is_restless.false;
      locked = λ on soon. let x = c.earlier-locked.ensures.behind (omega (arith, soon, locked)) in omega (arith, x, low, locked);
      delayed = λ on soon.
          let is : present_at w r ≡ r - w.last_inactive = ap (λ b. if b || (w.last_on == r) then r - w.last_inactive else 0) on in absurd (omega (arith, more, is, soon));
    })

pub returns : goal.returns
returns c = λ ps i now later up low.
    let silent = c.from.ensures in
    let extended = c.from-extend.ensures in
    let locked = c.from-2.ensures in
    let delayed = c.from-3.ensures in
    let a = c.earlier-locked.ensures.most in
    let b = c.earlier-extended.ensures.most in
    let e = c.earlier-2.ensures.most in
    same-calls c.args.self.now c.args.detector.now ps c.args.round i now later (record {
      up = up;
      silent = λ soon. let x = c.earlier-silent.ensures.behind (omega (arith, soon, silent)) in omega (arith, x, a, b, e, low, silent);
      extended = λ none soon. let x = c.earlier-extended.ensures.behind (omega (arith, soon, extended)) in omega (arith, x, e, low, extended);
      few = c.is_restless.ensures.quiet c.if-is_restless.false;
      left = c.is_restless.ensures.left c.if-is_restless.false;
      locked = λ on soon. let x = c.earlier-locked.ensures.behind (omega (arith, soon, locked)) in omega (arith, x, b, e, low, locked);
      delayed = λ on soon. let x = c.earlier-2.ensures.behind (omega (arith, soon, delayed)) in omega (arith, x, low, delayed);
    })
