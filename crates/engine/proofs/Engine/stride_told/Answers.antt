use Rattle.std.proofs.Common.{◌≡◌, ◌≤◌, ◌+◌, ℕ, suc, false, refl, sym, ◌∙◌, ap, arith, subst}
use Rattle.sig_tables.specs.Past.{History}
use Rattle.sig_tables.specs.Decide.{decide, last_frame_of}
use Rattle.tick_context.specs.Strides.{is_told, ticks_more}
use Rattle.engine.specs.EngineStands.{EngineStands}
use Rattle.tick_context.proofs.Striding.{more-more, plain-on, told-by}
use Rattle.engine.proofs.Engine.stride_told.Goals as goal

pub loop-done-init : goal.loop-done-init
loop-done-init g c = record {
  within = omega arith;
  stands = λ h s. s;
  plain = λ h k s few. let e : k ≡ 0 = omega arith in ap (is_told h) e;
  ticks = omega arith;
  installs = refl;
}

pub loop-done-preserved : goal.loop-done-preserved
loop-done-preserved g c =
    let i = c.loop-done.invariant in
    let done : ℕ = c.loop-done.done in
    let more : ℕ = c.pass_on-done.result in
    record {
      within = omega (arith, i.within, c.pass_on-done.ensures.within);
      stands = λ h s.
          let before = i.stands h s in
          let sum : suc done + more ≡ done + 1 + more = omega arith in
          subst (λ (x : History). EngineStands g.M.Memory.remembers c.pass_on-done.new.self x) (more-more more (suc done) h ∙ ap (λ (n : ℕ). ticks_more n h) sum)
          (c.pass_on-done.ensures.stands (ticks_more done h) (c.tick-next.ensures.stands (ticks_more done h) before));
      plain = λ h k s few.
          let before = i.stands h s in
          let now : is_told h (suc done) ≡ false =
          told-by _ _ (last_frame_of (ticks_more done h)) (decide (ticks_more done h)) _ c.has_line.ensures before.context.frame
          (c.tick-next.ensures.decided (ticks_more done h) before)
          ∙ c.if-has_line.false in
          plain-on h done more (λ j less. i.plain h j s less) now
          (λ j less. c.pass_on-done.ensures.plain (ticks_more done h) j (c.tick-next.ensures.stands (ticks_more done h) before) less)
          k few;
      ticks = omega (arith, i.ticks, c.tick-next.ensures.counted, c.pass_on-done.ensures.ticks);
      installs = c.pass_on-done.ensures.installs ∙ c.tick-next.ensures.installs ∙ i.installs;
    }

pub returns-then-has_line-clause-least : goal.returns-then-has_line-clause-least
returns-then-has_line-clause-least g c = λ h s.
    let i = c.loop-done.invariant in
    let done : ℕ = c.loop-done.done in
    let before = i.stands h s in
    let next : done + 1 ≡ suc done = omega arith in
    record {
      some = omega arith;
      within = omega (arith, c.loop-done-test.true);
      plain = λ k less. let few : k ≤ done = omega arith in i.plain h k s few;
      told = λ less.
          ap (is_told h) next
          ∙ told-by _ _ (last_frame_of (ticks_more done h)) (decide (ticks_more done h)) _ c.has_line.ensures before.context.frame
          (c.tick-next.ensures.decided (ticks_more done h) before)
          ∙ c.if-has_line.true;
    }

pub returns-then-has_line-clause-stands : goal.returns-then-has_line-clause-stands
returns-then-has_line-clause-stands g c = λ h s.
    let done : ℕ = c.loop-done.done in
    let next : suc done ≡ done + 1 = omega arith in
    subst (λ (n : ℕ). EngineStands g.M.Memory.remembers c.tick-next.new.self (ticks_more n h)) next
    (c.tick-next.ensures.stands (ticks_more done h) (c.loop-done.invariant.stands h s))

pub returns-clause-least : goal.returns-clause-least
returns-clause-least g c = λ h s.
    let i = c.loop-done.invariant in
    record {
      some = omega (arith, i.within, c.loop-done-test.false);
      within = i.within;
      plain = λ k less. let few : k ≤ c.loop-done.done = omega arith in i.plain h k s few;
      told = λ less. absurd (omega (arith, less, c.loop-done-test.false));
    }

pub returns-clause-stands : goal.returns-clause-stands
returns-clause-stands g c = λ h s. c.loop-done.invariant.stands h s

pub returns-then-has_line-clause-told : goal.returns-then-has_line-clause-told
returns-then-has_line-clause-told g c = λ h s.
    let done : ℕ = c.loop-done.done in
    let next : done + 1 ≡ suc done = omega arith in
    let before = c.loop-done.invariant.stands h s in
    sym (ap (is_told h) next
    ∙ told-by _ _ (last_frame_of (ticks_more done h)) (decide (ticks_more done h)) _ c.has_line.ensures before.context.frame
    (c.tick-next.ensures.decided (ticks_more done h) before)
    ∙ c.if-has_line.true)

pub returns-clause-told : goal.returns-clause-told
returns-clause-told g c = λ h s. let few : c.loop-done.done ≤ c.loop-done.done = omega arith in sym (c.loop-done.invariant.plain h c.loop-done.done s few)
