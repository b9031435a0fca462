use Rattle.std.proofs.Common.{◌≡◌, ◌≤◌, ◌&&◌, Bool, true, sym, ◌∙◌, ap, arith}
use Rattle.sig_types.specs.Phases.{is_in, some}
use Rattle.sig_tables.specs.Sides.{are_incompatible}
use Rattle.sig_tables.specs.Calls.{is_green, opposed_of}
use Rattle.sig_tables.specs.Seen.{frame_seen}
use Rattle.sig_tables.proofs.Below.{phase-is}
use Rattle.tick_context.proofs.Opposing.{some-common}
use Rattle.tick_context.proofs.Seen.{opposed-by}
use Rattle.engine.proofs.Visiting.{first-phase, first-in, first-out, visited-start, visited-more, visited-none, visited-all}
use Rattle.engine.proofs.Engine.opposed.Goals as goal

pub loop-init : goal.loop-init
loop-init g c = λ past phases k d.
    visited-start c.empty-opposed.result c.args.self.now.shown.green _ (is_in (opposed_of past.tables (frame_seen past) phases))
    k.shown.green c.empty-opposed.ensures.has
    (λ p h out. sym (opposed-by past phases p h ∙ ap (λ (b : Bool). b && some (are_incompatible past.tables p) phases) out))

pub loop-preserved : goal.loop-preserved
loop-preserved g c = λ past phases k d.
    let v = c.loop.invariant past phases k d in
    let least = c.first-p.ensures.least in
    let at = first-phase c.loop.rest c.first-p.result least c.if-p-eq0.false in
    let h = phase-is c.first-p.result at.0 at.1 in
    let green : is_green (frame_seen past) c.first-p.result ≡ true = v.taken c.first-p.result h
    (first-in c.loop.rest c.first-p.result least c.if-p-eq0.false) in
    visited-more c.loop.opposed c.loop.rest c.empty.result c.with.result c.with_if-opposed.result c.minus-rest.result c.loop.counter c.first-p.result _
    (is_in (opposed_of past.tables (frame_seen past) phases)) _ v least c.if-p-eq0.false
    c.empty.ensures.has c.with.ensures.has c.minus-rest.ensures.has c.with_if-opposed.ensures.has
    (some-common (are_incompatible past.tables c.first-p.result) _ c.args.demand c.meet-both.result _ phases
    (k.context.layout.incompatible c.first-p.result h) c.meet-both.ensures.has c.is_empty.ensures.empty d
    ∙ sym (opposed-by past phases c.first-p.result h ∙ ap (λ (b : Bool). b && some (are_incompatible past.tables c.first-p.result) phases) green))

pub returns-then-p-eq0 : goal.returns-then-p-eq0
returns-then-p-eq0 g c = record {
  opposed = λ past phases k d.
      visited-none c.loop.opposed c.loop.rest c.loop.counter _ (is_in (opposed_of past.tables (frame_seen past) phases)) (c.loop.invariant past phases k d)
      (first-out c.loop.rest (sym c.first-p.ensures.least ∙ c.if-p-eq0.true));
}

pub returns : goal.returns
returns g c = record {
  opposed = λ past phases k d.
      visited-all c.loop.opposed c.loop.rest c.loop.counter _ (is_in (opposed_of past.tables (frame_seen past) phases)) (c.loop.invariant past phases k d) (omega (arith, c.loop-test.false));
}

pub bounds-self-p : goal.bounds-self-p
bounds-self-p g c =
    let at = first-phase c.loop.rest c.first-p.result c.first-p.ensures.least c.if-p-eq0.false in
    let few : c.first-p.result ≤ 16 = at.1 in
    omega (arith, few)

pub with_if-opposed-requires-clause-within : goal.with_if-opposed-requires-clause-within
with_if-opposed-requires-clause-within g c = (first-phase c.loop.rest c.first-p.result c.first-p.ensures.least c.if-p-eq0.false).1
