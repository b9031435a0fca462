use Rattle.std.proofs.Common.{refl, sym, ◌∙◌, arith}
use Rattle.std.proofs.lemmas.Bool.{and_parts}
use Rattle.sig_types.specs.declared.frame.Colour.TheVariants.{Red}
use Rattle.sig_types.specs.Colour.{same_colour, colour_of}
use Rattle.sig_tables.specs.Tables.{is_enabled}
use Rattle.sig_tables.specs.View.{is_startable}
use Rattle.sig_tables.specs.Seen.{frame_seen, view_seen}
use Rattle.sig_tables.proofs.Below.{phase-is}
use Rattle.tick_context.proofs.Seen.{startable-not}
use Rattle.engine.proofs.Visiting.{first-phase, first-in, first-out, visited-start, visited-more, visited-none, visited-all}
use Rattle.engine.proofs.Engine.startable.Goals as goal

pub loop-init : goal.loop-init
loop-init g c = λ past k.
    visited-start c.empty-startable.result c.meet-rest.result _ (is_startable (view_seen past))
    (λ p h. c.meet-rest.ensures.has p ∙ rw (k.context.layout.enabled p h, k.shown.red p h) refl) c.empty-startable.ensures.has
    (λ p h out. startable-not past p out)

pub loop-preserved : goal.loop-preserved
loop-preserved g c = λ past k.
    let v = c.loop.invariant past k in
    let least = c.first-p.ensures.least in
    let at = first-phase c.loop.rest c.first-p.result least c.if-p-eq0.false in
    let h = phase-is c.first-p.result at.0 at.1 in
    let parts = and_parts (is_enabled past.tables c.first-p.result) (same_colour (colour_of (frame_seen past) c.first-p.result) Red)
    (v.taken c.first-p.result h (first-in c.loop.rest c.first-p.result least c.if-p-eq0.false)) in
    visited-more c.loop.startable c.loop.rest c.empty.result c.with.result c.with_if-startable.result c.minus-rest.result c.loop.counter c.first-p.result _
    (is_startable (view_seen past)) c.is_startable.result v least c.if-p-eq0.false
    c.empty.ensures.has c.with.ensures.has c.minus-rest.ensures.has c.with_if-startable.ensures.has
    (c.is_startable.ensures.startable past k.memory k.context parts.0 parts.1)

pub returns-then-p-eq0 : goal.returns-then-p-eq0
returns-then-p-eq0 g c = record {
  startable = λ past k.
      visited-none c.loop.startable c.loop.rest c.loop.counter _ (is_startable (view_seen past)) (c.loop.invariant past k)
      (first-out c.loop.rest (sym c.first-p.ensures.least ∙ c.if-p-eq0.true));
}

pub returns : goal.returns
returns g c = record {
  startable = λ past k.
      visited-all c.loop.startable c.loop.rest c.loop.counter _ (is_startable (view_seen past)) (c.loop.invariant past k) (omega (arith, c.loop-test.false));
}
