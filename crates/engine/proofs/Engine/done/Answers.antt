use Rattle.std.proofs.Common.{refl, sym, ◌∙◌, arith}
use Rattle.std.proofs.lemmas.Bool.{and_parts}
use Rattle.sig_tables.specs.Tables.{is_enabled}
use Rattle.sig_tables.specs.Calls.{is_green}
use Rattle.sig_tables.specs.View.{is_done}
use Rattle.sig_tables.specs.Seen.{frame_seen, view_seen}
use Rattle.sig_tables.proofs.Below.{phase-is}
use Rattle.tick_context.proofs.Seen.{done-not, active-is}
use Rattle.engine.proofs.Visiting.{first-phase, first-in, first-out, visited-start, visited-more, visited-none, visited-all}
use Rattle.engine.proofs.Engine.done.Goals as goal

pub loop-init : goal.loop-init
loop-init g c = λ past r s.
    visited-start c.empty-done.result c.meet-rest.result _ (is_done (view_seen past))
    (λ p h. c.meet-rest.ensures.has p ∙ rw (r.keeps.context.layout.enabled p h, r.keeps.shown.green p h) refl) c.empty-done.ensures.has
    (λ p h out. done-not past p out)

pub loop-preserved : goal.loop-preserved
loop-preserved g c = λ past r s.
    let v = c.loop.invariant past r s in
    let least = c.first-p.ensures.least in
    let at = first-phase c.loop.rest c.first-p.result least c.if-p-eq0.false in
    let h = phase-is c.first-p.result at.0 at.1 in
    let parts = and_parts (is_enabled past.tables c.first-p.result) (is_green (frame_seen past) c.first-p.result)
    (v.taken c.first-p.result h (first-in c.loop.rest c.first-p.result least c.if-p-eq0.false)) in
    visited-more c.loop.done c.loop.rest c.empty.result c.with.result c.with_if-done.result c.minus-rest.result c.loop.counter c.first-p.result _
    (is_done (view_seen past)) c.is_done.result v least c.if-p-eq0.false
    c.empty.ensures.has c.with.ensures.has c.minus-rest.ensures.has c.with_if-done.ensures.has
    (c.is_done.ensures.done past r parts.0 parts.1
    (c.has.ensures.has ∙ active-is _ _ _ (s.quiet c.first-p.result h) parts.1)
    (c.has-in-loop.ensures.has ∙ s.opposed c.first-p.result h))

pub returns-then-p-eq0 : goal.returns-then-p-eq0
returns-then-p-eq0 g c = record {
  done = λ past r s.
      visited-none c.loop.done c.loop.rest c.loop.counter _ (is_done (view_seen past)) (c.loop.invariant past r s)
      (first-out c.loop.rest (sym c.first-p.ensures.least ∙ c.if-p-eq0.true));
}

pub returns : goal.returns
returns g c = record {
  done = λ past r s.
      visited-all c.loop.done c.loop.rest c.loop.counter _ (is_done (view_seen past)) (c.loop.invariant past r s) (omega (arith, c.loop-test.false));
}
