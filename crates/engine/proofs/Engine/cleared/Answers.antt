use Rattle.std.proofs.Common.{◌≡◌, ◌&&◌, Bool, true, sym, ◌∙◌, ap, arith}
use Rattle.sig_tables.specs.Calls.{is_green}
use Rattle.sig_tables.specs.Goals.{is_cleared}
use Rattle.sig_tables.specs.Seen.{frame_seen, mode_seen, view_seen}
use Rattle.sig_tables.proofs.Below.{phase-is}
use Rattle.ring_barrier.specs.Shows.{is_leaving}
use Rattle.engine.proofs.Visiting.{first-phase, first-in, first-out, visited-start, visited-more, visited-none, visited-all}
use Rattle.engine.proofs.Running.{runs-context}
use Rattle.engine.proofs.Engine.cleared.Goals as goal

pub loop-init : goal.loop-init
loop-init g c = λ past r.
    visited-start c.empty-cleared.result c.args.self.now.shown.green _ (is_leaving (view_seen past))
    r.keeps.shown.green c.empty-cleared.ensures.has
    (λ p h out. sym (ap (λ (b : Bool). b && is_cleared (mode_seen past) past.tables past.moments p) out))

pub loop-preserved : goal.loop-preserved
loop-preserved g c = λ past r.
    let v = c.loop.invariant past r in
    let least = c.first-p.ensures.least in
    let at = first-phase c.loop.rest c.first-p.result least c.if-p-eq0.false in
    let h = phase-is c.first-p.result at.0 at.1 in
    let green : is_green (frame_seen past) c.first-p.result ≡ true = v.taken c.first-p.result h
    (first-in c.loop.rest c.first-p.result least c.if-p-eq0.false) in
    visited-more c.loop.cleared c.loop.rest c.empty.result c.with.result c.with_if-cleared.result c.minus-rest.result c.loop.counter c.first-p.result _
    (is_leaving (view_seen past)) c.is_cleared.result v least c.if-p-eq0.false
    c.empty.ensures.has c.with.ensures.has c.minus-rest.ensures.has c.with_if-cleared.ensures.has
    (c.is_cleared.ensures.cleared past r.keeps.memory (runs-context _ _ past r) green
    ∙ sym (ap (λ (b : Bool). b && is_cleared (mode_seen past) past.tables past.moments c.first-p.result) green))

pub returns-then-p-eq0 : goal.returns-then-p-eq0
returns-then-p-eq0 g c = record {
  cleared = λ past r.
      visited-none c.loop.cleared c.loop.rest c.loop.counter _ (is_leaving (view_seen past)) (c.loop.invariant past r)
      (first-out c.loop.rest (sym c.first-p.ensures.least ∙ c.if-p-eq0.true));
}

pub returns : goal.returns
returns g c = record {
  cleared = λ past r.
      visited-all c.loop.cleared c.loop.rest c.loop.counter _ (is_leaving (view_seen past)) (c.loop.invariant past r) (omega (arith, c.loop-test.false));
}
