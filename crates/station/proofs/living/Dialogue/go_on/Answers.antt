use Rattle.std.proofs.Common.{◌∙◌, ℕ, List, refl, sym, subst, arith}
use Rattle.io_edge.specs.Edge.{Appends}
use Rattle.trace_writer.proofs.Handed.{rises_later}
use Rattle.session_words.specs.Unread.{unread}
use Rattle.station.specs.Living.{AnswersNext}
use Rattle.station.proofs.Sessions.{answer_on, answer_whole, answer_short, short_here, since_first, still_stands, stopped_ends, told_ends}
use Rattle.station.proofs.living.Dialogue.go_on.Goals as goal

pub lines-init : goal.lines-init
lines-init g c = record {
  on = record { stands = c.requires.stands; goes = λ left old s h stands is. (h, stands, is) };
  reads = λ exact. refl;
  reads_kept = omega arith;
  writes = λ exact. refl;
  writes_kept = omega arith;
}

pub next-requires : goal.next-requires
next-requires g c = record { stands = c.lines.invariant.on.stands }

pub returns-in-Err-clause-ends : goal.returns-in-Err-clause-ends
returns-in-Err-clause-ends g c = λ left old s h stands is.
    let (now, still, so) = c.lines.invariant.on.goes left old s h stands is in
    stopped_ends c.in-Err.status _ _ left old _ s
    (since_first c.in-Err.status _ _ (rises_later _ _ _ c.lines.invariant.reads_kept) (c.next.ensures.failed c.in-Err.status c.in-Err.is))
    (short_here s left _ old _ now so)

pub returns-in_default : goal.returns-in_default
returns-in_default g c = record {
  ends = λ left old s h stands is.
      let (now, still, so) = c.lines.invariant.on.goes left old s h stands is in
      let text = c.as_slice.result.now in
      let behind = unread c.next.new.self.reader (g.S.Source.left c.next.new.source) in
      let ahead = unread c.lines.self.reader (g.S.Source.left c.lines.source) in
      let next : AnswersNext c.in-Ok.over s now c.next.new.self.session ahead behind text =
      subst (λ (t : List ℕ). AnswersNext c.in-Ok.over s now c.next.new.self.session ahead behind t) (sym c.as_slice.ensures.value) (c.in-Ok.ensures.next s now still) in
      told_ends c.tell.result text _ _ _ left old _ _ s c.in_default.not-Done (rises_later _ _ _ c.lines.invariant.writes_kept) c.tell.ensures.tells
      (λ front. answer_short s now c.next.new.self.session left ahead behind old _ _ text c.in-Ok.over so next front);
  reads = record { kept = omega (arith, c.lines.invariant.reads_kept, c.in-Ok.ensures.kept); done = λ is. absurd (c.in_default.not-Done is) };
  writes = record { kept = omega (arith, c.lines.invariant.writes_kept, c.tell.ensures.writes.kept); done = λ is. absurd (c.in_default.not-Done is) };
}

pub returns-then-over-clause-ends : goal.returns-then-over-clause-ends
returns-then-over-clause-ends g c = λ left old s h stands is.
    let (now, still, so) = c.lines.invariant.on.goes left old s h stands is in
    let text = c.as_slice.result.now in
    let behind = unread c.next.new.self.reader (g.S.Source.left c.next.new.source) in
    let ahead = unread c.lines.self.reader (g.S.Source.left c.lines.source) in
    let next : AnswersNext c.in-Ok.over s now c.next.new.self.session ahead behind text =
    subst (λ (t : List ℕ). AnswersNext c.in-Ok.over s now c.next.new.self.session ahead behind t) (sym c.as_slice.ensures.value) (c.in-Ok.ensures.next s now still) in
    answer_whole s now c.next.new.self.session left ahead behind old _ _ text c.in-Ok.over so next c.if-over.true c.in-Done.ensures.tells

pub lines-preserved : goal.lines-preserved
lines-preserved g c = record {
  on = record {
    stands =
        let (s, now, still) = c.lines.invariant.on.stands in
        let (next, so) = still_stands c.in-Ok.over s now c.next.new.self.session _ _ _ (c.in-Ok.ensures.next s now still) c.if-over.false in
        (s, next, so);
    goes = λ left old s h stands is.
        let (now, still, so) = c.lines.invariant.on.goes left old s h stands is in
        let told = subst (λ (t : List ℕ). Appends (g.K.Sink.written c.lines.sink) (g.K.Sink.written c.tell.new.sink) t) c.as_slice.ensures.value c.in-Done.ensures.tells in
        answer_on s now c.next.new.self.session left _ _ old _ _ _ c.in-Ok.over so (c.in-Ok.ensures.next s now still) c.if-over.false told;
  };
  reads = λ exact. c.in-Ok.ensures.exact exact ∙ c.lines.invariant.reads exact;
  reads_kept = omega (arith, c.lines.invariant.reads_kept, c.in-Ok.ensures.kept);
  writes = λ exact. c.in-Done.ensures.writes.done refl exact ∙ c.lines.invariant.writes exact;
  writes_kept = omega (arith, c.lines.invariant.writes_kept, c.in-Done.ensures.writes.kept);
}

pub returns-clause-ends : goal.returns-clause-ends
returns-clause-ends g c = λ left old s h stands is.
    let (now, still, so) = c.lines.invariant.on.goes left old s h stands is in short_here s left _ old _ now so
