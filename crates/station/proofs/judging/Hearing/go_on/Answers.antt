use Rattle.std.proofs.Common.{◌∙◌, ℕ, List, [], refl, sym, subst, arith}
use Rattle.io_edge.specs.Edge.{Appends}
use Rattle.trace_writer.proofs.Handed.{rises_later}
use Rattle.session_words.specs.Unread.{unread}
use Rattle.station.specs.Judging.{JudgesNext}
use Rattle.station.proofs.LogReports.{judge_on, judge_short, judge_whole, judged_here, never_done, still_judges, stops_here, told_log}
use Rattle.station.proofs.judging.Hearing.go_on.Goals as goal

pub lines-init : goal.lines-init
lines-init g c = record {
  on = record { stands = c.requires.stands; goes = λ left old s terms is. is };
  reads = λ exact. refl;
  reads_kept = omega arith;
  writes = λ exact. refl;
  writes_kept = omega arith;
}

pub next-requires : goal.next-requires
next-requires g c = record { stands = c.lines.invariant.on.stands }

pub returns-in-Err-clause-ends : goal.returns-in-Err-clause-ends
returns-in-Err-clause-ends g c = λ left old s terms is.
    let so = c.lines.invariant.on.goes left old s terms is in
    stops_here s terms c.lines.self.judge c.lines.self.judge left _ (unread c.next.new.self.reader (g.S.Source.left c.next.new.source)) old _ _ [] c.lines.number so
    c.in-Err.status _ _ _ (rises_later _ _ _ c.lines.invariant.reads_kept) refl (c.next.ensures.failed c.in-Err.status c.in-Err.is)

pub returns-in-Err-clause-reads : goal.returns-in-Err-clause-reads
returns-in-Err-clause-reads g c = record {
  kept = omega (arith, c.lines.invariant.reads_kept, c.next.ensures.kept);
  done = λ is. absurd (never_done c.in-Err.status _ _ (c.next.ensures.failed c.in-Err.status c.in-Err.is) is);
}

pub returns-in_default : goal.returns-in_default
returns-in_default g c = record {
  ends = λ left old s terms is.
      let so = c.lines.invariant.on.goes left old s terms is in
      let text = c.as_slice.result.now in
      let behind = unread c.next.new.self.reader (g.S.Source.left c.next.new.source) in
      let ahead = unread c.lines.self.reader (g.S.Source.left c.lines.source) in
      let next : JudgesNext c.in-Ok.over s terms so.before c.next.new.self.judge ahead behind text =
      subst (λ (t : List ℕ). JudgesNext c.in-Ok.over s terms so.before c.next.new.self.judge ahead behind t) (sym c.as_slice.ensures.value) (c.in-Ok.ensures.next s terms so.before so.stands) in
      told_log terms c.tell.result text _ _ _ left old _ _ s c.in_default.not-Done (rises_later _ _ _ c.lines.invariant.writes_kept) c.tell.ensures.tells
      (λ front. judge_short s terms c.lines.self.judge c.next.new.self.judge left ahead behind old _ _ text c.lines.number so c.in-Ok.over next front);
  reads = record { kept = omega (arith, c.lines.invariant.reads_kept, c.in-Ok.ensures.kept); done = λ is. absurd (c.in_default.not-Done is) };
  writes = record { kept = omega (arith, c.lines.invariant.writes_kept, c.tell.ensures.writes.kept); done = λ is. absurd (c.in_default.not-Done is) };
}

pub returns-then-over-clause-ends : goal.returns-then-over-clause-ends
returns-then-over-clause-ends g c = λ left old s terms is.
    let so = c.lines.invariant.on.goes left old s terms is in
    let text = c.as_slice.result.now in
    let behind = unread c.next.new.self.reader (g.S.Source.left c.next.new.source) in
    let ahead = unread c.lines.self.reader (g.S.Source.left c.lines.source) in
    let next : JudgesNext c.in-Ok.over s terms so.before c.next.new.self.judge ahead behind text =
    subst (λ (t : List ℕ). JudgesNext c.in-Ok.over s terms so.before c.next.new.self.judge ahead behind t) (sym c.as_slice.ensures.value) (c.in-Ok.ensures.next s terms so.before so.stands) in
    judge_whole s terms c.lines.self.judge c.next.new.self.judge left ahead behind old _ _ text c.lines.number so c.verdict.result c.in-Ok.over _ _ next c.if-over.true c.in-Done.ensures.tells
    (λ before stands. c.verdict.ensures s terms before stands)

pub lines-preserved : goal.lines-preserved
lines-preserved g c = record {
  on = record {
    stands =
        let (s, terms, before, now) = c.lines.invariant.on.stands in
        let (after, so) = still_judges c.in-Ok.over s terms before c.next.new.self.judge _ _ _ (c.in-Ok.ensures.next s terms before now) c.if-over.false in
        (s, terms, after, so);
    goes = λ left old s terms is.
        let so = c.lines.invariant.on.goes left old s terms is in
        let told = subst (λ (t : List ℕ). Appends (g.K.Sink.written c.lines.sink) (g.K.Sink.written c.tell.new.sink) t) c.as_slice.ensures.value c.in-Done.ensures.tells in
        judge_on s terms c.lines.self.judge c.next.new.self.judge left _ _ old _ _ _ c.lines.number so c.in-Ok.over (c.in-Ok.ensures.next s terms so.before so.stands) c.if-over.false told;
  };
  reads = λ exact. c.in-Ok.ensures.exact exact ∙ c.lines.invariant.reads exact;
  reads_kept = omega (arith, c.lines.invariant.reads_kept, c.in-Ok.ensures.kept);
  writes = λ exact. c.in-Done.ensures.writes.done refl exact ∙ c.lines.invariant.writes exact;
  writes_kept = omega (arith, c.lines.invariant.writes_kept, c.in-Done.ensures.writes.kept);
}

pub returns-clause-ends : goal.returns-clause-ends
returns-clause-ends g c = λ left old s terms is.
    let so = c.lines.invariant.on.goes left old s terms is in
    let ahead = unread c.lines.self.reader (g.S.Source.left c.lines.source) in
    judged_here s terms c.lines.self.judge c.lines.self.judge left ahead ahead old _ _ [] c.lines.number so refl
