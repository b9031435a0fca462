use Rattle.std.proofs.Common.{◌<◌, ◌∙◌, List, ℕ, Ok, length, ap, arith}
use Rattle.session_words.specs.Unread.{held_of, unread, ahead_of}
use Rattle.session_words.proofs.Held.{ahead-none, first-long, first-ends, first-goes, first-lacks, line-is, behind-is, last-is, last-behind, ended-told}
use Rattle.session_words.proofs.line_reader.LineReader.first.Goals as goal

pub returns-then-len-limit-clause-long : goal.returns-then-len-limit-clause-long
returns-then-len-limit-clause-long g c = λ e.
    let long : c.args.limit < length c.take_line.new.line.items = omega (arith, c.take_line.new.line.ok.0) in
    first-long (g.S.Source.left c.args.source.now) (g.S.Source.left c.loop-ended.source) (held_of c.loop-ended.self) (held_of c.take_line.new.self)
    c.loop-ended.line.items c.take_line.new.line.items c.args.limit c.in-Ok.ended c.loop-ended.invariant.front c.loop-ended.invariant.lacks
    (λ is. c.in-Ok.ensures.ended (ap Ok is)) (λ is. c.in-Ok.ensures.unended (ap Ok is)) long

pub returns-then-ended-clause-line : goal.returns-then-ended-clause-line
returns-then-ended-clause-line g c =
    line-is (g.S.Source.left c.args.source.now) (unread c.take_line.new.self (g.S.Source.left c.loop-ended.source)) c.take_line.new.line.items
    (first-ends (g.S.Source.left c.args.source.now) (g.S.Source.left c.loop-ended.source) (held_of c.loop-ended.self) (held_of c.take_line.new.self)
    c.loop-ended.line.items c.take_line.new.line.items c.loop-ended.invariant.front c.loop-ended.invariant.lacks (c.in-Ok.ensures.ended (ap Ok c.if-ended.true)))

pub returns-then-ended-clause-behind : goal.returns-then-ended-clause-behind
returns-then-ended-clause-behind g c =
    behind-is (g.S.Source.left c.args.source.now) (unread c.take_line.new.self (g.S.Source.left c.loop-ended.source)) c.take_line.new.line.items
    (first-ends (g.S.Source.left c.args.source.now) (g.S.Source.left c.loop-ended.source) (held_of c.loop-ended.self) (held_of c.take_line.new.self)
    c.loop-ended.line.items c.take_line.new.line.items c.loop-ended.invariant.front c.loop-ended.invariant.lacks (c.in-Ok.ensures.ended (ap Ok c.if-ended.true)))

pub returns-then-count-eq0-clause-line : goal.returns-then-count-eq0-clause-line
returns-then-count-eq0-clause-line g c =
    let on = c.in-Ok.ensures.unended (ap Ok c.if-ended.false) in
    last-is (g.S.Source.left c.args.source.now) (g.S.Source.left c.loop-ended.source) c.take_line.new.line.items
    (first-goes (g.S.Source.left c.args.source.now) (g.S.Source.left c.loop-ended.source) (held_of c.loop-ended.self) c.loop-ended.line.items c.take_line.new.line.items
    c.loop-ended.invariant.front on.0)
    (first-lacks (held_of c.loop-ended.self) c.loop-ended.line.items c.take_line.new.line.items c.loop-ended.invariant.lacks on.1 on.0)
    (ended-told (held_of c.fill.new.self) (held_of c.take_line.new.self) (g.S.Source.left c.loop-ended.source) (g.S.Source.left c.fill.new.source)
    c.in-Ok-fill.ensures.same (c.in-Ok-fill.ensures.held c.if-count-eq0.true) on.2 (c.in-Ok-fill.ensures.ended c.if-count-eq0.true))

pub returns-then-count-eq0-clause-behind : goal.returns-then-count-eq0-clause-behind
returns-then-count-eq0-clause-behind g c =
    let on = c.in-Ok.ensures.unended (ap Ok c.if-ended.false) in
    c.in-Ok-fill.ensures.same ∙ ap (λ (h : List ℕ). ahead_of h (g.S.Source.left c.loop-ended.source)) on.2 ∙ ahead-none (g.S.Source.left c.loop-ended.source)
    ∙ last-behind (g.S.Source.left c.args.source.now) (g.S.Source.left c.loop-ended.source) c.take_line.new.line.items
    (first-goes (g.S.Source.left c.args.source.now) (g.S.Source.left c.loop-ended.source) (held_of c.loop-ended.self) c.loop-ended.line.items c.take_line.new.line.items
    c.loop-ended.invariant.front on.0)
    (first-lacks (held_of c.loop-ended.self) c.loop-ended.line.items c.take_line.new.line.items c.loop-ended.invariant.lacks on.1 on.0)
    (ended-told (held_of c.fill.new.self) (held_of c.take_line.new.self) (g.S.Source.left c.loop-ended.source) (g.S.Source.left c.fill.new.source)
    c.in-Ok-fill.ensures.same (c.in-Ok-fill.ensures.held c.if-count-eq0.true) on.2 (c.in-Ok-fill.ensures.ended c.if-count-eq0.true))
