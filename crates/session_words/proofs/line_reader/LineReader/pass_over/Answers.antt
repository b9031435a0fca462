use Rattle.std.proofs.Common.{◌≡◌, ◌≤◌, ◌∙◌, List, ℕ, take, length, ap, subst, arith}
use Rattle.session_words.specs.Lines.{Lacks}
use Rattle.session_words.specs.Unread.{held_of, unread, ahead_of}
use Rattle.session_words.proofs.Held.{ahead-none, passes-line, passes-on, cut-held, one_read}
use Rattle.session_words.proofs.line_reader.LineReader.pass_over.Goals as goal

pub returns-in-Some-clause-next : goal.returns-in-Some-clause-next
returns-in-Some-clause-next g c =
    let same = c.in-Ok.ensures.same ∙ ap (λ (h : List ℕ). ahead_of h (g.S.Source.left c.pieces.source)) c.pieces.invariant.empty ∙ ahead-none (g.S.Source.left c.pieces.source) in
    passes-line (unread c.args.self.now (g.S.Source.left c.args.source.now)) (g.S.Source.left c.pieces.source) (g.S.Source.left c.fill.new.source)
    (held_of c.fill.new.self) (take c.in-Some.count (held_of c.fill.new.self)) (held_of c.give.new.self) c.pieces.invariant.passed same
    (cut-held (held_of c.fill.new.self) (held_of c.give.new.self) c.rest.result.now c.in-Some.count c.in-Some.ensures.some c.rest.ensures c.give.ensures.rest)

pub pieces-preserved : goal.pieces-preserved
pieces-preserved g c =
    let same = c.in-Ok.ensures.same ∙ ap (λ (h : List ℕ). ahead_of h (g.S.Source.left c.pieces.source)) c.pieces.invariant.empty ∙ ahead-none (g.S.Source.left c.pieces.source) in
    record {
      empty = c.pass-in-None.ensures;
      passed =
          passes-on (unread c.args.self.now (g.S.Source.left c.args.source.now)) (g.S.Source.left c.pieces.source) (g.S.Source.left c.fill.new.source)
          (held_of c.fill.new.self) c.pieces.invariant.passed same (subst (Lacks 10) c.rest.ensures (c.place_of.ensures.none c.in-None.is));
      read =
          let none : length (held_of c.pieces.self) ≡ 0 = ap length c.pieces.invariant.empty in
          let some : 1 ≤ length (held_of c.fill.new.self) = grind arith in
          one_read c.pieces.counter (g.S.Source.left c.args.source.now) (g.S.Source.left c.pieces.source) (g.S.Source.left c.fill.new.source)
          (held_of c.fill.new.self) c.pieces.invariant.read same some;
      same = λ exact. c.in-Ok.ensures.exact exact ∙ c.pieces.invariant.same exact;
      kept = omega (arith, c.pieces.invariant.kept, c.in-Ok.ensures.kept);
    }
