use Rattle.std.proofs.Common.{◌≡◌, ℕ, true, sym, ◌∙◌}
use Rattle.std.proofs.lemmas.Bool.{false≢true}
use Rattle.sig_types.specs.Phases.{is_phase}
use Rattle.sig_types.specs.Colour.{signal_of}
use Rattle.sig_tables.specs.Seen.{frame_seen}
use Rattle.tick_context.specs.Walks.{signal_seen}
use Rattle.engine.proofs.Alone.{of-two}
use Rattle.sig_types.proofs.Sets.{empty-has}
use Rattle.engine.proofs.Engine.signals_on.Goals as goal

pub returns-then-is_empty : goal.returns-then-is_empty
returns-then-is_empty g c = record {
  stays = λ past p r t h signals.
      absurd (false≢true (sym (empty-has c.args.self.now.signalling p h (c.is_empty.ensures.empty.0 c.if-is_empty.true))
      ∙ (r.keeps.signalling p h ∙ signals)));
}

pub returns-then-keeps_signal : goal.returns-then-keeps_signal
returns-then-keeps_signal g c = record {
  stays = λ past p r t h signals.
      of-two (λ (q : ℕ). is_phase q ≡ true → signal_seen past q ≡ signal_of (frame_seen past) q)
      c.args.self.now.signalling c.of.result c.of-2.result c.minus.result c.minus-2.result _ _ p h
      c.of.ensures c.of-2.ensures c.minus.ensures.has c.minus-2.ensures.has
      (empty-has c.minus-2.result p h (c.is_empty-2.ensures.empty.0 c.if-is_empty-2.true))
      (r.keeps.signalling p h ∙ signals)
      (c.keeps_signal.ensures.stays past r c.if-keeps_signal.true)
      (c.keeps_signal-then-keeps_signal.ensures.stays past r t) h;
}
