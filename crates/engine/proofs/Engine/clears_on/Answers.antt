use Rattle.std.proofs.Common.{◌≡◌, ℕ, true, sym, ◌∙◌}
use Rattle.std.proofs.lemmas.Bool.{false≢true}
use Rattle.sig_types.specs.Phases.{is_phase}
use Rattle.sig_types.specs.Colour.{colour_of}
use Rattle.sig_tables.specs.Looking.{runs_on}
use Rattle.sig_tables.specs.Seen.{frame_seen}
use Rattle.engine.proofs.Alone.{of-two}
use Rattle.sig_types.proofs.Sets.{empty-has}
use Rattle.engine.proofs.Engine.clears_on.Goals as goal

pub returns-then-is_empty : goal.returns-then-is_empty
returns-then-is_empty g c = record {
  stays = λ past p k t h clearing.
      absurd (false≢true (sym (empty-has c.args.self.now.shown.clearing p h (c.is_empty.ensures.empty.0 c.if-is_empty.true))
      ∙ (k.shown.clearing p h ∙ clearing)));
}

pub returns-then-keeps_colour : goal.returns-then-keeps_colour
returns-then-keeps_colour g c = record {
  stays = λ past p k t h clearing.
      of-two (λ (q : ℕ). is_phase q ≡ true → runs_on q past.tables past.moments (colour_of (frame_seen past) q) ≡ colour_of (frame_seen past) q)
      c.args.self.now.shown.clearing c.of.result c.of-2.result c.minus.result c.minus-2.result _ _ p h
      c.of.ensures c.of-2.ensures c.minus.ensures.has c.minus-2.ensures.has
      (empty-has c.minus-2.result p h (c.is_empty-2.ensures.empty.0 c.if-is_empty-2.true))
      (k.shown.clearing p h ∙ clearing)
      (c.keeps_colour.ensures.stays past k c.if-keeps_colour.true)
      (c.keeps_colour-then-keeps_colour.ensures.stays past k t) h;
}
