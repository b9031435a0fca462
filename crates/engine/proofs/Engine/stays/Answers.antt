use Rattle.std.proofs.Common.{◌≡◌, ◌&&◌, Bool, true, false, not, refl, sym, ◌∙◌}
use Rattle.std.proofs.lemmas.Bool.{and_parts, false≢true}
use Rattle.sig_types.specs.declared.frame.Colour.TheVariants.{Green}
use Rattle.sig_types.specs.Colour.{same_colour, colour_of}
use Rattle.sig_tables.specs.Tables.{is_enabled}
use Rattle.sig_tables.specs.Seen.{frame_seen}
use Rattle.tick_context.proofs.Seen.{active-is, done-not}
use Rattle.engine.proofs.Engine.stays.Goals as goal

unnot : (b : Bool) → not b ≡ true → b ≡ false
unnot false e = refl
unnot true e = absurd (false≢true e)

pub returns-then-has : goal.returns-then-has
returns-then-has g c = record {
  stays = λ past k s mode t h.
      let both : (is_enabled past.tables c.args.phase && same_colour (colour_of (frame_seen past) c.args.phase) Green) ≡ true =
      rw (← k.context.layout.enabled c.args.phase h, ← k.shown.green c.args.phase h) (sym (c.meet.ensures.has c.args.phase) ∙ sym c.has.ensures.has ∙ c.if-has.true) in
      let parts = and_parts (is_enabled past.tables c.args.phase) (same_colour (colour_of (frame_seen past) c.args.phase) Green) both in
      sym (c.is_free_done.ensures.done past k mode parts.0 parts.1
      (c.has-active.ensures.has ∙ active-is _ _ _ (s.quiet c.args.phase h) parts.1)
      (c.has-opposed.ensures.has ∙ s.opposed c.args.phase h))
      ∙ unnot _ t;
}

pub returns-else-has : goal.returns-else-has
returns-else-has g c = record {
  stays = λ past k s mode t h.
      sym (done-not past c.args.phase
      (rw (← k.context.layout.enabled c.args.phase h, ← k.shown.green c.args.phase h)
      (sym (c.meet.ensures.has c.args.phase) ∙ sym c.has.ensures.has ∙ c.if-has.false)));
}
