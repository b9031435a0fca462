use Rattle.std.proofs.Common.{◌-◌, ◌||◌, get_or, List, refl, sym, ◌∙◌, ap}
use Rattle.sig_types.specs.declared.frame.Ped.{Ped}
use Rattle.sig_types.specs.declared.frame.Ped.TheVariants.{Walk, Flash}
use Rattle.sig_types.specs.Colour.{same_signal}
use Rattle.sig_tables.proofs.Below.{is-above, is-within}
use Rattle.engine.proofs.Engine.signalling_in.Goals as goal

pub returns-then-next : goal.returns-then-next
returns-then-next g c = record {
  signalling = λ past k n walking p h.
      k.signalling p h ∙ ap (λ (x : List Ped). same_signal (get_or x (p - 1) Walk) Walk || same_signal (get_or x (p - 1) Walk) Flash)
      (sym (n.signals c.if-next.true));
}

pub returns-else-next : goal.returns-else-next
returns-else-next g c = record {
  signalling = λ past k n walking p h.
      c.union.ensures.has p ∙ rw (walking p h, c.signalling.ensures.shown p (is-above p h) (is-within p h)) refl;
}
