use Rattle.std.proofs.Common.{◌-◌, get_or, List, sym, ◌∙◌, ap}
use Rattle.sig_types.specs.declared.frame.Ped.{Ped}
use Rattle.sig_types.specs.declared.frame.Ped.TheVariants.{Walk}
use Rattle.sig_types.specs.Colour.{same_signal}
use Rattle.sig_tables.proofs.Below.{is-above, is-within}
use Rattle.engine.proofs.Engine.walking_in.Goals as goal

pub returns-then-next : goal.returns-then-next
returns-then-next g c = record {
  walking = λ past k n p h.
      k.walking p h ∙ ap (λ (x : List Ped). same_signal (get_or x (p - 1) Walk) Walk) (sym (n.signals c.if-next.true));
}

pub returns-else-next : goal.returns-else-next
returns-else-next g c = record {
  walking = λ past k n p h. c.signalling.ensures.shown p (is-above p h) (is-within p h);
}
