use Rattle.std.proofs.Common.{refl, ◌∙◌}
use Rattle.call_store.proofs.Calls.active_alone.Goals as goal

pub returns : goal.returns
returns c = record {
  active = λ past k l p is.
      c.meet.ensures.has p
      ∙ rw (c.union.ensures.has p, c.union-detected.ensures.has p, l.enabled p is, k.detectors p is, k.turned_on p is, l.maximum_recall p is) refl;
}
