use Rattle.std.proofs.Common.{◌∙◌}
use Rattle.sig_types.specs.PhaseSet.{has}
use Rattle.sig_types.specs.Colour.{colour_of, colour_in, signal_of}
use Rattle.call_store.proofs.Begins.{walk-is}
use Rattle.call_store.proofs.crossing.walks.Goals as goal

pub returns : goal.returns
returns c = record {
  walks = λ crossing f veh l says k p is.
      c.union.ensures.has p
      ∙ rw (
        c.meet-beginning.ensures.has p,
        c.meet-resting.ensures.has p,
        k.begins p is,
        k.rests p is,
        c.walks_with_green.ensures crossing l k.called k.greens says p is,
      )
      (walk-is crossing c.args.crosswalks.now.mode p (colour_of f p) (colour_in veh p) (signal_of f p) (has c.walks_at_rest.result p)
      (λ g. c.walks_at_rest.ensures crossing l k.called k.is_zero says p is (k.opposed p is g)));
}
