use Rattle.std.proofs.Common.{sym, ◌∙◌, subst}
use Rattle.sig_types.specs.declared.frame.Ped.{Ped}
use Rattle.sig_types.specs.declared.frame.Ped.TheVariants.{Walk, Flash}
use Rattle.call_store.specs.Signals.{SignalLasts}
use Rattle.ped_clock.proofs.PedClocks.left.Goals as goal

pub returns-in-Walk : goal.returns-in-Walk
returns-in-Walk c = record {
  left = λ past now k stands is some within.
      subst (λ (s : Ped). SignalLasts k c.args.phase now past s) (sym c.in-Walk.is)
      (c.rest.ensures.rest past now k Walk stands (is ∙ c.in-Walk.is) some within);
}

pub returns-in-Flash : goal.returns-in-Flash
returns-in-Flash c = record {
  left = λ past now k stands is some within.
      subst (λ (s : Ped). SignalLasts k c.args.phase now past s) (sym c.in-Flash.is)
      (c.rest-in-Flash.ensures.rest past now k Flash stands (is ∙ c.in-Flash.is) some within);
}
