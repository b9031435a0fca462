use Rattle.std.proofs.Common.{◌<◌, nat_le, inl, inr, ◌∙◌, arith}
use Rattle.std.proofs.lemmas.Bool.{cases_Bool, leb-true, leb-false}
use Rattle.sig_tables.proofs.Below.{phase-is}
use Rattle.tick_context.proofs.Seen.{active-is}
use Rattle.engine.proofs.Engine.stay_left.Goals as goal

pub returns : goal.returns
returns g c = record {
  left = λ past k keeps b looks green some within.
      let h = phase-is c.args.phase c.requires.above c.requires.within in
      elim (cases_Bool (nat_le k c.unserved_left-unserved.result)) [
        | inl e ↦ inl (c.unserved_left-unserved.ensures.left past k keeps green some (leb-true k _ e))
        | inr e ↦
            let more : c.unserved_left-unserved.result < k = leb-false k _ e in
            inr (c.reason_left.ensures.left past k keeps b
            (c.has-active.ensures.has ∙ active-is _ _ _ (looks.quiet c.args.phase h) green)
            (c.has-opposed.ensures.has ∙ looks.opposed c.args.phase h) some (omega (arith, within, more)))
      ];
}
