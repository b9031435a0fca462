use Rattle.std.proofs.Common.{◌≡◌, ◌||◌, Bool, true, false, sym, ◌∙◌, ap}
use Rattle.sig_tables.specs.View.{has_gap, has_maximum}
use Rattle.sig_tables.specs.Seen.{view_seen}
use Rattle.tick_context.proofs.Seen.{gap-not-quiet, flip}
use Rattle.engine.proofs.Engine.free_reason.Goals as goal

pub returns-then-active : goal.returns-then-active
returns-then-active g c = record {
  reason = λ past k on a o.
      let off : has_gap (view_seen past) c.args.phase ≡ false = gap-not-quiet past c.args.phase (flip _ _ _ c.if-active.true a) in
      c.has_maximum.ensures.maximum past k.memory k.context o ∙ sym (ap (λ (b : Bool). b || has_maximum (view_seen past) c.args.phase) off);
}

pub returns-then-has_gap : goal.returns-then-has_gap
returns-then-has_gap g c = record {
  reason = λ past k on a o.
      let gap : has_gap (view_seen past) c.args.phase ≡ true = sym (c.has_gap.ensures.gap past k.memory k.context on (flip _ _ _ c.if-active.false a)) ∙ c.if-has_gap.true in
      sym (ap (λ (b : Bool). b || has_maximum (view_seen past) c.args.phase) gap);
}

pub returns-else-has_gap : goal.returns-else-has_gap
returns-else-has_gap g c = record {
  reason = λ past k on a o.
      let off : has_gap (view_seen past) c.args.phase ≡ false = sym (c.has_gap.ensures.gap past k.memory k.context on (flip _ _ _ c.if-active.false a)) ∙ c.if-has_gap.false in
      c.has_maximum-else-has_gap.ensures.maximum past k.memory k.context o ∙ sym (ap (λ (b : Bool). b || has_maximum (view_seen past) c.args.phase) off);
}
