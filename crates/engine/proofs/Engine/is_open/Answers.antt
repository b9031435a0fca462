use Rattle.std.proofs.Common.{◌≡◌, ◌==◌, ◌||◌, Bool, false, sym, ◌∙◌, ap}
use Rattle.std.proofs.lemmas.Bool.{ne_eqb}
use Rattle.sig_types.specs.Phases.{is_in}
use Rattle.sig_tables.specs.View.{ended_of}
use Rattle.tick_context.proofs.Seen.{clearance-none, past-phases}
use Rattle.engine.proofs.Engine.is_open.Goals as goal

pub returns-then-on-gt16 : goal.returns-then-on-gt16
returns-then-on-gt16 g c = record {
  opening = λ past k.
      let some : (c.args.on == 0) ≡ false = ne_eqb _ _ c.if-on-eq0.false in
      sym (ap (λ (b : Bool). b || is_in (ended_of past.tables past.moments) c.args.on) some
      ∙ clearance-none past c.args.on (past-phases c.args.on c.if-on-gt16.true));
}

pub returns-else-on-gt16 : goal.returns-else-on-gt16
returns-else-on-gt16 g c = record {
  opening = λ past k.
      let some : (c.args.on == 0) ≡ false = ne_eqb _ _ c.if-on-eq0.false in
      c.ends_clearance.ensures.ends past k ∙ sym (ap (λ (b : Bool). b || is_in (ended_of past.tables past.moments) c.args.on) some);
}
