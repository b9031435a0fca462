use Rattle.std.proofs.Common.{◌≡◌, ◌==◌, ℕ, Bool, false, if◌then◌else◌, refl, ◌∙◌, ap}
use Rattle.std.proofs.lemmas.Bool.{ne_eqb}
use Rattle.sig_tables.specs.declared.tables.Tables.{Tables}
use Rattle.sig_tables.specs.Tables.{clearance}
use Rattle.tick_context.proofs.context.TickContext.clearance_of.Goals as goal

other : (b : Bool) (x : ℕ) → b ≡ false → x ≡ (if b then 0 else x)
other b x e = rw e refl

pub returns-else-on-gt16 : goal.returns-else-on-gt16
returns-else-on-gt16 c = record {
  clearance = λ past k few.
      c.clearance.ensures.time ∙ ap (λ (t : Tables). clearance t c.args.on) k.tables
      ∙ other (c.args.on == 0) _ (ne_eqb c.args.on 0 c.if-on-eq0.false);
}
