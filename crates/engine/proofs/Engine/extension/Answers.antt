use Rattle.std.proofs.Common.{sym, ◌∙◌, ap}
use Rattle.sig_tables.specs.declared.tables.Tables.{Tables}
use Rattle.sig_tables.specs.declared.tables.Corrections.{Corrections}
use Rattle.tick_context.proofs.Causes.{extension-some, extension-none}
use Rattle.engine.proofs.Engine.extension.Goals as goal

pub returns-in-Some : goal.returns-in-Some
returns-in-Some g c = record {
  extension = λ past n k e.
      c.from.ensures ∙ ap (λ (u : Corrections). u.extension) c.unit.ensures.unit ∙ ap (λ (t : Tables). t.unit.extension) k.context.tables
      ∙ extension-some past.tables n _ (sym c.in-Some.is ∙ e);
}

pub returns-in-None : goal.returns-in-None
returns-in-None g c = record { extension = λ past n k e. extension-none past.tables n (sym c.in-None.is ∙ e) }
