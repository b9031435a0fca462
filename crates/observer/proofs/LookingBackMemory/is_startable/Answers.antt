use Rattle.std.proofs.Common.{◌≡◌, ◌&&◌, Bool, true, refl, ◌∙◌, ap}
use Rattle.sig_types.specs.declared.frame.Colour.TheVariants.{Red}
use Rattle.sig_tables.specs.declared.tables.Tables.{Tables}
use Rattle.sig_tables.specs.Tables.{red_revert_time}
use Rattle.sig_tables.specs.Looking.{lasts, shows}
use Rattle.observer.proofs.LookingBackMemory.is_startable.Goals as goal

both : (a b c : Bool) → a ≡ true → b ≡ true → c ≡ (a && b && c)
both a b c e f = rw (e, f) refl

pub returns : goal.returns
returns c = record {
  startable = λ past k x on red.
      c.has_reverted.ensures past.moments (c.window.ensures past.moments k.frame_history)
      ∙ ap (λ (t : Tables). lasts (red_revert_time t c.args.phase) (shows c.args.phase Red) past.moments) x.tables
      ∙ both _ _ _ on red;
}
