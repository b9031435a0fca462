use Rattle.std.proofs.Common.{◌==◌, if◌then◌else◌, length, sym, ◌∙◌, ap, arith}
use Rattle.sig_types.specs.declared.frame.Frame.{Frame}
use Rattle.sig_types.specs.Colour.{on_in}
use Rattle.sig_tables.specs.Seen.{frame_seen}
use Rattle.engine.proofs.Engine.all_left.Goals as goal

pub returns-else-mode-eq0-clause-lasts : goal.returns-else-mode-eq0-clause-lasts
returns-else-mode-eq0-clause-lasts g c = λ past k keeps b fresh even beside looks some within.
    let rings = c.rings_left.ensures.left past k keeps b looks some (omega (arith, within)) in
    record {
      fresh = fresh;
      was = ap (λ (f : Frame). f.mode) (sym keeps.context.frame);
      beside = beside;
      version = c.is_laid_out.ensures.version past keeps.context c.if-not-is_laid_out.false;
      on = c.is_laid_out.ensures.on past (frame_seen past).veh keeps.context keeps.shown.red c.if-not-is_laid_out.false;
      some = λ x. c.is_any_on.ensures.any c.if-not-is_any_on.false
          (ap (λ (f : Frame). if on_in f 1 == 0 then on_in f 2 else on_in f 1) keeps.context.frame ∙ x);
      first = rings.0;
      second = rings.1;
      wide = ap (λ (f : Frame). length f.veh) (sym keeps.context.frame) ∙ c.shows_sixteen.ensures.veh;
      long = ap (λ (f : Frame). length f.ped) (sym keeps.context.frame) ∙ c.shows_sixteen.ensures.ped;
      goes = c.mode_left-mode.ensures.left past k keeps b fresh even looks.opposed some (omega (arith, within));
      phases = λ p h. c.phases_left.ensures.left past k p keeps b some (omega (arith, within)) h;
    }
