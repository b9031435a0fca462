use Rattle.std.proofs.Common.{◌≡◌, sym, ◌∙◌, ap, arith}
use Rattle.sig_types.specs.declared.frame.Frame.{Frame}
use Rattle.sig_tables.specs.Seen.{frame_seen}
use Rattle.engine.proofs.Engine.is_current.Goals as goal

pub returns-else-self-ne0-2 : goal.returns-else-self-ne0-2
returns-else-self-ne0-2 g c = λ past k t.
    let counter : c.args.self.now.context.frame.counter ≡ 0 = omega arith in
    let target : c.args.self.now.context.frame.target ≡ 0 = omega arith in
    record {
      version = c.is_laid_out.ensures.version past k.context t;
      counter = ap (λ (f : Frame). f.counter) (sym k.context.frame) ∙ counter;
      target = ap (λ (f : Frame). f.target) (sym k.context.frame) ∙ target;
      on = c.is_laid_out.ensures.on past (frame_seen past).veh k.context k.shown.red t;
    }
