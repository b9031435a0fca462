use Rattle.std.proofs.Common.{◌≡◌, ◌∙◌, ap}
use Rattle.sig_types.specs.declared.frame.Frame.{Frame}
use Rattle.sig_tables.specs.Seen.{frame_seen}
use Rattle.engine.specs.Shows.{ShowsColours}
use Rattle.engine.proofs.Engine.shown_in.Goals as goal

pub returns-then-kept : goal.returns-then-kept
returns-then-kept g c = record {
  shown = λ past k s.
      let same : c.args.veh.now ≡ (frame_seen past).veh = s c.if-kept.true ∙ ap (λ (f : Frame). f.veh) k.context.frame in
      let at : ShowsColours c.args.self.now.shown c.args.veh.now = rw same k.shown in
      at;
}
