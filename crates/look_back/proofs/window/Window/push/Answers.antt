use Rattle.std.proofs.Common.{refl, sym, ap}
use Rattle.sig_types.specs.declared.frame.Frame.{Frame}
use Rattle.sig_tables.specs.Looking.{last_frame}
use Rattle.sig_tables.specs.Calls.{is_green}
use Rattle.sig_tables.specs.Layout.{Has}
use Rattle.look_back.proofs.Pushing.{green-before, sample-tells}
use Rattle.look_back.proofs.window.Window.push.Goals as goal

pub returns : goal.returns
returns c = record {
  stands = λ past m stands saw.
      let green : Has c.newest.result.shown.green (is_green (last_frame past)) = rw c.newest.ensures (green-before c.args.self.now past stands) in
      let tells =
      sample-tells _ m c.args.seen.now past c.newest.result.shown.green (c.read.ensures past stands) refl refl refl saw green c.minus.ensures.has
      c.meet.ensures.has in
      record {
        kept = c.add.ensures.keeps past m stands.kept tells;
        veh = ap (λ (f : Frame). f.veh) (sym saw.frame);
        ped = ap (λ (f : Frame). f.ped) (sym saw.frame);
        shown = rw c.add.ensures.newest (c.read.ensures past stands);
      };
}
