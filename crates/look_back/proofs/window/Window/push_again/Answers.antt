use Rattle.std.proofs.Common.{◌∷◌, sym, ◌∙◌, arith}
use Rattle.look_back.specs.Look.{Tells}
use Rattle.look_back.proofs.Again.{newest-tells, last-shows, all-tell}
use Rattle.look_back.proofs.window.Window.push_again.Goals as goal

pub returns : goal.returns
returns c = record {
  stands = λ last before ms stands few all.
      let s = c.args.self.now.kept in
      let kept = newest-tells 4096 s.newest.ticks s.newest.sample s.older.items last before (omega arith) stands.kept.newest stands.kept.tells in
      let tells : Tells c.newest-newest.result last = rw c.newest-newest.ensures kept in
      let shows = last-shows c.args.active c.args.opposed ms (last ∷ before) all in
      record {
        kept = c.add_again.ensures.keeps (last ∷ before) ms stands.kept few
            (all-tell c.newest-newest.result last before _ _ c.args.active c.args.opposed tells c.minus.ensures.has c.meet.ensures.has ms all);
        veh = stands.veh ∙ sym shows.veh;
        ped = stands.ped ∙ sym shows.ped;
        shown = rw (c.add_again.ensures.newest, c.newest-newest.ensures) stands.shown;
      };
}
