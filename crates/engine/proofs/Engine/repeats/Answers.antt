use Rattle.std.proofs.Common.{◌≡◌, ℕ, Bool, sym, ◌∙◌, ap}
use Rattle.sig_types.specs.declared.frame.Frame.{Frame}
use Rattle.sig_types.specs.declared.frame.Mode.{Mode}
use Rattle.sig_types.specs.declared.frame.Mode.TheVariants.{Free}
use Rattle.sig_types.specs.Colour.{on_in}
use Rattle.sig_tables.specs.Choosing.{mode_reached}
use Rattle.sig_tables.specs.Decide.{colours_of}
use Rattle.sig_tables.specs.Seen.{frame_seen, moves_seen}
use Rattle.tick_context.specs.Walks.{walk_after}
use Rattle.tick_context.proofs.Again.{frame-same}
use Rattle.engine.proofs.Engine.repeats.Goals as goal

pub returns-else-not-is_current : goal.returns-else-not-is_current
returns-else-not-is_current g c = record {
  repeats = λ past r s was mode t.
      let k = r.keeps in
      let seen : c.args.self.now.context.frame ≡ frame_seen past = k.context.frame in
      let moves = c.moves-moves.ensures.moves past r s in
      let veh : c.args.self.now.context.frame.veh ≡ colours_of past (moves_seen past) =
      c.is_still.ensures.still past (moves_seen past) k moves (ap (λ (f : Frame). f.veh) seen) c.if-not-is_still.false in
      let begins : ℕ → Bool = walk_after past Free (colours_of past (moves_seen past)) in
      let walks = c.walks-walks.ensures.walks past (moves_seen past) (frame_seen past).veh r s moves
      (sym (ap (λ (m : Mode). mode_reached m past.tables (frame_seen past).veh) mode)) in
      let ped = c.is_steady.ensures.steady past begins r walks (ap (λ (f : Frame). f.ped) seen) c.if-not-is_steady.false in
      record {
        was = was;
        mode = mode;
        first = λ x. c.are_both_on.ensures.first t (ap (λ (f : Frame). on_in f 1) seen ∙ x);
        second = λ x. c.are_both_on.ensures.second t (ap (λ (f : Frame). on_in f 2) seen ∙ x);
        again = frame-same past (c.is_current.ensures past k c.if-not-is_current.false) was mode
            (ap (λ (f : Frame). f.veh) (sym seen) ∙ veh) (ap (λ (f : Frame). f.ped) (sym seen) ∙ ped);
      };
}
