use Rattle.std.proofs.Common.{◌≡◌, ◌∙◌, sym, ap, ℕ, List, get_or}
use Rattle.sig_types.specs.Phases.{is_in, only}
use Rattle.sig_tables.specs.Sides.{are_of_one_side}
use Rattle.sig_tables.specs.View.{View as Scene}
use Rattle.sig_tables.specs.Moves.{Moves, ending_in, beginning_of}
use Rattle.ring_barrier.specs.Shows.{Shows, Sees}
use Rattle.ring_barrier.proofs.Lone.{beginning-has}
use Rattle.sig_types.proofs.Lists.{in-both}
use Rattle.ring_barrier.proofs.moves.changes.Goals as goal

pub returns-then-is_idle : goal.returns-then-is_idle
returns-then-is_idle c = record {
  ends = λ w s p e.
      c.empty.ensures.has p
      ∙ sym (ap (λ (m : Moves). is_in m.ends p) (c.is_idle.ensures.idle w s.rings.opening s.done s.forced c.if-is_idle.true));
  begins = λ w s p e.
      c.empty-then-is_idle.ensures.has p
      ∙ sym (ap (λ (m : Moves). is_in m.begins p) (c.is_idle.ensures.idle w s.rings.opening s.done s.forced c.if-is_idle.true));
}

pub returns : goal.returns
returns c =
    let sees : (w : Scene) → Shows c.args.view.now w → Sees c.args.view.now c.side_of-side.result w = λ w s. record {
      shows = s;
      of_side = λ q e.
          c.side_of-side.ensures w.tables s.rings.laid q e ∙ ap (λ (p : ℕ). are_of_one_side w.tables p q) (c.present_side.ensures w s);
    }
    in
    record {
      ends = λ w s p e.
          c.union.ensures.has p
          ∙ rw (c.ending.ensures w (sees w s) p e, c.ending-2.ensures w (sees w s) p e) (sym (in-both (ending_in w 1) (ending_in w 2) p));
      begins = λ w s p e.
          let f : get_or c.beginnings-begins.result 0 0 ≡ only (beginning_of w 1) =
          ap (λ (xs : List ℕ). get_or xs 0 0) (c.beginnings-begins.ensures w (sees w s)) in
          let g : get_or c.beginnings-begins.result 1 0 ≡ only (beginning_of w 2) =
          ap (λ (xs : List ℕ). get_or xs 1 0) (c.beginnings-begins.ensures w (sees w s)) in
          c.union-2.ensures.has p
          ∙ rw (c.of.ensures p e, c.of-2.ensures p e, f, g, ← beginning-has w 1 p e, ← beginning-has w 2 p e)
          (sym (in-both (beginning_of w 1) (beginning_of w 2) p));
    }
