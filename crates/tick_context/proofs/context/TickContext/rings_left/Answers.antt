use Rattle.std.proofs.Common.{◌≤◌, ◌≡◌, ℕ, ap, arith, subst}
use Rattle.sig_types.specs.declared.frame.Frame.{Frame}
use Rattle.sig_types.specs.Colour.{on_in}
use Rattle.sig_tables.specs.Modes.{bound}
use Rattle.tick_context.proofs.Unwanted.{none-in-ring, none-of-others, either-of, ring-lasts}
use Rattle.tick_context.proofs.context.TickContext.rings_left.Goals as goal

pub returns : goal.returns
returns c = record {
  left = λ past k keeps b demand first second some within.
      let o = bound c.args.self.now.frame.mode in
      let side = c.present_side-side.ensures past keeps in
      let beyond = λ (w : k ≤ c.all_full_left-beyond.result).
      none-of-others o k past c.args.demand c.present_side-side.result c.minus-others.result demand side c.minus-others.ensures.has
      (λ q i h. c.all_full_left-beyond.ensures.left past k q keeps b some w i h) in
      let one : k ≤ c.ring_left-left.result = omega (arith, within) in
      let two : k ≤ c.ring_left.result = omega (arith, within) in (
        ring-lasts o k past 1 _ c.args.first c.all_full_left-one.result c.max.result (ap (λ (f : Frame). on_in f 1) keeps.frame)
            (subst (λ (x : ℕ). k ≤ x) c.ring_left-left.ensures one) first
            (λ w. none-in-ring o k past 1 c.args.demand c.present_side-side.result _ c.meet-here.result c.meet-near.result demand side
            (keeps.layout.rings 1 (omega arith) (omega arith)) c.meet-here.ensures.has c.meet-near.ensures.has
            (λ q i h. c.all_full_left-one.ensures.left past k q keeps b some w i h))
            (λ w. either-of k c.all_full_left-beyond.result c.args.second (omega (arith, w)) beyond second),
        ring-lasts o k past 2 _ c.args.second c.all_full_left-two.result c.max-2.result (ap (λ (f : Frame). on_in f 2) keeps.frame)
            (subst (λ (x : ℕ). k ≤ x) c.ring_left.ensures two) second
            (λ w. none-in-ring o k past 2 c.args.demand c.present_side-side.result _ c.meet-here.result c.meet-far.result demand side
            (keeps.layout.rings 2 (omega arith) (omega arith)) c.meet-here.ensures.has c.meet-far.ensures.has
            (λ q i h. c.all_full_left-two.ensures.left past k q keeps b some w i h))
            (λ w. either-of k c.all_full_left-beyond.result c.args.first (omega (arith, w)) beyond first),
      );
}
