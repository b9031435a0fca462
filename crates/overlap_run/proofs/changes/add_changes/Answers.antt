use Rattle.std.proofs.Common.{◌≡◌, ◌+◌, ◌++◌, ℕ, Bool, ◌∷◌, [], ◌∙◌, ap, arith}
use Rattle.sig_types.specs.declared.frame.Colour.{Colour}
use Rattle.overlap_run.specs.Overlap.{greens_to, overlap_at}
use Rattle.overlap_run.specs.Text.{change_line}
use Rattle.overlap_run.specs.Parents.{parents_of, green_at, IsSeen}
use Rattle.overlap_run.proofs.Looking.{first-seen, seen-now}
use Rattle.overlap_run.proofs.Writing.{shown-next, stands-next, lines-next}
use Rattle.overlap_run.proofs.changes.add_changes.Goals as goal

pub loop-done-init : goal.loop-done-init
loop-done-init c =
    let shows : ℕ → Bool = green_at (parents_of c.args.parents) c.args.frames.now.items in
    record {
      seen = rw c.is_green.ensures (first-seen _ _ _ _ c.index.ensures c.requires.frames);
      stands = λ t o. o (shows 0);
      lines = λ t o. c.in_ok-add_change.ensures ∙ ap (λ (x : Colour). c.args.out.now.items ++ change_line 0 x) (c.shown.ensures t (shows 0 ∷ []) (o (shows 0)));
    }

pub loop-done-preserved : goal.loop-done-preserved
loop-done-preserved c =
    let shows : ℕ → Bool = green_at (parents_of c.args.parents) c.args.frames.now.items in
    let n : ℕ = c.loop-done.done in
    let seen : IsSeen (parents_of c.args.parents) c.args.frames.now.items (c.args.ticks + 1) (n + 1) c.look_on-seen.result.0 c.look_on-seen.result.1 =
    c.look_on-seen.ensures (c.args.ticks + 1) (omega (arith, c.loop-done-test.true)) c.loop-done.invariant.seen in
    let now : shows (n + 1) ≡ c.look_on-seen.result.0 = seen-now _ _ _ (n + 1) _ _ seen in
    record {
      seen = seen;
      stands = λ t o. stands-next _ t shows n _ now (c.step-shown.ensures.stands t (greens_to shows n) (c.loop-done.invariant.stands t o));
      lines = λ t o. lines-next (overlap_at t shows) n _ _ _ _ _ (c.loop-done.invariant.lines t o)
          (c.shown-before.ensures t (greens_to shows n) (c.loop-done.invariant.stands t o))
          (shown-next t shows n _ _ now (c.step-shown.ensures.shown t (greens_to shows n) (c.loop-done.invariant.stands t o)))
          c.in_ok-add_where.ensures;
    }
