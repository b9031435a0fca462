use Rattle.std.proofs.Common.{◌≡◌, [], ◌∷◌, ◌++◌, All, sym, subst, arith}
use Rattle.std.proofs.lemmas.List.Elements.{All-append}
use Rattle.master_poll.specs.Channels.{IsNew}
use Rattle.master_poll.proofs.master.new_channels.Goals as goal

pub loop-place-preserved : goal.loop-place-preserved
loop-place-preserved c =
    let channels : c.push.new.self.items ≡ c.loop-place.channels.items ++ c.new.result ∷ [] = c.in_ok-push.ensures.items in
    let one : All IsNew (c.new.result ∷ []) = λ k d low. let first : k ≡ 0 = omega arith in rw first c.new.ensures in
    record {
      count = omega (arith, c.in_ok-push.ensures.len, c.loop-place.invariant.count);
      new = subst (All IsNew) (sym channels) (All-append IsNew c.loop-place.channels.items (c.new.result ∷ []) c.loop-place.invariant.new one);
    }
