use Rattle.std.proofs.Common.{◌≡◌, [], ◌∷◌, ◌++◌, All, sym, subst, arith}
use Rattle.std.proofs.lemmas.List.Elements.{All-append}
use Rattle.sig_types.specs.declared.streams.Answers.{Answers}
use Rattle.master_rounds.specs.Answered.{IsEmpty}
use Rattle.master_rounds.proofs.master_rounds.nothing_from.Goals as goal

pub loop-place-preserved : goal.loop-place-preserved
loop-place-preserved c =
    let empty : Answers = record { polls = c.new.result; loads = c.new-in-loop-place.result; prios = c.new-in-loop-place-2.result } in
    let all : c.push.new.self.items ≡ c.loop-place.all.items ++ empty ∷ [] = c.in_ok-push.ensures.items in
    let is : IsEmpty empty = record { polls = c.new.ensures.items; loads = c.new-in-loop-place.ensures.items; prios = c.new-in-loop-place-2.ensures.items } in
    let one : All IsEmpty (empty ∷ []) = λ k d low. let first : k ≡ 0 = omega arith in rw first is in
    record {
      count = omega (arith, c.in_ok-push.ensures.len, c.loop-place.invariant.count);
      none = subst (All IsEmpty) (sym all) (All-append IsEmpty c.loop-place.all.items (empty ∷ []) c.loop-place.invariant.none one);
    }
