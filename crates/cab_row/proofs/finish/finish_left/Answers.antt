use Rattle.std.proofs.Common.{ℕ, ◌<◌, refl, ◌∙◌, subst, arith, length}
use Rattle.std.proofs.lemmas.List.Elements.{AllWithin-more_set}
use Rattle.cab_row.proofs.Calls.{any_default}
use Rattle.cab_row.specs.Whole.{HasAppliedMore, IsDone}
use Rattle.cab_row.proofs.Books.{follows_itself, follows_on, zip_itself, zip_set}
use Rattle.cab_row.proofs.finish.finish_left.Goals as goal

pub loop-c-init : goal.loop-c-init
loop-c-init g c = let L = g.B.Logged in (zip_itself (HasAppliedMore L.journal L.left_of L.replays) (follows_itself L.journal L.left_of L.replays) c.args.books.now.items, (λ k d low less. absurd (omega arith)), refl, refl)

pub loop-c-preserved : goal.loop-c-preserved
loop-c-preserved g c = let L = g.B.Logged in let i = c.loop-c.invariant in let xs = c.loop-c.books.items in let n : ℕ = c.loop-c.c in let x = c.finish_book.new.book in
    let inside : n < length xs = omega (arith, c.loop-c-test.true, c.len-c-end.ensures, i.2, c.loop-c.books.ok.0) in
    let now = c.index_mut.result.now in let F = HasAppliedMore L.journal L.left_of L.replays in (
      zip_set F c.args.books.now.items xs n x (follows_on L.journal L.left_of L.replays) inside i.0
          (λ d. subst (λ y. F y x) (c.index_mut.ensures.value ∙ any_default xs n now d inside) c.finish_book.ensures.follows),
      AllWithin-more_set xs n x inside (IsDone L.left_of c.args.passes) i.1 c.finish_book.ensures.done,
      i.2,
      i.3,
    )
