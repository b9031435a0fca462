use Rattle.std.proofs.Common.{ℕ, [], ◌∷◌, map, sym, refl, ap, ◌∙◌, subst, arith, replicate}
use Rattle.atomic_table.specs.Table.{Splits}
use Rattle.cab_row.specs.Rule.{RowKeeps}
use Rattle.cab_row.specs.Views.{dealing, giver, newcomer}
use Rattle.cab_row.specs.Passes.{books_of, AreNew, IsNew}
use Rattle.cab_row.proofs.Ends.{may_split}
use Rattle.cab_row.proofs.Opens.{new_pass, are_new_snoc}
use Rattle.cab_row.proofs.open.deal.Goals as goal

pub split_seat-seat-requires : goal.split_seat-seat-requires
split_seat-seat-requires g c = let row = c.args.row.now in let i = c.loop-number.invariant in let L = g.B.Logged in let n : ℕ = c.loop-number.number in (
  i.0,
  omega (arith, row.sized.0, c.requires.row.2),
  subst (λ v. Splits (RowKeeps g.row.B.coded.code L.journal L.left_of L.replays row.table.shared.key.books.value.items row.table.shared.key.passes) c.loop-number.first.id v (giver v) (newcomer v)) (sym (ap (λ m. m.0) i.1))
      (may_split g.row.B.coded.code L.journal L.left_of L.replays _ _ _ (dealing (map g.row.B.coded.code (books_of row)) row.passes n) (omega (arith, i.3)) (omega (arith, c.loop-number-test.true)) refl),
)

pub loop-number-preserved : goal.loop-number-preserved
loop-number-preserved g c = let row = c.args.row.now in let i = c.loop-number.invariant in let L = g.B.Logged in let n : ℕ = c.loop-number.number in
    let e = c.split_seat-seat.ensures in let b = c.into_badge.ensures in (
      e.0 ∙ i.0,
      e.2 ∙ ap (λ m. (giver m.0, m.1)) i.1,
      subst (AreNew g.row.B.coded.code L.left_of row 1) (sym c.push_reserved.ensures.items) (are_new_snoc g.row.B.coded.code L.left_of row 1 c.loop-number.list.items _ i.2
          (subst (λ k. IsNew g.row.B.coded.code L.left_of row k (record { badge = c.into_badge.result; number = n; done = replicate 64 0 })) (omega (arith, i.3))
          (new_pass g.row.B.coded.code L.left_of row c.into_badge.result n (replicate 64 0) _ (b.0 ∙ (e.3 ∙ i.0)) (b.2 ∙ (ap (λ m. m.0 ∷ []) e.4 ∙ ap (λ m. newcomer m.0 ∷ []) i.1)) (record { opening_is = refl; passes_are = refl; number_is = refl; numbers = refl; free = refl; only = λ _ _ _. refl }) refl (omega (arith, c.loop-number-test.true, c.requires.row.1)) refl c.requires.row.3))),
      omega (arith, i.3, c.push_reserved.ensures.len),
      c.push_reserved.ensures.capacity ∙ i.4,
    )

pub returns : goal.returns
returns g c = let row = c.args.row.now in let i = c.loop-number.invariant in let L = g.B.Logged in let b = c.into_badge-2.ensures in (
  subst (AreNew g.row.B.coded.code L.left_of row 0) (sym c.in-Ok.ensures.items) (
    new_pass g.row.B.coded.code L.left_of row c.into_badge-2.result 0 (replicate 64 0) _ (b.0 ∙ i.0) (b.2 ∙ ap (λ m. m.0 ∷ []) i.1) (record { opening_is = refl; passes_are = refl; number_is = refl; numbers = refl; free = refl; only = λ _ _ _. refl }) refl (omega arith) refl c.requires.row.3,
    i.2,
  ),
  omega (arith, c.in-Ok.ensures.len, i.3, c.loop-number-test.false, c.loop-number.auto.number-end c.requires.row.0),
)
