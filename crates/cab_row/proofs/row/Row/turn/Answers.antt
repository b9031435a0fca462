use Rattle.std.proofs.Common.{◌≡◌, ℕ, ◌+◌, ◌-◌, ◌*◌, ◌%◌, [], ◌∷◌, ◌++◌, map, replicate, sym, refl, ap, ◌∙◌, subst, arith, eqb}
use prog.Atomic.{either}
use Rattle.atomic_table.specs.Table.{Allows, step, rest}
use Rattle.cab_row.specs.Rule.{RowKeeps, Since}
use Rattle.cab_row.specs.Plays.{takes_book, finishes}
use Rattle.cab_row.specs.Passes.{books_of, IsOwn}
use Rattle.cab_row.specs.Views.{looked, holding, finished_with}
use Rattle.cab_row.proofs.Steps.{may_look_at, may_take, may_finish}
use Rattle.cab_row.proofs.Calls.{not_odd, same_book, own_one, own_looked, own_finished, changed, has_items, since_changed}
use Rattle.cab_row.proofs.row.Row.turn.Goals as goal

pub load-seen-requires : goal.load-seen-requires
load-seen-requires g c = let r = c.requires.seat in let L = g.B.Logged in
    (r.0, omega (arith, c.args.self.now.sized.0, c.requires.cab), may_look_at g.row.B.coded.code L.journal L.left_of L.replays _ _ _ _ _ c.args.seat.now.me r.1 r.2.free (own_one _ _ _ _ r.2) c.requires.cab)

pub compare_exchange-found-requires : goal.compare_exchange-found-requires
compare_exchange-found-requires g c = let row = c.args.self.now in let L = g.B.Logged in let i : ℕ = c.args.c in let old : ℕ = c.load-seen.result in let r = c.requires.seat in
    let v = own_looked _ _ _ i old _ r.2 in
    let e = c.load-seen.ensures.2.1 ∙ ap (λ l. (looked c.args.seat.now.me.0 i old, l)) r.1 in (
      c.load-seen.ensures.0 ∙ r.0,
      omega (arith, row.sized.0, c.requires.cab),
      subst (λ m. Allows (RowKeeps g.row.B.coded.code L.journal L.left_of L.replays row.table.shared.key.books.value.items row.table.shared.key.passes) row.table.shared.table_id.slots c.load-seen.new.seat.id m i (λ n. either (eqb n old) (old + 1) n) (takes_book g.row.B.coded.code L.journal L.left_of L.replays (step row.table.shared.table_id.slots i old (old + 1) mathlib.Core.Option.none) m))
          (sym e)
          (may_take g.row.B.coded.code L.journal L.left_of L.replays _ _ _ _ i old (old + 1) _ v.free (own_one _ _ _ _ v) c.requires.cab (not_odd old c.if-seen-eq1.false) refl),
    )

pub bring-count-requires-clause-held : goal.bring-count-requires-clause-held
bring-count-requires-clause-held g c = let row = c.args.self.now in let L = g.B.Logged in let i : ℕ = c.args.c in let r = c.requires.seat in
    let t = c.compare_exchange-found.ensures.2.1 c.if-found-seen.false in
    let e = c.load-seen.ensures.2.1 ∙ ap (λ l. (looked c.args.seat.now.me.0 i c.load-seen.result, l)) r.1 in (
      t.0,
      ap (λ m. m.1) t.1 ∙ ap (λ m. (i, t.0) ∷ m.1) e,
      has_items g.row.B.coded.code L.journal L.left_of L.replays (books_of row) row.passes c.args.number i c.load-seen.result c.args.most c.args.seat.now.me.0 c.load-seen.new.seat.me t.0 r.2 e c.requires.cab t.2 t.3 c.requires.left,
    )

pub fetch_add-requires : goal.fetch_add-requires
fetch_add-requires g c = let row = c.args.self.now in let L = g.B.Logged in let i : ℕ = c.args.c in let old : ℕ = c.load-seen.result in let r = c.requires.seat in
    let t = c.compare_exchange-found.ensures.2.1 c.if-found-seen.false in
    let v = c.args.seat.now.me.0 in
    let e = c.load-seen.ensures.2.1 ∙ ap (λ l. (looked v i old, l)) r.1 in
    let count : ℕ = c.bring-count.result in let some = c.bring-count.ensures.some in
    let b = c.bring-count.ensures.brought in let x = b.2.0 in let more = b.2.2 in
    let w = holding (looked v i old) i (L.journal t.0) in
    let took : c.compare_exchange-found.new.seat.me ≡ (w, (i, t.0) ∷ []) = t.1 ∙ ap (λ m. (holding m.0 i (L.journal t.0), (i, t.0) ∷ m.1)) e in
    let same : t.0 ≡ b.0 = same_book i _ t.0 b.0 _ _ (ap (λ m. m.1) took) b.1 in
    let now : c.bring-count.new.seat.me ≡ (w, (i, x) ∷ []) = changed i w t.0 x _ _ took c.bring-count.ensures.view b.2.1 in
    let grown : L.journal x ≡ L.journal t.0 ++ replicate count v.number = more.0 ∙ (ap (λ y. L.journal y ++ replicate count c.args.number) (sym same) ∙ ap (λ n. L.journal t.0 ++ replicate count n) (sym r.2.number_is)) in
    let more_on : ℕ = 2 * count - 1 in
    let since : Since g.row.B.coded.code L.journal L.left_of L.replays v.opening i x = since_changed g.row.B.coded.code L.journal L.left_of L.replays v.opening i c.args.number count b.0 x
    (subst (λ y. Since g.row.B.coded.code L.journal L.left_of L.replays v.opening i y) same (subst (λ l. Since g.row.B.coded.code L.journal L.left_of L.replays l i t.0) (ap (λ m. m.0.opening) e) t.2)) more.0 more.1 more.2 more.3 in (
      c.bring-count.ensures.table ∙ (c.compare_exchange-found.ensures.0 ∙ (c.load-seen.ensures.0 ∙ r.0)),
      omega (arith, row.sized.0, c.requires.cab),
      subst (λ m. Allows (RowKeeps g.row.B.coded.code L.journal L.left_of L.replays row.table.shared.key.books.value.items row.table.shared.key.passes) row.table.shared.table_id.slots c.bring-count.new.seat.id m i (λ n. (n + more_on) % 18446744073709551616) (finishes (step row.table.shared.table_id.slots i more_on 0 mathlib.Core.Option.none) m))
          (sym now)
          (may_finish g.row.B.coded.code L.journal L.left_of L.replays _ _ _ _ i count more_on w x refl some.0 (omega (arith, some.0)) grown since),
    )

pub returns-clause-seat : goal.returns-clause-seat
returns-clause-seat g c = let row = c.args.self.now in let L = g.B.Logged in let i : ℕ = c.args.c in let old : ℕ = c.load-seen.result in let r = c.requires.seat in
    let t = c.compare_exchange-found.ensures.2.1 c.if-found-seen.false in
    let v = c.args.seat.now.me.0 in
    let e = c.load-seen.ensures.2.1 ∙ ap (λ l. (looked v i old, l)) r.1 in
    let count : ℕ = c.bring-count.result in let some = c.bring-count.ensures.some in
    let b = c.bring-count.ensures.brought in let x = b.2.0 in
    let w = holding (looked v i old) i (L.journal t.0) in
    let took : c.compare_exchange-found.new.seat.me ≡ (w, (i, t.0) ∷ []) = t.1 ∙ ap (λ m. (holding m.0 i (L.journal t.0), (i, t.0) ∷ m.1)) e in
    let now : c.bring-count.new.seat.me ≡ (w, (i, x) ∷ []) = changed i w t.0 x _ _ took c.bring-count.ensures.view b.2.1 in
    let end : c.fetch_add.new.seat.me ≡ (finished_with w i count, []) = c.fetch_add.ensures.2 count (omega (arith, some.0)) ∙ ap (λ m. (finished_with m.0 i count, rest m.1)) now in (
      c.fetch_add.ensures.0 ∙ (c.bring-count.ensures.table ∙ (c.compare_exchange-found.ensures.0 ∙ (c.load-seen.ensures.0 ∙ r.0))),
      ap (λ m. m.1) end,
      subst (λ m. IsOwn (map g.row.B.coded.code (books_of row)) row.passes c.args.number m.0) (sym end) (own_finished _ _ _ i count (L.journal t.0) _ (own_looked _ _ _ i old _ r.2)),
    )
