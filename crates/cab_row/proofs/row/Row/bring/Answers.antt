use Rattle.std.proofs.Common.{◌≤◌, ◌∷◌, ap, ◌∙◌, sym, subst}
use Rattle.atomic_table.specs.Table.{rest}
use Rattle.cab_row.proofs.Calls.{same_book}
use Rattle.cab_row.proofs.row.Row.bring.Goals as goal

pub slot_mut-requires : goal.slot_mut-requires
slot_mut-requires g c = let t = c.requires.held in (c.requires.table, (t.0, t.1 ∙ ap (λ l. (c.args.c, t.0) ∷ rest l) (sym t.1)))

pub apply_some-requires : goal.apply_some-requires
apply_some-requires g c = let t = c.requires.held in let same = same_book c.args.c _ t.0 c.slot_mut.result.now _ _ t.1 c.slot_mut.ensures.value in
    record { some = c.requires.some; within = subst (λ b. c.args.most ≤ g.B.Logged.left_of b c.args.number) same t.2 }
