use Rattle.std.proofs.Common.{length, sym, ap, ◌∙◌}
use lib.ListN.{get_elem?}
use Rattle.cab_row.specs.Whole.{ComesFrom}
use Rattle.cab_row.proofs.Books.{zip_of}
use Rattle.cab_row.proofs.by_workers.worked.Goals as goal

pub returns-clause-come : goal.returns-clause-come
returns-clause-come g c = let L = g.B.Logged in let same = c.in_ok-row.ensures.row.0 in let old = c.args.books.items in let closed = c.close.result in
    zip_of (ComesFrom L.journal L.left_of L.replays) old closed.items (sym closed.ok.0 ∙ (c.close.ensures.count ∙ ap length same))
    (λ k x e. let t = c.close.ensures.books k x (ap (λ l. get_elem? l k) same ∙ e) in (t.0, t.1, record { replays = t.2.replays; left = t.2.left }))
