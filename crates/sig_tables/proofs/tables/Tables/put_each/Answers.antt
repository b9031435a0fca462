use Rattle.std.proofs.Common.{◌≡◌, sym, subst, map}
use Rattle.std.proofs.lemmas.List.{drop_all}
use Rattle.sig_tables.specs.Putting.{put_content, with_cells, EachFits}
use Rattle.sig_tables.proofs.Fitting.{cells-fit}
use Rattle.sig_tables.proofs.tables.Tables.put_each.Goals as goal

pub returns-clause-each_fits : goal.returns-clause-each_fits
returns-clause-each_fits c = λ all.
    let put : c.loop-put.self ≡ with_cells c.args.self.now (map put_content c.args.puts.now) =
    subst (λ rest. with_cells c.loop-put.self (map put_content rest) ≡ with_cells c.args.self.now (map put_content c.args.puts.now))
    (drop_all c.loop-put.put-index c.args.puts.now c.loop-put-test.false) c.loop-put.invariant in
    subst EachFits (sym put) (cells-fit c.args.self.now (map put_content c.args.puts.now) all)
