use Rattle.std.proofs.Common.{◌∙◌, List, refl, ap, subst, map}
use Rattle.sig_tables.specs.declared.cells.Cell.{Cell}
use Rattle.sig_tables.specs.declared.cells.CellValue.{CellValue}
use Rattle.sig_tables.specs.declared.tables.Tables.{Tables}
use Rattle.sig_tables.specs.Putting.{put_content, with_cells}
use Rattle.judge.specs.InForce.{IsInForce}
use Rattle.judge_session.proofs.Watching.{load-known}
use Rattle.judge_session.proofs.watch.CabinetWatch.put_load.Goals as goal

pub returns-then-self : goal.returns-then-self
returns-then-self c = λ s joined cab id before so e has.
    load-known c.args.self.now _ s joined cab id c.args.version before (map put_content c.args.load.now.cells.items) so c.if-self.true has e refl refl refl
    (subst (λ (t : Tables). IsInForce c.new-self.result t)
    (c.put_each.ensures.put
    ∙ ap (λ (t : Tables). with_cells t (map put_content c.as_slice.result.now)) (c.copy-tables.ensures ∙ c.tables.ensures)
    ∙ ap (λ (xs : List (Cell × CellValue)). with_cells c.args.self.now.in_force.tables (map put_content xs)) c.as_slice.ensures.value)
    c.new-self.ensures)
