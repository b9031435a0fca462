use Rattle.std.proofs.Common.{◌∙◌, ℕ, List, subst, arith}
use Rattle.scenario_data.specs.Content.{cabinet_content}
use Rattle.runnable.specs.Cabinets.{opening_history}
use Rattle.cabinet_history.specs.CabinetHistory.{opened}
use Rattle.cab_book.specs.Books.{BookStands}
use Rattle.round_run.proofs.Opening.{is-new, no-ticks}
use Rattle.round_run.proofs.books.book_by.Goals as goal

pub new-cabinet-requires : goal.new-cabinet-requires
new-cabinet-requires c =
    let s = cabinet_content c.args.setup.now in
    record { new = (opening_history s, c.requires.control, is-new s c.requires.can (c.opening_tables_in_range.ensures s)) }

pub new-requires-clause-some : goal.new-requires-clause-some
new-requires-clause-some c =
    let s = cabinet_content c.args.setup.now in (
      opened c.same_community.result.items (opening_history s),
      c.new-cabinet.ensures.stands (opening_history s) c.requires.control (is-new s c.requires.can (c.opening_tables_in_range.ensures s)),
    )

pub new-requires-clause-few : goal.new-requires-clause-few
new-requires-clause-few c =
    let s = cabinet_content c.args.setup.now in
    let none = no-ticks _ c.same_community.result.items s
    (c.new-cabinet.ensures.stands (opening_history s) c.requires.control (is-new s c.requires.can (c.opening_tables_in_range.ensures s))) in
    omega (arith, none)

pub returns-in-Ok-clause-stands : goal.returns-in-Ok-clause-stands
returns-in-Ok-clause-stands c =
    let s = cabinet_content c.args.setup.now in
    subst (λ (community : List ℕ). BookStands c.in-Ok.book (opened community (opening_history s))) c.same_community.ensures
    (c.in-Ok.ensures.stands (opened c.same_community.result.items (opening_history s))
    (c.new-cabinet.ensures.stands (opening_history s) c.requires.control (is-new s c.requires.can (c.opening_tables_in_range.ensures s))))

pub returns-in-Ok-clause-ticks : goal.returns-in-Ok-clause-ticks
returns-in-Ok-clause-ticks c =
    let s = cabinet_content c.args.setup.now in
    c.in-Ok.ensures.ticks ∙ no-ticks _ c.same_community.result.items s
    (c.new-cabinet.ensures.stands (opening_history s) c.requires.control (is-new s c.requires.can (c.opening_tables_in_range.ensures s)))
