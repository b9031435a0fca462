use Rattle.std.proofs.Common.{◌∙◌, ap, sym, not, ◌==◌, ℕ}
use Rattle.std.proofs.Math.Bool.{not-not}
use Rattle.sig_tables.specs.Tables.{clearance}
use Rattle.sig_tables.specs.View.{later, on_phase, is_wanted}
use Rattle.ring_barrier.proofs.Lists.{some-first}
use Rattle.ring_barrier.proofs.Views.{zero-wanted, wanted-on}
use Rattle.ring_barrier.proofs.ending.has_no_later.Goals as goal

pub returns : goal.returns
returns c = λ w s on.
    let test = is_wanted w (clearance w.tables (on_phase w c.args.ring)) in
    sym (not-not (c.first_later.result == 0))
    ∙ ap (λ (n : ℕ). not (not (n == 0)))
    (c.first_later.ensures w s test (wanted-on c.args.view.now w c.args.ring s.shows c.requires.from c.requires.to on))
    ∙ ap not (sym (some-first test (later w c.args.ring) (zero-wanted w (clearance w.tables (on_phase w c.args.ring)) s.shows.demand)))
