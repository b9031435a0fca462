use Rattle.std.proofs.Common.{◌∙◌, ap, get_or, ◌-◌}
use Rattle.sig_tables.specs.View.{is_forced}
use Rattle.ring_barrier.proofs.Sets.{member-of}
use Rattle.ring_barrier.proofs.Views.{not-forced}
use Rattle.ring_barrier.proofs.ending.is_forced.Goals as goal

pub returns : goal.returns
returns c = λ w s.
    c.holds.ensures ∙ member-of c.args.view.now.forced (is_forced w) s.forced (not-forced w) (get_or c.args.view.now.rings.on (c.args.ring - 1) 0)
    ∙ ap (is_forced w) (s.rings.on c.args.ring c.requires.from c.requires.to)
