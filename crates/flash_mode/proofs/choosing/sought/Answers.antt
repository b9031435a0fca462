use Rattle.std.proofs.Common.{sym, ◌∙◌, ap, Option}
use Rattle.sig_types.specs.declared.frame.Mode.{Mode}
use Rattle.flash_mode.specs.OwnMode.{other_mode}
use Rattle.flash_mode.proofs.choosing.sought.Goals as goal

pub returns-in-Some : goal.returns-in-Some
returns-in-Some c = λ preempts past f s e.
    sym (c.in-Some.ensures.sought c.args.choice.now.tables.now c.args.choice.now.version preempts past f s)

pub returns-in-None : goal.returns-in-None
returns-in-None c = λ preempts past f s e.
    c.beside.ensures
    ∙ ap
    (λ (stage : Option Mode).
    other_mode c.args.choice.now.shown.now stage c.args.choice.now.tables.now c.args.choice.now.version c.args.choice.now.command)
    e
    ∙ sym (c.in-None.ensures.sought c.args.choice.now.tables.now c.args.choice.now.version preempts past f s)
