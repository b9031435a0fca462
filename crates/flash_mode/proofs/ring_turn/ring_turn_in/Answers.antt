use Rattle.std.proofs.Common.{sym, ◌∙◌, ap, ℕ, List}
use Rattle.sig_tables.specs.TickState.{Goal}
use Rattle.flash_mode.proofs.Turning.{goal-same, has-goal}
use Rattle.flash_mode.proofs.ring_turn.ring_turn_in.Goals as goal

pub returns-in_default : goal.returns-in_default
returns-in_default c = λ t h.
    ap (λ (xs : List ℕ). Goal xs) (goal-same t c.args.mode c.args.goal h)
    ∙ sym (has-goal t c.args.mode c.in_default.not-Start c.in_default.not-Flash c.in_default.not-Free c.in_default.not-Coord)
