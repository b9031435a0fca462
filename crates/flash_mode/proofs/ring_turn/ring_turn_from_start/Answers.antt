use Rattle.std.proofs.Common.{sym, ◌∙◌}
use Rattle.std.proofs.lemmas.Bool.{false≢true}
use Rattle.sig_tables.specs.TickState.{ring_turn_in}
use Rattle.flash_mode.proofs.Turning.{from-start, none-up, some-up}
use Rattle.flash_mode.proofs.ring_turn.ring_turn_from_start.Goals as goal

pub returns-then-is_empty : goal.returns-then-is_empty
returns-then-is_empty c = λ t h g.
    c.ring_turn_in.ensures t g
    ∙ none-up t c.args.starting (ring_turn_in t c.args.mode) h (c.is_empty.ensures.empty.0 c.if-is_empty.true)
    ∙ sym (from-start t c.args.mode c.in_default.not-Start c.in_default.not-Flash)

pub returns-else-is_empty : goal.returns-else-is_empty
returns-else-is_empty c = λ t h g.
    some-up t c.args.starting (ring_turn_in t c.args.mode) h (λ e. false≢true (sym c.if-is_empty.false ∙ c.is_empty.ensures.empty.1 e))
    ∙ sym (from-start t c.args.mode c.in_default.not-Start c.in_default.not-Flash)
