use Rattle.sig_tables.specs.Past.{Past}
use Rattle.sig_tables.specs.Decide.{past_at}
use Rattle.engine.proofs.Engine.tick.Goals as goal

pub returns-then-stays_free-clause-decided : goal.returns-then-stays_free-clause-decided
returns-then-stays_free-clause-decided g c = λ h k.
    let past : Past = past_at h in
    let command = c.command_now-command.ensures.command past k.context in
    c.tick_free.ensures.given past k (c.stays_free.ensures.was past k c.if-stays_free.true)
    (c.stays_free.ensures.free past k command c.if-stays_free.true) command

pub returns-then-stays_free-clause-stands : goal.returns-then-stays_free-clause-stands
returns-then-stays_free-clause-stands g c = λ h k.
    let past : Past = past_at h in
    let command = c.command_now-command.ensures.command past k.context in
    c.tick_free.ensures.keeps past k (c.stays_free.ensures.was past k c.if-stays_free.true)
    (c.stays_free.ensures.free past k command c.if-stays_free.true) (c.stays_free.ensures.beside past k c.if-stays_free.true) command

pub returns-else-stays_free-clause-decided : goal.returns-else-stays_free-clause-decided
returns-else-stays_free-clause-decided g c = λ h k.
    let past : Past = past_at h in
    c.tick_in_any.ensures.given past k (c.command_now-command.ensures.command past k.context)

pub returns-else-stays_free-clause-stands : goal.returns-else-stays_free-clause-stands
returns-else-stays_free-clause-stands g c = λ h k.
    let past : Past = past_at h in
    c.tick_in_any.ensures.keeps past k (c.command_now-command.ensures.command past k.context)
