use Rattle.std.proofs.Common.{◌≤◌, ◌∙◌, length, sym, ap, subst, arith}
use Rattle.std.proofs.lemmas.Bool.{false≢true}
use Rattle.snmp_msg.specs.declared.message.Message.{Message}
use Rattle.snmp_msg.specs.Shortest.{shortest}
use Rattle.agent.specs.Replies.{response, repeated}
use Rattle.agent.proofs.Rooms.{repeated_fits}
use Rattle.agent.proofs.reply.repeated.Goals as goal

pub unreachable-requires : goal.unreachable-requires
unreachable-requires c =
    let m = c.args.m.now in
    let same = c.response.ensures.message ∙ ap (response m c.args.status c.args.index) c.as_slice.ensures.value in
    let fits : length (shortest (repeated m c.args.status c.args.index)) ≤ 1472 = omega (arith, c.requires.fits, repeated_fits m c.args.status c.args.index c.requires.few_statuses c.requires.few_places) in
    false≢true (c.in-Err.ensures.variant.1 (subst (λ (r : Message). length (shortest r) ≤ 1472) (sym same) fits))
