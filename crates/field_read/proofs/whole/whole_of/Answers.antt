use Rattle.std.proofs.Common.{rules, ◌≡◌, true, length, subst, arith}
use Rattle.std.specs.List.{list_all}
use Rattle.field_read.proofs.Narrow.{detector_within, pulse_within}
use Rattle.field_read.proofs.Saying.{says-names}
use Rattle.field_read.proofs.whole.whole_of.Goals as goal

pub returns : goal.returns
returns c = λ ms s.
    let parts = c.args.parts in
    let source = c.in-Some.source in
    let inside : c.lie_within.result ≡ true = grind arith in
    let counted : c.len-cabinets.result ≡ length source.scenario.cabinets.items = search rules in
    says-names parts source ms c.in-Some.is s
    (subst (λ n. list_all (detector_within n) parts.bank.items ≡ true) counted (c.lie_within.ensures.bank inside))
    (subst (λ n. list_all (pulse_within source.scenario.rounds n) parts.pulses.items ≡ true) counted (c.lie_within.ensures.pulses inside))
