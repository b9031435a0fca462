use Rattle.std.proofs.Common.{◌≡◌, ◌-◌, nat_le, get_or, true}
use Rattle.sig_types.specs.Phases.{is_phase}
use Rattle.sig_tables.proofs.Below.{phase-is}
use Rattle.sig_types.proofs.Members.{one-less}
use Rattle.coord_gate.proofs.Kept.{kept-more, kept-end}
use Rattle.coord_gate.proofs.members.reached.Goals as goal

pub members-smaller : goal.members-smaller
members-smaller c =
    let is : is_phase c.least-phase.result ≡ true = phase-is _ c.least-phase.ensures.above c.least-phase.ensures.within in
    one-less c.members.left c.without-left.result c.least-phase.result is c.least-phase.ensures.has c.without-left.ensures

pub members-preserved : goal.members-preserved
members-preserved c =
    kept-more c.args.among c.members.passed c.with_if-passed.result c.members.left c.without-left.result c.least-phase.result _
    (λ p. nat_le (get_or c.args.moments.now (p - 1) 0) c.args.counter) c.members.invariant c.least-phase.ensures.has c.with_if-passed.ensures.has
    c.has_come.ensures c.without-left.ensures

pub returns : goal.returns
returns c = kept-end c.args.among c.members.passed c.members.left (λ p. nat_le (get_or c.args.moments.now (p - 1) 0) c.args.counter) c.members.invariant (c.is_empty.ensures.empty.0 c.members-test.false)
