use Rattle.std.proofs.Common.{◌≡◌, ℕ, max, true, ap, arith}
use Rattle.sig_types.specs.PhaseSet.{phases_of}
use Rattle.sig_types.specs.Phases.{is_phase}
use Rattle.sig_tables.specs.Sums.{greatest}
use Rattle.sig_tables.proofs.Below.{phase-is}
use Rattle.pattern_plan.specs.LayoutStands.{at_phase}
use Rattle.sig_types.proofs.Members.{one-less}
use Rattle.pattern_plan.proofs.Greatest.{greatest-one-less}
use Rattle.pattern_plan.proofs.side.Side.greatest_in.Goals as goal

pub members-smaller : goal.members-smaller
members-smaller c =
    let is : is_phase c.least-phase.result ≡ true = phase-is _ c.least-phase.ensures.above c.least-phase.ensures.within in
    one-less c.members.left c.without-left.result c.least-phase.result is c.least-phase.ensures.has c.without-left.ensures

pub members-preserved : goal.members-preserved
members-preserved c =
    let is : is_phase c.least-phase.result ≡ true = phase-is _ c.least-phase.ensures.above c.least-phase.ensures.within in
    moved (at_phase c.args.numbers.now c.least-phase.result) c.members.most _ _ _ _ c.max-most.ensures
    (greatest-one-less (at_phase c.args.numbers.now) c.members.left c.without-left.result c.least-phase.result is c.least-phase.ensures.has c.without-left.ensures)
    c.members.invariant
  where
    moved : (one most new left less all : ℕ) → new ≡ max one most → left ≡ max one less → max most left ≡ all → max new less ≡ all
    moved one most new left less all e f h = omega arith

pub returns : goal.returns
returns c =
    let none : greatest (at_phase c.args.numbers.now) (phases_of c.members.left) ≡ 0 =
    ap (greatest (at_phase c.args.numbers.now)) (c.is_empty.ensures.empty.0 c.members-test.false) in
    rest c.members.most _ _ none c.members.invariant
  where
    rest : (most left all : ℕ) → left ≡ 0 → max most left ≡ all → most ≡ all
    rest most left all e h = omega arith
