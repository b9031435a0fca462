use Rattle.std.proofs.Common.{◌≤◌, arith}
use Rattle.sig_tables.proofs.Below.{is-within}
use Rattle.engine.proofs.Engine.place_left.Goals as goal

pub returns-then-phase-gt16 : goal.returns-then-phase-gt16
returns-then-phase-gt16 g c = record {
  left = λ past k keeps b some within h. let few : c.args.phase ≤ 16 = is-within c.args.phase h in absurd (omega arith);
}

pub returns-else-phase-gt16 : goal.returns-else-phase-gt16
returns-else-phase-gt16 g c = record {
  left = λ past k keeps b some within h. c.phase_left.ensures.left past k keeps b some within;
}
