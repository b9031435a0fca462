use Rattle.std.proofs.Common.{◌≡◌, ◌+◌, arith, true}
use Rattle.std.proofs.lemmas.List.{get_or-replicate}
use Rattle.sig_types.specs.Phases.{is_phase}
use Rattle.sig_tables.proofs.Below.{phase-is}
use Rattle.judge.specs.Cabinet.{no_watch}
use Rattle.judge.proofs.Beginnings.{knows-first}
use Rattle.judge.proofs.cabinet.CabinetJudge.new.Goals as goal

pub returns : goal.returns
returns c = λ tables. record {
  known = knows-first c.args.joined;
  phases = λ k few.
      let ph : is_phase (k + 1) ≡ true = phase-is (k + 1) (omega arith) (omega (arith, few)) in
      rw (get_or-replicate 16 k c.new.result no_watch few) (c.new.ensures tables (k + 1) ph);
}
