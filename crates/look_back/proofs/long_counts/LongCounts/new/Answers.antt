use Rattle.std.proofs.Common.{◌==◌, refl}
use Rattle.sig_tables.specs.Modes.{stage_of}
use Rattle.look_back.proofs.Numbers.{inputs-first}
use Rattle.look_back.proofs.long_counts.LongCounts.new.Goals as goal

pub returns : goal.returns
returns c = record {
  stage = refl;
  stages = c.new.ensures (λ m. stage_of m.frame.mode == 0);
  inputs = λ i above below. inputs-first _ c.new-2.result i above below refl c.new-2.ensures;
  first = refl;
  second = refl;
  latest = refl;
}
