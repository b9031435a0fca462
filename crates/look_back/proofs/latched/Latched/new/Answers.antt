use Rattle.std.proofs.Common.{◌-◌, ◌<◌, replicate, refl, arith}
use Rattle.std.proofs.lemmas.List.{get_or-replicate}
use Rattle.look_back.proofs.Latching.{first-colours, first-signals}
use Rattle.look_back.proofs.latched.Latched.new.Goals as goal

pub returns : goal.returns
returns c = record {
  veh = refl;
  ped = refl;
  colours = λ p above below. let few : p - 1 < 16 = omega arith in first-colours p above below (replicate 16 0) (get_or-replicate 16 (p - 1) 0 0 few);
  signals = λ p above below. let few : p - 1 < 16 = omega arith in first-signals p above below (replicate 16 0) (get_or-replicate 16 (p - 1) 0 0 few);
}
