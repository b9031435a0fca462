use Rattle.std.proofs.Common.{◌<◌, ◌^◌, ◌∙◌, arith}
use Rattle.scenario_file.proofs.Numbers.{made}
use Rattle.scenario_file.proofs.trees.whole_number.Goals as goal

pub returns-in-Some : goal.returns-in-Some
returns-in-Some c =
    let whole = c.in_ok-whole.whole in
    let few : whole < 2 ^ 64 = omega arith in
    c.in_ok-whole.ensures ∙ made c.from_u128.result c.in-Some.number c.from.result whole c.in-Some.is c.from_u128.ensures c.from.ensures few
