use Rattle.std.proofs.Common.{arith}
use Rattle.link_sim.proofs.Goes.{some_of}
use Rattle.link_sim.proofs.link.Link.down.Goals as goal

pub returns-in-Ok-clause-reaches : goal.returns-in-Ok-clause-reaches
returns-in-Ok-clause-reaches c = λ place polls loads replied below stands is sending streams.
    let lines = some_of c.args.self.now.down.items place below in
    (c.in-Ok.ensures.delivers place lines sending streams below).reaches polls loads stands.lists (stands.down lines) is

pub returns-in-Ok-clause-stands : goal.returns-in-Ok-clause-stands
returns-in-Ok-clause-stands c = λ place polls loads replied below stands is sending.
    let given = some_of c.in-Ok.all.items place (omega (arith, below, c.in-Ok.ensures.count)) in
    record {
      lists = stands.lists;
      down = λ d. (c.in-Ok.ensures.delivers place d sending given below).holds polls loads stands.lists (stands.down d) is;
      up = stands.up;
    }

pub returns-in-Err-clause-again : goal.returns-in-Err-clause-again
returns-in-Err-clause-again c = λ place polls loads replied below stands is. record {
  lists = stands.lists;
  down = λ d. c.in-Err.ensures.stays place d below _ (stands.down d) is;
  up = stands.up;
}
