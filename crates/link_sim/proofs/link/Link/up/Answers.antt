use Rattle.std.proofs.Common.{◌<◌, length, arith}
use Rattle.link_sim.proofs.Goes.{some_of}
use Rattle.link_sim.proofs.link.Link.up.Goals as goal

pub returns-in-Ok-clause-arrive : goal.returns-in-Ok-clause-arrive
returns-in-Ok-clause-arrive c = λ s place polls loads replied below stands is replies arrived.
    let even = c.args.self.now.even in
    let within : place < length c.args.self.now.up.items = omega (arith, even, below) in
    let lines = some_of c.args.self.now.up.items place within in
    (c.in-Ok.ensures.returns s place lines replies arrived within).arrive replied stands.lists (stands.up lines) is

pub returns-in-Ok-clause-stands : goal.returns-in-Ok-clause-stands
returns-in-Ok-clause-stands c = λ s place polls loads replied below stands is replies.
    let even = c.args.self.now.even in
    let within : place < length c.args.self.now.up.items = omega (arith, even, below) in
    record {
      lists = stands.lists;
      down = stands.down;
      up = λ d. (c.in-Ok.ensures.returns s place d replies replies within).holds replied stands.lists (stands.up d) is;
    }

pub returns-in-Err-clause-again : goal.returns-in-Err-clause-again
returns-in-Err-clause-again c = λ s place polls loads replied below stands is.
    let even = c.args.self.now.even in
    let within : place < length c.args.self.now.up.items = omega (arith, even, below) in
    record {
      lists = stands.lists;
      down = stands.down;
      up = λ d. c.in-Err.ensures.stays place d within replied (stands.up d) is;
    }
