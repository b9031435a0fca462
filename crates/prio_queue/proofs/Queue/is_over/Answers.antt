use Rattle.std.proofs.Common.{◌<◌, ◌≤◌, arith}
use Rattle.std.proofs.lemmas.Bool.{leb-true}
use Rattle.prio_queue.proofs.Leading.{all-departed}
use Rattle.prio_queue.proofs.Queue.is_over.Goals as goal

pub returns : goal.returns
returns c = record {
  over = λ past t n number s h more.
      let few : c.args.self.now.until ≤ c.from.result = leb-true c.args.self.now.until c.from.result h in
      let late : c.args.self.now.until < number = omega (arith, few, c.from.ensures, more) in
      all-departed c.args.self.now past t n number s late;
}
