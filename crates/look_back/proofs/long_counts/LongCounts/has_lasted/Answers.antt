use Rattle.std.proofs.Common.{◌≡◌, ◌*◌, arith}
use Rattle.std.proofs.lemmas.Bool.{ne_eqb}
use Rattle.sig_tables.specs.Cells.{preempt_of}
use Rattle.look_back.proofs.Numbers.{unserved}
use Rattle.look_back.proofs.long_counts.LongCounts.has_lasted.Goals as goal

pub returns-else-number-self : goal.returns-else-number-self
returns-else-number-self c = λ t past stands time.
    let least : c.from-least.result * 10 ≡ 10 * (preempt_of t c.args.number).minimum_duration = omega (arith, time, c.from-least.ensures) in
    rw least (unserved _ c.args.number c.args.self.now.stage past stands.stage (ne_eqb c.args.number c.args.self.now.stage c.if-number-self.false))
