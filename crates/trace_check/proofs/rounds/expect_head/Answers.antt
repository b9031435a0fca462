use Rattle.std.proofs.Common.{map}
use Rattle.trace_text.specs.declared.lines.Line.TheVariants.{M}
use Rattle.trace_laws.specs.Script.{say}
use Rattle.trace_check.specs.Expecting.{fails-on}
use Rattle.trace_check.proofs.Walking.{leads-on}
use Rattle.trace_check.proofs.rounds.expect_head.Goals as goal

pub returns-in-Ok-tell_notes : goal.returns-in-Ok-tell_notes
returns-in-Ok-tell_notes c = λ rest.
    leads-on _ (say (map M c.args.notes.now) rest) rest c.args.at c.tell.new.self.at c.tell_notes.new.teller.at (c.in-Ok.ensures (say (map M c.args.notes.now) rest)) (c.in-Ok-tell_notes.ensures rest)

pub returns-in-Err-tell_notes : goal.returns-in-Err-tell_notes
returns-in-Err-tell_notes c = λ rest.
    fails-on _ (say (map M c.args.notes.now) rest) c.args.at c.tell.new.self.at c.in-Err-tell_notes.fail (c.in-Ok.ensures (say (map M c.args.notes.now) rest)) (c.in-Err-tell_notes.ensures rest)
