use Rattle.std.proofs.Common.{List, ℕ, subst, sym, ◌∙◌, arith}
use Rattle.trace_writer.specs.Bytes.{Puts}
use Rattle.trace_writer.specs.Handing.{held_by}
use Rattle.trace_writer.proofs.Writing.{front_held, held_front, held_all}
use Rattle.trace_writer.proofs.Handed.{rises_later}
use Rattle.trace_writer.proofs.writer.Writer.put.Goals as goal

pub returns-in-Err : goal.returns-in-Err
returns-in-Err g c = record {
  whole = tt;
  front = front_held _ _ (held_by c.args.self.now) c.args.bytes.now c.in-Err.ensures.writes.front;
  fault = c.in-Err.ensures.writes.fault;
  counts = tt;
  kept = c.in-Err.ensures.writes.kept;
}

pub returns-in-Ok-put_all : goal.returns-in-Ok-put_all
returns-in-Ok-put_all g c = record {
  whole = subst (λ (x : List ℕ). Puts (g.K.Sink.written c.args.sink.now) (g.K.Sink.written c.put_all.new.sink) (held_by c.args.self.now) x c.args.bytes.now)
      (sym c.in-Ok.ensures.none)
      (held_all _ _ _ _ _ c.in-Ok.ensures.writes.whole c.in-Ok-put_all.ensures.ok);
  front = tt;
  fault = λ e. absurd (cc);
  counts = λ is. c.in-Ok-put_all.ensures.exact is ∙ c.in-Ok.ensures.writes.counts is;
  kept = omega (arith, c.in-Ok.ensures.writes.kept, c.in-Ok-put_all.ensures.kept);
}

pub returns-in-Err-put_all : goal.returns-in-Err-put_all
returns-in-Err-put_all g c = record {
  whole = tt;
  front = held_front _ _ _ _ _ c.in-Ok.ensures.writes.whole c.in-Err-put_all.ensures.err;
  fault = λ e. rises_later _ _ _ c.in-Ok.ensures.writes.kept c.in-Err-put_all.ensures.fault;
  counts = tt;
  kept = omega (arith, c.in-Ok.ensures.writes.kept, c.in-Err-put_all.ensures.kept);
}
